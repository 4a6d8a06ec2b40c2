-- The refusals of the code beside the table of all answers: each variant's number and word.
-- Assumes nothing.
use Rattle.std.specs.Prelude.{◌≡◌, List, [], ◌∷◌, ℕ, map, Result, Ok, Err, Contains, codes}
use Rattle.answers.specs.declared.refusals.Refusal.{Refusal}
use Rattle.answers.specs.declared.refusals.Refusal.TheVariants.{Set, Key, Nonce, Data, Text, Stub, Buffer, False, Stale, Spent, Line, Console, Name, Mark, Repeat}
use Rattle.answers.specs.Table.{Entry, table, numbers_of}

abbrev pub number_of_refusal : Refusal → ℕ
number_of_refusal Set = 1
number_of_refusal Key = 2
number_of_refusal Nonce = 3
number_of_refusal Data = 4
number_of_refusal Text = 5
number_of_refusal Stub = 6
number_of_refusal Buffer = 7
number_of_refusal False = 8
number_of_refusal Stale = 9
number_of_refusal Spent = 10
number_of_refusal Line = 11
number_of_refusal Console = 12
number_of_refusal Name = 13
number_of_refusal Mark = 14
number_of_refusal Repeat = 15

-- what C is answered: 0 where the call was accepted
abbrev pub number_of : {A : Type 0} → Result A Refusal → ℕ
number_of (Ok x) = 0
number_of (Err r) = number_of_refusal r

-- the bytes of the word that is printed
abbrev pub word_of : Refusal → List ℕ
word_of Set = codes "set"
word_of Key = codes "key"
word_of Nonce = codes "nonce"
word_of Data = codes "data"
word_of Text = codes "text"
word_of Stub = codes "stub"
word_of Buffer = codes "buffer"
word_of False = codes "false"
word_of Stale = codes "stale"
word_of Spent = codes "spent"
word_of Line = codes "line"
word_of Console = codes "console"
word_of Name = codes "name"
word_of Mark = codes "mark"
word_of Repeat = codes "repeat"

-- all of them, in the table's order
abbrev pub refusals : List Refusal
refusals =
    Set ∷ Key ∷ Nonce ∷ Data ∷ Text ∷ Stub ∷ Buffer ∷ False ∷ Stale ∷ Spent ∷ Line ∷ Console ∷ Name ∷ Mark ∷ Repeat ∷ []

-- the words of a table
unfoldable pub words_of : List Entry → List (List ℕ)
words_of [] = []
words_of (e ∷ es) = codes e.word ∷ words_of es

-- the variants are the table's rows from 1 on, each with its number and its word
pub record AreTheTables : Type 0 where
  pub all : (r : Refusal) → Contains refusals r
  pub their_numbers : 0 ∷ map number_of_refusal refusals ≡ numbers_of table
  pub their_words : codes "accepted" ∷ map word_of refusals ≡ words_of table
