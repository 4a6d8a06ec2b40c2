-- What is proved of the two calls about marks: F-5 of document 02, sentence by sentence.
-- Assumes nothing.
use Rattle.std.specs.Prelude.{◌≡◌, true, false, List, ◌++◌, ℕ, ◌≤◌, eqb, length, take, drop}
use Rattle.octets.specs.Strings.{Bytes}
use Rattle.octets.specs.Count.{count}
use Rattle.answers.specs.Rows.{Decides}
use Rattle.fips197.specs.Schedule.{is_key}
use Rattle.cmac_rules.specs.Cmac.{cmac}
use Rattle.cmac_rules.specs.Marks.{make_rows, check_rows, is_wrong, check_answer, MakeCall, CheckCall}
use Rattle.cmac_rules.specs.Examples.{Subkeys, Figure, Starts, make_calls, right_marks, wrong_marks, makes_so, checks_so}

-- a key of 16, 24 or 32 bytes, a log of at most 65,536, and a mark of 4 to 16
pub record Given (key : List ℕ) (log n : ℕ) : Type 0 where
  pub is-key : is_key key ≡ true
  pub limit : log ≤ 65536
  pub least : 4 ≤ n
  pub most : n ≤ 16

-- what a making answers and leaves
pub record Made (key log : List ℕ) (n : ℕ) (out : List ℕ) (r : ℕ) (out' : List ℕ) : Type 0 where
  pub decides : Decides (make_rows key (length log) n (length out)) r
  pub accepted : Given key (length log) n → n ≤ length out → r ≡ 0
  -- a refusal writes nothing
  pub untouched : (r ≡ 0 → ⊥) → out' ≡ out
  -- the first n bytes of the code, and no byte after them changed
  pub written : r ≡ 0 → Bytes key → out' ≡ take n (cmac key log) ++ drop n out

-- what a checking answers
pub record Checked (key log m : List ℕ) (r : ℕ) : Type 0 where
  pub decides : Decides (check_rows key (length log) (length m) (is_wrong key log m)) r
  -- yes exactly when the mark given is the code's start of that length
  pub right : r ≡ 0 → m ≡ take (length m) (cmac key log)
  pub yes : Given key (length log) (length m) → m ≡ take (length m) (cmac key log) → r ≡ 0
  -- 8 exactly when it is not
  pub wrong : r ≡ 8 → m ≡ take (length m) (cmac key log) → ⊥
  pub no : Given key (length log) (length m) → (m ≡ take (length m) (cmac key log) → ⊥) → r ≡ 8

pub record MarkTheorems : Type 1 where
  -- the examples of specs/Examples
  pub subkeys : Subkeys
  pub figure : Figure
  pub starts : Starts
  pub making-examples : makes_so make_calls ≡ true
  pub checking_examples : (checks_so false right_marks ≡ true) × (checks_so true wrong_marks ≡ true)
  -- what each call answers and leaves
  pub makes : (key log : List ℕ) (n : ℕ) (out : List ℕ) (r : ℕ) (out' : List ℕ) → MakeCall key log n out r out' → Made key log n out r out'
  pub checks : (key log m : List ℕ) (r : ℕ) → CheckCall key log m r → Checked key log m r
  -- the code has 16 bytes, so that a mark has the length asked for
  pub size : (key log : List ℕ) → Bytes key → is_key key ≡ true → length (cmac key log) ≡ 16
  -- what a making wrote, a checking under the same key and log accepts
  pub agree : (key log : List ℕ) (n : ℕ) (out : List ℕ) (r : ℕ) (out' : List ℕ) → Bytes key → MakeCall key log n out r out' → r ≡ 0 →
      CheckCall key log (take n out') 0
  -- of all strings of n bytes exactly one is accepted
  pub one : (key log : List ℕ) (n : ℕ) → Bytes key → Given key (length log) n → count n (λ m. eqb (check_answer key log m) 0) ≡ 1
