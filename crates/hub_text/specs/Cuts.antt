-- A line cut at its spaces, as the code has it.
-- Assumes nothing.
use Rattle.std.specs.Prelude.{◌≡◌, List, [], ◌∷◌, ℕ, ◌-◌, Option, MatchOption, length, take, drop}
use Rattle.hub_text.specs.declared.cut.Words.{Words}
use Rattle.hub_grammar.specs.Lines.{words_of}

-- the characters from one place to another
abbrev pub part : List ℕ → ℕ → ℕ → List ℕ
part s i j = take (j - i) (drop i s)

abbrev pub list_of : Words → List (List ℕ)
list_of w = w.act.now ∷ w.set.now ∷ w.key.now ∷ w.nonce.now ∷ w.ad.now ∷ w.text.now ∷ []

-- the words of a line where there are six, and none where there is another number
abbrev pub Cuts : List ℕ → Option Words → Type 0
Cuts s r = MatchOption r (length (words_of s) ≡ 6 → ⊥) (λ w. words_of s ≡ list_of w)
