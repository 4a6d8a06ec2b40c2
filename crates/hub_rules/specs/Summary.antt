-- Request F-1 of document 02: the rows after `set accepted` rise by set number.
-- Assumes nothing.
use Rattle.std.specs.Prelude.{◌≡◌, List, [], ◌∷◌, ◌++◌, ◌⊎◌, ℕ, ◌<◌, ◌≤◌}
use Rattle.text.specs.Numerals.{decimal}
use Rattle.hub_rules.specs.Whole.{first_line, heading, summary_head, lines_of, at_most, answers_from, count_for, hub}

-- a row: a set, and how many lines it accepted
pub record Count : Type 0 where
  pub set : ℕ
  pub lines : ℕ

-- a row's text: set, one space, count, in decimal, and LF
unfoldable pub rows_text : List Count → List ℕ
rows_text [] = []
rows_text (r ∷ rs) = (decimal r.set ++ ((32 ∷ decimal r.lines) ++ (10 ∷ []))) ++ rows_text rs

-- the sets rise strictly, the first above n
abbrev pub RisingFrom : ℕ → List Count → Type 0
RisingFrom n [] = Unit {0}
RisingFrom n (r ∷ rs) = (n < r.set) × RisingFrom r.set rs

-- a row is in a list
abbrev pub Holds : List Count → Count → Type 0
Holds [] r = ⊥
Holds (x ∷ xs) r = (r ≡ x) ⊎ Holds xs r

-- the rows of the lines that were read
pub record Rows (read : List (List ℕ)) (rows : List Count) : Type 0 where
  -- as numbers: 10 comes after 9
  pub rising : RisingFrom 0 rows
  -- (s, n) is among them exactly when 1 ≤ s ≤ 10 and n, the number of accepted lines of s, is not 0
  pub only : (r : Count) → Holds rows r → (1 ≤ r.set) × (r.set ≤ 10) × (r.lines ≡ count_for r.set read) × (r.lines ≡ 0 → ⊥)
  pub each : (s : ℕ) → 1 ≤ s → s ≤ 10 → (count_for s read ≡ 0 → ⊥) → Holds rows (record { set = s; lines = count_for s read })

-- Of an input whose first line is right, ls being the others: at most 9,999 of them are read, each gives its answer, and the text after
-- the line `set accepted` is the text of such a list.
pub record Summed (input : List ℕ) (ls : List (List ℕ)) : Type 0 where
  pub rows : List Count
  pub are : Rows (at_most 9999 ls) rows
  pub output-is : hub input ≡ heading ++ (answers_from 1 (at_most 9999 ls) ++ (summary_head ++ rows_text rows))

abbrev pub Summary : Type 0
Summary = (input : List ℕ) (ls : List (List ℕ)) → lines_of input ≡ first_line ∷ ls → Summed input ls
