-- The whole run: bytes in, bytes out.
-- Assumes nothing.
use Rattle.std.specs.Prelude.{cond, List, [], ◌∷◌, ◌++◌, ℕ, zero, suc, ◌+◌, eqb, length}
use Rattle.octets.specs.Strings.{eqs}
use Rattle.text.specs.Numerals.{decimal}
use Rattle.hub_grammar.specs.Lines.{parse}
use Rattle.hub_rules.specs.Answers.{accepted_set, line_for}

-- the number of the last line that is read
abbrev pub last_line : ℕ
last_line = 9999

-- `act set key nonce data text`
abbrev pub first_line : List ℕ
first_line =
    97 ∷ 99 ∷ 116 ∷ 32 ∷ 115 ∷ 101 ∷ 116 ∷ 32 ∷ 107 ∷ 101 ∷ 121 ∷ 32 ∷ 110 ∷ 111 ∷ 110 ∷ 99 ∷ 101 ∷ 32 ∷ 100 ∷ 97 ∷ 116 ∷ 97 ∷ 32 ∷ 116 ∷ 101 ∷ 120 ∷ 116 ∷ []

-- `line answer result`, and LF
abbrev pub heading : List ℕ
heading = 108 ∷ 105 ∷ 110 ∷ 101 ∷ 32 ∷ 97 ∷ 110 ∷ 115 ∷ 119 ∷ 101 ∷ 114 ∷ 32 ∷ 114 ∷ 101 ∷ 115 ∷ 117 ∷ 108 ∷ 116 ∷ 10 ∷ []

-- `0 11 -`, and LF
abbrev pub wrong_first : List ℕ
wrong_first = 48 ∷ 32 ∷ 49 ∷ 49 ∷ 32 ∷ 45 ∷ 10 ∷ []

-- `set accepted`, and LF
abbrev pub summary_head : List ℕ
summary_head = 115 ∷ 101 ∷ 116 ∷ 32 ∷ 97 ∷ 99 ∷ 99 ∷ 101 ∷ 112 ∷ 116 ∷ 101 ∷ 100 ∷ 10 ∷ []

-- LF ends a line and begins none: w is the line so far
unfoldable pub lines_from : List ℕ → List ℕ → List (List ℕ)
lines_from w [] = cond (eqb (length w) 0) [] (w ∷ [])
lines_from w (c ∷ s) = cond (eqb c 10) (w ∷ lines_from [] s) (lines_from (w ++ (c ∷ [])) s)

abbrev pub lines_of : List ℕ → List (List ℕ)
lines_of s = lines_from [] s

-- the first n of a list
unfoldable pub at_most : ℕ → List (List ℕ) → List (List ℕ)
at_most zero ls = []
at_most (suc n) [] = []
at_most (suc n) (l ∷ ls) = l ∷ at_most n ls

-- the answers, numbered from n
unfoldable pub answers_from : ℕ → List (List ℕ) → List ℕ
answers_from n [] = []
answers_from n (l ∷ ls) = line_for n l ++ answers_from (n + 1) ls

-- how many lines a set accepted
unfoldable pub count_for : ℕ → List (List ℕ) → ℕ
count_for set [] = 0
count_for set (l ∷ ls) = cond (eqb (accepted_set (parse l)) set) 1 0 + count_for set ls

-- a row for each set with any, by set number
unfoldable pub row_for : ℕ → ℕ → List ℕ
row_for set n = cond (eqb n 0) [] (decimal set ++ ((32 ∷ decimal n) ++ (10 ∷ [])))

unfoldable pub rows_from : ℕ → ℕ → List (List ℕ) → List ℕ
rows_from zero set ls = []
rows_from (suc k) set ls = row_for set (count_for set ls) ++ rows_from k (set + 1) ls

unfoldable pub after_the_first : List (List ℕ) → List ℕ
after_the_first ls = let read = at_most last_line ls in answers_from 1 read ++ (summary_head ++ rows_from 10 1 read)

unfoldable pub output_of : List (List ℕ) → List ℕ
output_of [] = wrong_first
output_of (l ∷ ls) = cond (eqs l first_line) (after_the_first ls) wrong_first

-- the hub program
unfoldable pub hub : List ℕ → List ℕ
hub input = heading ++ output_of (lines_of input)
