-- What a line is answered, as statements: by the rows of a table, and by the plain calls.
-- Assumes nothing.
use Rattle.std.specs.Prelude.{◌≡◌, Bool, true, false, cond, List, [], ◌∷◌, ◌++◌, ℕ, ◌+◌, ◌-◌, ◌<◌, ◌≤◌, eqb, length, drop}
use Rattle.answers.specs.Rows.{Row, numbers, is_in, all_in, Decides}
use Rattle.answers.specs.Table.{table, numbers_of}
use Rattle.cba_mode.specs.Open.{is_false}
use Rattle.cba_rules.specs.Checks.{set_tag, seal_rows, open_rows}
use Rattle.cba_rules.specs.Refusals.{opening, SealCall, OpenCall}
use Rattle.cba_rules.specs.Demands.{AllBytes}
use Rattle.text.specs.Numerals.{decimal, shown}
use Rattle.hub_grammar.specs.Lines.{seal_word, open_word, Parsed, spaced, parse}
use Rattle.hub_grammar.specs.Lines.Parsed.{asked, malformed}
use Rattle.hub_rules.specs.Answers.{answer_of, result_of, accepted_set}
use Rattle.hub_rules.specs.Examples.{lines, lines_so}

-- ---- the rows

-- 11, line: malformed
abbrev pub bad_line : Bool → Row
bad_line bad = record { number = 11; when = bad }

unfoldable pub is_malformed : Parsed → Bool
is_malformed (asked q) = false
is_malformed malformed = true

-- those of the plain call that a line asks for, on an output that is longer than its text by 16 bytes
unfoldable pub call_rows : Parsed → List Row
call_rows (asked q) =
    cond q.seals (seal_rows q.set (length q.key) (length q.nonce) (length q.ad) (length q.text) (length q.text + 16))
    (open_rows q.set (length q.key) (length q.nonce) (length q.ad) (length q.text) (length q.text + 16) (is_false (opening q.set q.key q.nonce q.ad q.text)))
call_rows malformed = []

-- 11 before all others
unfoldable pub line_rows : Parsed → List Row
line_rows p = bad_line (is_malformed p) ∷ call_rows p

-- ---- the plain calls

-- six values in the order of document 01, `act set key nonce data text`, one space between
abbrev pub line_of : List ℕ → ℕ → List ℕ → List ℕ → List ℕ → List ℕ → List ℕ
line_of act set key N A text = act ++ spaced (decimal set ∷ shown key ∷ shown N ∷ shown A ∷ shown text ∷ [])

-- a line, as it is read, is answered with a plain call's answer r; its result is what the call writes, beyond which the output stays as
-- it was
pub record Says (p : Parsed) (set r : ℕ) (out out' : List ℕ) : Type 0 where
  pub answer-is : answer_of p ≡ r
  pub result_is : r ≡ 0 → out' ≡ result_of p ++ drop (length (result_of p)) out
  -- a refused line has no result
  pub refused : (r ≡ 0 → ⊥) → result_of p ≡ []
  -- an accepted one counts for its set, a refused one for none
  pub counts : accepted_set p ≡ cond (eqb r 0) set 0

-- ---- what is said of every line

pub record LineTheorems : Type 0 where
  pub examples : lines_so lines ≡ true
  -- each number exactly where its row is the first that applies, and each is in the table of all answers
  pub decides : (s : List ℕ) → Decides (line_rows (parse s)) (answer_of (parse s))
  pub in_the_table : (s : List ℕ) → all_in (numbers (line_rows (parse s))) (numbers_of table) ≡ true
  -- a line that passes 4,096 characters is malformed
  pub long : (s : List ℕ) → 4096 < length s → answer_of (parse s) ≡ 11
  -- 4 and 5 are never answered, since no line has room for such data or text, nor is 7, since the output is long enough
  pub numbered : (s : List ℕ) → is_in (answer_of (parse s)) (0 ∷ 1 ∷ 2 ∷ 3 ∷ 6 ∷ 8 ∷ 11 ∷ []) ≡ true
  -- a line with act `seal` is plain sealing of its values, whatever the output, if the sealing has room there
  pub seals : (set : ℕ) (key N A M : List ℕ) → set ≤ 999 → AllBytes key N A M → length (line_of seal_word set key N A M) ≤ 4096 →
      (out : List ℕ) → length M + set_tag set ≤ length out →
      (r : ℕ) (out' : List ℕ) → SealCall set key N A M out r out' → Says (parse (line_of seal_word set key N A M)) set r out out'
  -- a line with act `open` is plain opening of its values, whatever the output, if the message has room there
  pub opens : (set : ℕ) (key N A C : List ℕ) → set ≤ 999 → AllBytes key N A C → length (line_of open_word set key N A C) ≤ 4096 →
      (out : List ℕ) → length C - set_tag set ≤ length out →
      (r : ℕ) (out' : List ℕ) → OpenCall set key N A C out r out' → Says (parse (line_of open_word set key N A C)) set r out out'
