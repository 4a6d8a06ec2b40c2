-- What a clause sees of the state as the code has it: the line so far with the buffer that holds it, and the state of the run.
-- Assumes nothing.
use Rattle.std.specs.Prelude.{Bool, List, ◌++◌, ℕ, ◌+◌, ◌-◌, ◌<◌, ◌≤◌, length, take, get_or}
use Rattle.hub_rules.specs.Stream.{line_kept, State, overlaid}
use Rattle.hub_rules.specs.Whole.{last_line}

-- the line so far, as much of it as is kept, and the whole buffer that holds it
pub record Kept : Type 0 where
  pub line : List ℕ
  pub bytes : List ℕ

-- more of the line, put behind it in the buffer
abbrev pub extended : Kept → List ℕ → Kept
extended k piece =
    record {
      line = take line_kept (k.line ++ piece);
      bytes = overlaid (length k.line) (take (line_kept - length k.line) piece) k.bytes;
    }

-- the state of the run, and the whole buffer
pub record Held : Type 0 where
  pub state : State
  pub bytes : List ℕ

-- the same of a Hub's fields
abbrev pub value_of : ℕ → Bool → List ℕ → Kept → Held
value_of lines wrong counts l = record { state = record { lines = lines; wrong = wrong; counts = counts; line = l.line }; bytes = l.bytes }

-- every number of a list is below n
abbrev pub Below : List ℕ → ℕ → Type 0
Below s n = (i : ℕ) → get_or s i 0 < n

-- what holds of every state that a run comes to, beside what holds of every line: at most the last line has ended, and a set accepted
-- no more lines than have ended after the first
pub record Sound (lines : ℕ) (counts : List ℕ) : Type 0 where
  pub lines-most : lines ≤ last_line + 1
  pub counts-most : (i : ℕ) → get_or counts i 0 ≤ lines - 1
