-- What the calls promise of the state, of what they say and of what they use up.
-- Assumes nothing.
use Rattle.std.specs.Prelude.{◌≡◌, List, ℕ, ◌+◌, ◌<◌, ◌≤◌, length, take}
use Rattle.text.specs.Writing.{Puts}
use Rattle.hub_run.specs.Held.{Held}
use Rattle.hub_run.specs.declared.chunk.Fed.{Fed}
use Rattle.hub_rules.specs.Stream.{line_room, State, ended, end_says, after, output, buffer, line_used, chunk_used}

-- room for the summary: its heading, and ten rows of at most 12 bytes
abbrev pub summary_room : ℕ
summary_room = 133

-- room for what is said at the end: a last line, and the summary
abbrev pub end_room : ℕ
end_room = line_room + summary_room

-- a step to the state st: h has it, and s is said, r bytes over the first of d, which gives out
pub record Goes (st : State) (s : List ℕ) (h : Held) (r : ℕ) (d out : List ℕ) : Type 0 where
  pub state-is : h.state ≡ st
  pub said : Puts s r d out

-- what the end of the line that is held promises
pub record Ends (h : Held) (r : ℕ) (h' : Held) (d out : List ℕ) : Type 0 where
  pub goes : Goes (ended h.state) (end_says h.state) h' r d out
  pub bytes_are : h'.bytes ≡ h.bytes

-- what feeding n bytes of a chunk promises; where it has a byte, one at least is used up
pub record Feeds (n : ℕ) (h : Held) (chunk : List ℕ) (r : Fed) (h' : Held) (d out : List ℕ) : Type 0 where
  pub used_is : r.used ≡ n
  pub used_most : r.used ≤ length chunk
  pub used_some : 0 < length chunk → 0 < r.used
  pub written-most : r.written ≤ length d
  pub goes : let s = take r.used chunk in
      Goes (after h.state s) (output h.state s) h' r.written d out
  pub bytes_are : h'.bytes ≡ buffer h.state h.bytes (take r.used chunk)

-- a line of it, and as much as there is room for
abbrev pub FeedsLine : Held → List ℕ → Fed → Held → List ℕ → List ℕ → Type 0
FeedsLine h chunk r h' d out = Feeds (line_used h.state chunk) h chunk r h' d out

abbrev pub FeedsChunk : Held → List ℕ → Fed → Held → List ℕ → List ℕ → Type 0
FeedsChunk h chunk r h' d out = Feeds (chunk_used h.state (length d) chunk) h chunk r h' d out
