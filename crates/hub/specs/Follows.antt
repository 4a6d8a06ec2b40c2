-- What the program's steps promise: the state, how many bytes were written, and how the reading goes on.
-- Assumes nothing.
use Rattle.std.specs.Prelude.{◌≡◌, Bool, true, false, cond, not, List, ◌++◌, ℕ, ◌<◌, ◌≤◌, ltb, length}
use Rattle.hub.specs.declared.Going.{Going}
use Rattle.hub.specs.declared.Going.TheVariants.{More, Over, Failed}
use Rattle.hub.specs.declared.Step.{Step}
use Rattle.hub_run.specs.Held.{Held}
use Rattle.hub_rules.specs.Stream.{begin, is_done, after, output}

-- at most as long as the program's own buffers, so that the bytes that a chunk says can be counted
abbrev pub Small : List ℕ → Type 0
Small s = length s ≤ 65536

-- more is to be read
abbrev pub is_more : Going → Bool
is_more More = true
is_more Over = false
is_more Failed = false

-- where no write failed, by whether the run is over
abbrev pub going_on : Bool → Going
going_on over = cond over Over More

-- a write failed
abbrev pub has_failed : Going → Bool
has_failed More = false
has_failed Over = false
has_failed Failed = true

-- From h to h' by the bytes of s, which say `output h.state s`.
pub record Follows (h : Held) (s : List ℕ) (r : Step) (h' : Held) : Type 0 where
  pub read_is : r.read ≡ length s
  -- by what the writes answered: a write failed exactly where fewer bytes were written than s says, and more never are
  pub wrote_most : r.wrote ≤ length (output h.state s)
  pub failed_is : has_failed r.going ≡ ltb r.wrote (length (output h.state s))
  -- unless one failed, the state is the one after s
  pub state-is : has_failed r.going ≡ false → h'.state ≡ after h.state s
  -- more is read only where no write failed and the run is not over, and always where s was read and both hold
  pub goes_on : is_more r.going ≡ true → (has_failed r.going ≡ false) × (is_done h'.state ≡ false)
  pub more-is : has_failed r.going ≡ false → 0 < length s → is_more r.going ≡ not (is_done h'.state)

-- What the whole of the reading comes to: there are strings, earlier, which was all said, and then last, by which the result is so. No
-- contract can say that they are what was read.
pub record Reached (r : Step) (h' : Held) : Type 0 where
  pub earlier : List ℕ
  pub last : List ℕ
  pub failed_is : has_failed r.going ≡ ltb r.wrote (length (output (after begin earlier) last))
  pub state-is : has_failed r.going ≡ false → h'.state ≡ after begin (earlier ++ last)
