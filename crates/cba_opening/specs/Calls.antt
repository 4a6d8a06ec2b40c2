-- What the functions of opening require, answer and leave. d is the output at entry and out at exit; r is the answer; sum is the sum
-- whose first t bytes are T_A.
-- Assumes nothing.
use Rattle.std.specs.Prelude.{◌≡◌, Bool, List, ◌++◌, ℕ, ◌+◌, ◌-◌, ◌*◌, ◌≤◌, length, drop}
use Rattle.octets.specs.Strings.{eqs}
use Rattle.aes_schedule.specs.Words.{block_of}
use Rattle.fips197.specs.Cipher.{cipher, inv_cipher}
use Rattle.cba_mode.specs.Sets.{tag_bytes}
use Rattle.cba_mode.specs.Forms.{open_form}
use Rattle.cba_mode.specs.Offsets.{last_bytes, but_last}
use Rattle.cba_mode.specs.Open.{Attempt, Tried, Answered, from_blocks, joined_plain, joined_rest, joined_attempt, separate_attempt, attempt, open_with}
use Rattle.cba_steps.specs.declared.parameters.Parameters.{Parameters}
use Rattle.cba_steps.specs.declared.endings.Ending.{Ending}
use Rattle.cba_steps.specs.declared.endings.Ending.TheVariants.{Joined, Separate}
use Rattle.cba_steps.specs.Endings.{blocks_of}
use Rattle.cba_steps.specs.declared.offsets.Halves.{Halves}
use Rattle.cba_steps.specs.Halves.{halves_of}
use Rattle.cba_sealing.specs.declared.blocks.Running.{Running}
use Rattle.cba_sealing.specs.Calls.{Given, first_bytes, data_tag}

-- parameters that fit, a nonce, a whole tag, and room for the message of C
pub record Opens (p : Parameters) (N C d : List ℕ) : Type 0 where
  pub given : Given p N
  pub least : tag_bytes p.tau ≤ length C
  pub room : length C ≤ length d + tag_bytes p.tau

-- M_{m−1} of the joined form
abbrev pub JoinedPlain : List ℕ → Halves → List ℕ → List ℕ → List ℕ → List ℕ → Type 0
JoinedPlain key h S c last m = m ≡ joined_plain (cipher key) (inv_cipher key) (halves_of h) S c last

-- M_m of the joined form, and whether T' is T
abbrev pub OpenedRest : List ℕ → List ℕ → Halves → List ℕ → List ℕ → List ℕ → Bool → List ℕ → Type 0
OpenedRest key Tag h m c d r out =
    let MmT = joined_rest (cipher key) (inv_cipher key) (halves_of h) c m in
    (r ≡ eqs (last_bytes (length Tag) MmT) Tag) × (out ≡ but_last (length Tag) MmT ++ drop (length c - length Tag) d)

-- what ends the joined form and the separate, after the full blocks that left s
abbrev pub OpenedJoined : List ℕ → List ℕ → Running → List ℕ → List ℕ → Bool → List ℕ → Type 0
OpenedJoined key Tag s rest d r out =
    let end = joined_attempt (cipher key) (inv_cipher key) (8 * length Tag) Tag in
    Tried (end (halves_of s.offset) (block_of s.sum) rest) (length rest - length Tag) r d out

abbrev pub OpenedSeparate : List ℕ → List ℕ → Running → List ℕ → List ℕ → Bool → List ℕ → Type 0
OpenedSeparate key Tag s rest d r out =
    let end = separate_attempt (cipher key) (inv_cipher key) (8 * length Tag) Tag in
    Tried (end (halves_of s.offset) (block_of s.sum) rest) (length rest - length Tag) r d out

unfoldable pub end_as : Ending → (E D : List ℕ → List ℕ) → List ℕ → List ℕ → List ℕ → List ℕ → Attempt
end_as (Joined k) E D Tag = joined_attempt E D (8 * length Tag) Tag
end_as (Separate k) E D Tag = separate_attempt E D (8 * length Tag) Tag

-- what follows C_0
abbrev pub Tail : List ℕ → Ending → List ℕ → Halves → List ℕ → List ℕ → Bool → List ℕ → Type 0
Tail key e Tag h C' d r out =
    let E = cipher key in
    let D = inv_cipher key in
    Tried (from_blocks E D (end_as e E D Tag) (halves_of h) C' (blocks_of e)) (length C' - length Tag) r d out

-- DEC before it decides, given T_A
abbrev pub Try : List ℕ → Parameters → List ℕ → List ℕ → List ℕ → List ℕ → Bool → List ℕ → Type 0
Try key p N sum C d r out =
    let f = open_form (first_bytes p) (tag_bytes p.tau) (length C) in
    Tried (attempt (cipher key) (inv_cipher key) p.tau p.capacity f N (data_tag p sum) C) (length C - tag_bytes p.tau) r d out

-- DEC, given T_A
abbrev pub Dec : List ℕ → Parameters → List ℕ → List ℕ → List ℕ → List ℕ → Bool → List ℕ → Type 0
Dec key p N sum C d r out =
    Answered (open_with (cipher key) (inv_cipher key) p.tau p.capacity N (data_tag p sum) C) (length C - tag_bytes p.tau) r d out
