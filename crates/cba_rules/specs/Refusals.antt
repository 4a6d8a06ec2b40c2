-- What plain sealing and plain opening answer, and what they leave in the output: document 01's table, over all inputs.
-- Assumes nothing.
use Rattle.std.specs.Prelude.{◌≡◌, cond, List, ℕ, ◌-◌, eqb, length, replicate}
use Rattle.octets.specs.Strings.{over}
use Rattle.answers.specs.Rows.{answer}
use Rattle.fips197.specs.Cipher.{cipher, inv_cipher}
use Rattle.cba_mode.specs.Sets.{tag_bits, capacity}
use Rattle.cba_mode.specs.Seal.{ENC}
use Rattle.cba_mode.specs.Open.{Opened, is_false, message_of, DEC}
use Rattle.cba_rules.specs.Checks.{set_tag, seal_rows, open_rows}

-- v1-1's ENC and DEC for a set, over AES
unfoldable pub sealing : ℕ → List ℕ → List ℕ → List ℕ → List ℕ → List ℕ
sealing set key N A M = ENC (cipher key) (tag_bits set) (capacity set) N A M

unfoldable pub opening : ℕ → List ℕ → List ℕ → List ℕ → List ℕ → Opened
opening set key N A C = DEC (cipher key) (inv_cipher key) (tag_bits set) (capacity set) N A C

unfoldable pub seal_answer : ℕ → List ℕ → List ℕ → List ℕ → List ℕ → List ℕ → ℕ
seal_answer set key N A M out = answer (seal_rows set (length key) (length N) (length A) (length M) (length out))

unfoldable pub open_answer : ℕ → List ℕ → List ℕ → List ℕ → List ℕ → List ℕ → ℕ
open_answer set key N A C out =
    answer (open_rows set (length key) (length N) (length A) (length C) (length out) (is_false (opening set key N A C)))

-- sealing's output, after an answer: accepted, the sealing and the bytes after it as before; refused, as before
unfoldable pub seal_leaves : ℕ → List ℕ → List ℕ → List ℕ
seal_leaves a C out = cond (eqb a 0) (over C out) out

-- opening's output, after an answer, of a message of n bytes: accepted, the message and the bytes after it as before; 8, zeros
-- over the first n bytes and the others as before; any other refusal, as before
unfoldable pub open_leaves : ℕ → ℕ → List ℕ → List ℕ → List ℕ
open_leaves a n M out = cond (eqb a 0) (over M out) (cond (eqb a 8) (over (replicate n 0) out) out)

unfoldable pub seal_output : ℕ → List ℕ → List ℕ → List ℕ → List ℕ → List ℕ → List ℕ
seal_output set key N A M out = seal_leaves (seal_answer set key N A M out) (sealing set key N A M) out

unfoldable pub open_output : ℕ → List ℕ → List ℕ → List ℕ → List ℕ → List ℕ → List ℕ
open_output set key N A C out =
    open_leaves (open_answer set key N A C out) (length C - set_tag set) (message_of (opening set key N A C)) out

-- what a call promises: its answer r, and out', the output at exit, out being the output at entry
abbrev pub SealCall : ℕ → List ℕ → List ℕ → List ℕ → List ℕ → List ℕ → ℕ → List ℕ → Type 0
SealCall set key N A M out r out' = (r ≡ seal_answer set key N A M out) × (out' ≡ seal_output set key N A M out)

abbrev pub OpenCall : ℕ → List ℕ → List ℕ → List ℕ → List ℕ → List ℕ → ℕ → List ℕ → Type 0
OpenCall set key N A C out r out' = (r ≡ open_answer set key N A C out) × (out' ≡ open_output set key N A C out)
