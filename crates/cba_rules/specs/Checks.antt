-- The checks of document 01's table, each a row over lengths in bytes, row 12 of document 02, and the lists of them that several calls
-- share.
-- Assumes nothing.
use Rattle.std.specs.Prelude.{Bool, not, List, [], ◌∷◌, ◌++◌, ℕ, ◌+◌, ◌-◌, eqb, ltb}
use Rattle.answers.specs.Rows.{Row}
use Rattle.cba_mode.specs.Sets.{is_set, key_bytes, tag_bits, tag_bytes}

-- t of a set, the tag's length in bytes
abbrev pub set_tag : ℕ → ℕ
set_tag set = tag_bytes (tag_bits set)

-- 1, set: not 1 to 10
abbrev pub bad_set : ℕ → Row
bad_set set = record { number = 1; when = not (is_set set) }

-- 2, key: another length than the set's
abbrev pub bad_key : ℕ → ℕ → Row
bad_key its key = record { number = 2; when = not (eqb key its) }

-- 3, nonce: another length than 12
abbrev pub bad_nonce : ℕ → Row
bad_nonce nonce = record { number = 3; when = not (eqb nonce 12) }

-- 4, data: over 4,096 bytes
abbrev pub long_data : ℕ → Row
long_data ad = record { number = 4; when = ltb 4096 ad }

-- 5, text: over so many bytes
abbrev pub long_text : ℕ → ℕ → Row
long_text most text = record { number = 5; when = ltb most text }

-- 6, stub: a ciphertext under t bytes
abbrev pub stub : ℕ → ℕ → Row
stub t ciphertext = record { number = 6; when = ltb ciphertext t }

-- 7, buffer: an output shorter than the result
abbrev pub no_room : ℕ → ℕ → Row
no_room result out = record { number = 7; when = ltb out result }

-- 8, false: no message seals to this ciphertext, or a mark is not its log's
abbrev pub forged : Bool → Row
forged wrong = record { number = 8; when = wrong }

-- 12, console: a nonce begins with another number than its own
abbrev pub bad_start : ℕ → ℕ → Row
bad_start its start = record { number = 12; when = not (eqb start its) }

-- a set and a key of its length
abbrev pub key_rows : ℕ → ℕ → List Row
key_rows set key = bad_set set ∷ bad_key (key_bytes set) key ∷ []

-- a message and the room for its sealing
abbrev pub message_rows : ℕ → ℕ → ℕ → List Row
message_rows t message out = long_text 65536 message ∷ no_room (message + t) out ∷ []

-- a ciphertext and the room for its message
abbrev pub ciphertext_rows : ℕ → ℕ → ℕ → List Row
ciphertext_rows t ciphertext out = long_text (65536 + t) ciphertext ∷ stub t ciphertext ∷ no_room (ciphertext - t) out ∷ []

-- ---- the plain calls, in order; after the set, by the length of its key and t

-- sealing: 1, 2, 3, 4, 5, 7
abbrev pub seal_checks : ℕ → ℕ → ℕ → ℕ → ℕ → ℕ → ℕ → List Row
seal_checks its t key nonce ad message out = bad_key its key ∷ bad_nonce nonce ∷ long_data ad ∷ message_rows t message out

unfoldable pub seal_rows : ℕ → ℕ → ℕ → ℕ → ℕ → ℕ → List Row
seal_rows set key nonce ad message out = bad_set set ∷ seal_checks (key_bytes set) (set_tag set) key nonce ad message out

-- opening: 1 to 7, then 8
abbrev pub open_checks : ℕ → ℕ → ℕ → ℕ → ℕ → ℕ → ℕ → List Row
open_checks its t key nonce ad ciphertext out = bad_key its key ∷ bad_nonce nonce ∷ long_data ad ∷ ciphertext_rows t ciphertext out

unfoldable pub open_rows : ℕ → ℕ → ℕ → ℕ → ℕ → ℕ → Bool → List Row
open_rows set key nonce ad ciphertext out no-message =
    bad_set set ∷ (open_checks (key_bytes set) (set_tag set) key nonce ad ciphertext out ++ (forged no-message ∷ []))
