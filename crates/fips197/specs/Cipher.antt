-- Cipher and InvCipher of FIPS 197, sections 5.1 and 5.3 (document 003, figures 3.4 and 3.11), over a schedule w, and at a key.
-- Assumes nothing.
use Rattle.std.specs.Prelude.{◌≡◌, true, List, ℕ, zero, suc, ◌-◌, ◌/◌, length}
use Rattle.octets.specs.Strings.{Bytes, Octets}
use Rattle.fips197.specs.Steps.{sub_bytes, shift_rows, mix_columns, add_round_key, inv_sub_bytes, inv_shift_rows, inv_mix_columns}
use Rattle.fips197.specs.Schedule.{is_key, rounds_of, key_expansion}

-- a full round, with round key n
abbrev pub full_round : List ℕ → ℕ → List ℕ → List ℕ
full_round w n s = add_round_key w n (mix_columns (shift_rows (sub_bytes s)))

-- the State after the first AddRoundKey and n full rounds
unfoldable pub rounds : List ℕ → ℕ → List ℕ → List ℕ
rounds w zero s = add_round_key w 0 s
rounds w (suc n) s = full_round w (suc n) (rounds w n s)

-- the last round has no MixColumns
abbrev pub cipher_over : List ℕ → ℕ → List ℕ → List ℕ
cipher_over w nr s = add_round_key w nr (shift_rows (sub_bytes (rounds w (nr - 1) s)))

-- a full round of the inverse, with round key n
abbrev pub full_inv_round : List ℕ → ℕ → List ℕ → List ℕ
full_inv_round w n s = inv_mix_columns (add_round_key w n (inv_sub_bytes (inv_shift_rows s)))

-- the State after the first AddRoundKey, with round key nr, and n full rounds, with round keys nr − 1, nr − 2, ..
unfoldable pub inv_rounds : List ℕ → ℕ → ℕ → List ℕ → List ℕ
inv_rounds w nr zero s = add_round_key w nr s
inv_rounds w nr (suc n) s = full_inv_round w (nr - suc n) (inv_rounds w nr n s)

-- the last round has no InvMixColumns
abbrev pub inv_cipher_over : List ℕ → ℕ → List ℕ → List ℕ
inv_cipher_over w nr s = add_round_key w 0 (inv_sub_bytes (inv_shift_rows (inv_rounds w nr (nr - 1) s)))

-- the number of rounds under a key
abbrev pub key_rounds : List ℕ → ℕ
key_rounds key = rounds_of (length key / 4)

-- E: AES encryption of a block under a key of 16, 24 or 32 bytes
unfoldable pub cipher : List ℕ → List ℕ → List ℕ
cipher key s = cipher_over (key_expansion key) (key_rounds key) s

-- D: AES decryption
unfoldable pub inv_cipher : List ℕ → List ℕ → List ℕ
inv_cipher key s = inv_cipher_over (key_expansion key) (key_rounds key) s

-- each undoes the other, under every key and on every block
pub record Inverses : Type 0 where
  pub D-undoes-E : (key s : List ℕ) → Bytes key → is_key key ≡ true → Octets 16 s → inv_cipher key (cipher key s) ≡ s
  pub E-undoes-D : (key s : List ℕ) → Bytes key → is_key key ≡ true → Octets 16 s → cipher key (inv_cipher key s) ≡ s
  pub E-block : (key s : List ℕ) → Bytes key → is_key key ≡ true → Octets 16 s → Octets 16 (cipher key s)
  pub D-block : (key s : List ℕ) → Bytes key → is_key key ≡ true → Octets 16 s → Octets 16 (inv_cipher key s)
