-- The tables that the rounds read: a matrix on one byte of a column (FIPS 197, sections 5.1.1, 5.1.3, 5.3.2 and 5.3.3).
-- Assumes nothing.
use Rattle.std.specs.Prelude.{List, [], ◌∷◌, ◌++◌, ℕ, zero, suc}
use Rattle.octets.specs.Strings.{table}
use Rattle.field.specs.Field.{mul}
use Rattle.field.specs.SBox.{s_box, inv_s_box}

-- a byte times each of p, q, u, v, and that once more: from byte 3, 2 and 1 on, the next four are the first four turned by one, two and
-- three rows
unfoldable pub multiples : ℕ → ℕ → ℕ → ℕ → ℕ → List ℕ
multiples p q u v b = mul p b ∷ mul q b ∷ mul u b ∷ mul v b ∷ mul p b ∷ mul q b ∷ mul u b ∷ mul v b ∷ []

-- S(v) times the first column of MixColumns' matrix
unfoldable pub entry : ℕ → List ℕ
entry v = multiples 2 1 1 3 (s_box v)

-- the inverse S-box's byte of v times the first column of InvMixColumns' matrix
unfoldable pub inverse_entry : ℕ → List ℕ
inverse_entry v = multiples 0x0e 0x09 0x0d 0x0b (inv_s_box v)

-- the n entries from that of v on, one after the other
unfoldable pub entries : (ℕ → List ℕ) → ℕ → ℕ → List ℕ
entries e v zero = []
entries e v (suc n) = e v ++ entries e (suc v) n

-- the round table
abbrev pub forward : List ℕ
forward = entries entry 0 256

-- the round table of decryption, and the inverse S-box for its last round
abbrev pub inverses : List ℕ
inverses = entries inverse_entry 0 256 ++ table inv_s_box 256
