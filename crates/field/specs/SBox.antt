-- The S-box of FIPS 197, section 5.1.1, and its inverse, section 5.3.2.
-- Assumes nothing.
use Rattle.std.specs.Prelude.{◌≡◌, ℕ, zero, suc, ◌+◌, ◌*◌, ◌/◌, ◌%◌, ◌^◌, ◌<◌, get_or}
use Rattle.octets.specs.Strings.{table}
use Rattle.field.specs.Field.{mul, inverse}

-- bit i of v, the indices modulo 8
abbrev pub bit : ℕ → ℕ → ℕ
bit v i = v / 2 ^ (i % 8) % 2

-- the number whose n lowest bits are f 0, f 1, .., each taken modulo 2
unfoldable pub bits_of : (ℕ → ℕ) → ℕ → ℕ
bits_of f zero = 0
bits_of f (suc n) = bits_of f n + f n % 2 * 2 ^ n

-- equation (5.1): b'_i = b_i ⊕ b_(i+4) ⊕ b_(i+5) ⊕ b_(i+6) ⊕ b_(i+7) ⊕ c_i with c = 63
unfoldable pub affine : ℕ → ℕ
affine v = bits_of (λ i. bit v i + bit v (i + 4) + bit v (i + 5) + bit v (i + 6) + bit v (i + 7) + bit 0x63 i) 8

-- the inverse of that map: b_i = b'_(i+2) ⊕ b'_(i+5) ⊕ b'_(i+7) ⊕ d_i with d = 05
unfoldable pub inv_affine : ℕ → ℕ
inv_affine v = bits_of (λ i. bit v (i + 2) + bit v (i + 5) + bit v (i + 7) + bit 0x05 i) 8

-- the affine map of the multiplicative inverse
unfoldable pub s_box : ℕ → ℕ
s_box v = affine (inverse v)

-- the inverse of the affine map, then the multiplicative inverse
unfoldable pub inv_s_box : ℕ → ℕ
inv_s_box v = inverse (inv_affine v)

-- the two rules of document 01, over all 256 entries of the tables: each box undoes the other, and S(v) is the affine map of v's inverse,
-- where 00 maps to itself and every other byte times its inverse is 01
pub record SBoxRules : Type 0 where
  pub undone : (v : ℕ) → v < 256 → get_or (table inv_s_box 256) (get_or (table s_box 256) v 0) 0 ≡ v
  pub undoes : (v : ℕ) → v < 256 → get_or (table s_box 256) (get_or (table inv_s_box 256) v 0) 0 ≡ v
  pub affine_of : (v : ℕ) → v < 256 → get_or (table s_box 256) v 0 ≡ affine (inverse v)
  pub inverse-zero : inverse 0 ≡ 0
  pub inverse_law : (v : ℕ) → 0 < v → v < 256 → mul v (inverse v) ≡ 1
