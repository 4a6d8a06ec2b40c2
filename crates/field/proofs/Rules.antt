-- Rules that hold of every byte, each by one test that is computed over all 256 of them.
-- Assumes nothing.
use mathlib.Core.Path.{◌≡◌, refl, sym, ap, ◌∙◌}
use mathlib.Core.List.{List, [], ◌∷◌}
use Prim.Native.Nat.{ℕ, zero, suc, ◌*◌, ◌/◌, ◌%◌, ◌^◌, ◌<◌, ◌≤◌, min}
use native.Mathlib.Nat.{pow-suc, lt_of_le_of_lt, mul-le-mul_right, le_of_suc-le-suc, mod-lt}
use native.Mathlib.Omega.{arith}
use lib.Bits.{xor_lt}
use lib.Dec.{T}
use lib.ListN.{get_or}
use Rattle.octets.specs.Strings.{table}
use Rattle.octets.proofs.Strings.{get_or-table}
use Rattle.octets.proofs.Tests.{agree, same}
use Rattle.field.specs.Field.{xtime, mul_bits, mul, squares, inverse}
use Rattle.field.specs.SBox.{bits_of, affine, inv_affine, s_box, inv_s_box, SBoxRules}

-- ---- values are bytes

pub xtime_byte : (v : ℕ) → xtime v < 256
unfolding xtime
xtime_byte v = xor_lt 8 (v * 2 % 256) (v / 128 % 2 * _) (omega arith) (omega arith)

times-bit : (a d : ℕ) → d < 2 → a * d ≤ a
times-bit a zero h = omega arith
times-bit a (suc zero) h = omega arith
times-bit a (suc (suc d)) h = absurd (omega arith)

mul_bits_byte : (n a b : ℕ) → a < 256 → mul_bits n a b < 256
unfolding mul_bits
mul_bits_byte zero a b h = omega arith
mul_bits_byte (suc n) a b h = xor_lt 8 (a * (b % 2)) (mul_bits n (xtime a) (b / 2)) (lt_of_le_of_lt (times-bit a (b % 2) (omega arith)) h) (mul_bits_byte n (xtime a) (b / 2) (xtime_byte a))

pub mul_byte : (a b : ℕ) → a < 256 → mul a b < 256
unfolding mul
mul_byte a b h = mul_bits_byte 8 a b h

squares_byte : (n v r : ℕ) → r < 256 → squares n v r < 256
unfolding squares
squares_byte zero v r h = h
squares_byte (suc n) v r h = squares_byte n (mul v v) (mul r (mul v v)) (mul_byte r (mul v v) h)

inverse_byte : (v : ℕ) → inverse v < 256
unfolding inverse
inverse_byte v = squares_byte _ v 1 (omega arith)

two_pos : 0 < 2
two_pos = omega arith

bits_lt : (f : ℕ → ℕ) (n : ℕ) → bits_of f n < 2 ^ n
unfolding bits_of
bits_lt f zero = omega arith
bits_lt f (suc n) = rw pow-suc (omega (arith, bits_lt f n, mul-le-mul_right (2 ^ n) (le_of_suc-le-suc (mod-lt (f n) two_pos))))

pub s_box_byte : (v : ℕ) → s_box v < 256
unfolding s_box affine
s_box_byte v = bits_lt _ 8

pub inv_s_box_byte : (v : ℕ) → inv_s_box v < 256
unfolding inv_s_box
inv_s_box_byte v = inverse_byte (inv_affine v)

-- ---- the S-box, its inverse, and the multiplicative inverse

-- at v: the S-box after its inverse, the inverse after the S-box, and v times its inverse, with each table computed once
found : List ℕ → List ℕ → ℕ → List ℕ
found S I v = get_or S (get_or I v 0) 0 ∷ get_or I (get_or S v 0) 0 ∷ mul v (inverse v) ∷ []

right : ℕ → List ℕ
right v = v ∷ v ∷ min v 1 ∷ []

test : T (agree (found (table s_box 256) (table inv_s_box 256)) right 256)
unfolding found right xtime mul_bits mul squares inverse bits_of affine inv_affine s_box inv_s_box table
test = tt

rules : (v : ℕ) → v < 256 → found (table s_box 256) (table inv_s_box 256) v ≡ right v
rules = same (found (table s_box 256) (table inv_s_box 256)) right 256 test

-- v • v⁻¹ is 01 for every byte but 00
inverse_law : (v : ℕ) → 0 < v → v < 256 → mul v (inverse v) ≡ 1
unfolding found right
inverse_law v p h = ap (λ (s : List ℕ). get_or s 2 0) (rules v h) ∙ omega arith

zero-inverse : inverse 0 ≡ 0
unfolding inverse squares mul mul_bits xtime
zero-inverse = refl

pub s_box_rules : SBoxRules
unfolding found right s_box
s_box_rules =
    record {
      undone = λ v h. ap (λ (s : List ℕ). get_or s 1 0) (rules v h);
      undoes = λ v h. ap (λ (s : List ℕ). get_or s 0 0) (rules v h);
      affine_of = get_or-table s_box 256;
      inverse-zero = zero-inverse;
      inverse_law = inverse_law;
    }

-- the same of the functions: each undoes the other
pub s_box-inv_s_box : (v : ℕ) → v < 256 → s_box (inv_s_box v) ≡ v
s_box-inv_s_box v h =
    sym (ap (λ (k : ℕ). get_or (table s_box 256) k 0) (get_or-table inv_s_box 256 v h) ∙ get_or-table s_box 256 (inv_s_box v) (inv_s_box_byte v)) ∙ s_box_rules.undoes v h

pub inv_s_box-s_box : (v : ℕ) → v < 256 → inv_s_box (s_box v) ≡ v
inv_s_box-s_box v h =
    sym (ap (λ (k : ℕ). get_or (table inv_s_box 256) k 0) (get_or-table s_box 256 v h) ∙ get_or-table inv_s_box 256 (s_box v) (s_box_byte v)) ∙ s_box_rules.undone v h
