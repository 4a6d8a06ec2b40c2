-- A half as two words, whose bytes stand the other way round than its digits.
-- Assumes nothing.
use mathlib.Core.Path.{◌≡◌, refl, sym, ap, ap₂, ◌∙◌}
use mathlib.Core.List.{List, [], ◌∷◌, ◌++◌}
use Prim.Native.Nat.{ℕ, ◌+◌, ◌*◌, ◌/◌, ◌%◌, ◌^◌, ◌<◌}
use native.Mathlib.Nat.{div-div-eq-div-mul}
use native.Mathlib.Omega.{arith}
use lib.ListN.{get_or}
use Rattle.std.specs.Int.{swap_bytes, w32}
use Rattle.std.specs.Int.Bits.{bit_or}
use Rattle.std.proofs.lemmas.Nat.{or_shifted, shl_whole}
use Rattle.octets.specs.Numbers.{digits}
use Rattle.aes_schedule.specs.Words.{bytes_of}
use Rattle.aes_schedule.proofs.WordLaws.{four}

-- the bytes of x from the highest on
turned-digits : {a b c d : ℕ} (x : ℕ) → a ≡ x / 16777216 % 256 → b ≡ x / 65536 % 256 → c ≡ x / 256 % 256 → d ≡ x % 256 → a ∷ b ∷ c ∷ d ∷ [] ≡ digits 4 x
unfolding digits
turned-digits x p q u v = four p q u (v ∙ omega arith)

pub swapped : (x : ℕ) → bytes_of (swap_bytes w32 x) ≡ digits 4 x
swapped x = turned-digits x (omega arith) (omega arith) (omega arith) (omega arith)

-- what is turned is turned back
turned-back : (x r : ℕ) → bytes_of r ≡ digits 4 x → digits 4 r ≡ bytes_of x
unfolding digits
turned-back x r e =
    sym (turned-digits r refl refl refl refl)
    ∙ ap (λ (s : List ℕ). get_or s 3 0 ∷ get_or s 2 0 ∷ get_or s 1 0 ∷ get_or s 0 0 ∷ []) e
    ∙ four (omega arith) refl refl refl

-- the digits of a half are those of its upper 32 bits, then those of its lower
digits-words : (x : ℕ) → digits 8 x ≡ digits 4 (x / 2 ^ 32) ++ digits 4 (x % 2 ^ 32)
unfolding digits
digits-words x =
    ap₂ ◌++◌
    (four (above 16777216) (above 65536) (above 256) (above 1))
    (four (omega arith) (omega arith) (omega arith) (omega arith))
  where
    above : (n : ℕ) → x / (2 ^ 32 * n) % 256 ≡ x / 2 ^ 32 / n % 256
    above n = ap (λ (k : ℕ). k % 256) (sym (div-div-eq-div-mul x (2 ^ 32) n))

-- a half's words, made of it
pub half-words : (x : ℕ) {u v : ℕ} {s t : List ℕ} → u ≡ x / 2 ^ 32 → v ≡ x % 2 ^ 32 → s ≡ digits 4 u → t ≡ digits 4 v → s ++ t ≡ digits 8 x
half-words x u v s t = ap₂ ◌++◌ (s ∙ ap (digits 4) u) (t ∙ ap (digits 4) v) ∙ sym (digits-words x)

-- and a half made of its words
pub half-digits : (p q u v : ℕ) → u < 2 ^ 32 → v < 2 ^ 32 → bytes_of u ≡ digits 4 p → bytes_of v ≡ digits 4 q → digits 8 (bit_or (u * 2 ^ 32 % 2 ^ 64) v) ≡ bytes_of p ++ bytes_of q
half-digits p q u v g h d e =
    ap (digits 8) (ap (λ (n : ℕ). bit_or n v) (shl_whole u 32 32 64 g (omega arith)) ∙ or_shifted u 32 v h)
    ∙ sym (half-words (u * 2 ^ 32 + v) (omega arith) (omega arith) (sym (turned-back p u d)) (sym (turned-back q v e)))
