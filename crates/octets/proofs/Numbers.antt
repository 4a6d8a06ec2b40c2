-- Big-endian numbers, there and back, for strings of every length.
-- Assumes nothing.
use mathlib.Core.Path.{◌≡◌, refl, sym, ap, ap₂, ◌∙◌}
use mathlib.Core.List.{List, [], ◌∷◌, ◌++◌}
use Prim.Native.Nat.{ℕ, zero, suc, ◌+◌, ◌-◌, ◌*◌, ◌/◌, ◌%◌, ◌^◌, ◌<◌}
use native.Mathlib.Nat.{mod-eq_of_lt, pow-suc, pow-succ', mul_assoc, add-mul, mul-add-div_right, le_of_suc-le-suc, not-suc-le-zero}
use native.Mathlib.Numerals.{add-one}
use native.Mathlib.Omega.{arith}
use lib.Arith.{digits_lt, digits_div, mod-mul}
use lib.Bits.{bit_xor, xor_shr, xor_mod}
use lib.ListN.{length, take, get_or, length-append}
use lib.Seq.{take-suc}
use lib.Pow.{pow-add}
use Rattle.octets.specs.Strings.{Bytes}
use Rattle.octets.specs.Xor.{xors}
use Rattle.octets.specs.Numbers.{number, digits}

power_pos : (n : ℕ) → 0 < 256 ^ n
power_pos zero = omega arith
power_pos (suc n) = omega (arith, power_pos n, pow-suc 256 n)

pub length_digits : (n x : ℕ) → length (digits n x) ≡ n
unfolding digits
length_digits zero x = refl
length_digits (suc n) x = ap suc (length_digits n x)

pub bytes-digits : (n x : ℕ) → Bytes (digits n x)
unfolding digits
bytes-digits zero x = tt
bytes-digits (suc n) x = (omega arith, bytes-digits n x)

pub number_lt : (s : List ℕ) → Bytes s → number s < 256 ^ length s
unfolding number
number_lt [] b = omega arith
number_lt (x ∷ s) b = rw (pow-succ' 256 (length s)) (digits_lt b.0 (number_lt s b.1))

-- the n lowest digits of x, as a number
pub number_digits : (n x : ℕ) → number (digits n x) ≡ x % 256 ^ n
unfolding number digits
number_digits zero x = omega arith
number_digits (suc n) x =
    ap₂ (λ (k m : ℕ). x / 256 ^ n % 256 * 256 ^ k + m) (length_digits n x) (number_digits n x)
    ∙ sym (rw pow-succ' (mod-mul x (omega arith) (power_pos n)))

-- what stands above the n lowest digits does not count among them
digits_above : (n q x : ℕ) → digits n (q * 256 ^ n + x) ≡ digits n x
unfolding digits
digits_above zero q x = refl
digits_above (suc n) q x =
    rw (pow-succ' 256 n, ← mul_assoc q 256 (256 ^ n))
    (ap₂ ◌∷◌
    (ap (λ (k : ℕ). k % 256) (mul-add-div_right (power_pos n) (q * 256) x) ∙ omega arith)
    (digits_above n (q * 256) x))

pub digits_number : (s : List ℕ) → Bytes s → digits (length s) (number s) ≡ s
unfolding number digits
digits_number [] b = refl
digits_number (x ∷ s) b =
    ap₂ ◌∷◌
    (ap (λ (k : ℕ). k % 256) (digits_div x (number_lt s b.1)) ∙ mod-eq_of_lt b.0)
    (digits_above (length s) x (number s) ∙ digits_number s b.1)

-- ---- strings put together, and added

pub number_append : (s t : List ℕ) → number (s ++ t) ≡ number s * 256 ^ length t + number t
unfolding number
number_append [] t = omega arith
number_append (x ∷ s) t =
    rw (length-append s t, number_append s t, pow-add 256 (length s) (length t))
    (omega (arith, mul_assoc x (256 ^ length s) (256 ^ length t), add-mul (x * 256 ^ length s) (number s) (256 ^ length t)))

pub power-two : (n : ℕ) → 256 ^ n ≡ 2 ^ (8 * n)
power-two zero = refl
power-two (suc n) = pow-suc 256 n ∙ ap (λ (p : ℕ). p * 256) (power-two n) ∙ sym (pow-add 2 (8 * n) 8) ∙ ap (λ (k : ℕ). 2 ^ k) {x = 8 * n + 8} {y = 8 * suc n} (omega arith)

pub digits_xor : (n x y : ℕ) → digits n (bit_xor x y) ≡ xors (digits n x) (digits n y)
unfolding digits xors
digits_xor zero x y = refl
digits_xor (suc n) x y =
    ap₂ ◌∷◌
    (rw (power-two n) (ap (λ (k : ℕ). k % 256) (xor_shr x y (8 * n)) ∙ xor_mod (x / 2 ^ (8 * n)) (y / 2 ^ (8 * n)) 8))
    (digits_xor n x y)

-- ---- digit by digit

pub get_or-digits : (n x i : ℕ) → i < n → get_or (digits n x) i 0 ≡ x / 256 ^ (n - suc i) % 256
unfolding digits
get_or-digits zero x i h = absurd (not-suc-le-zero h)
get_or-digits (suc n) x zero h = ap (λ (k : ℕ). x / 256 ^ k % 256) {x = n} {y = suc n - 1} (omega arith)
get_or-digits (suc n) x (suc i) h =
    get_or-digits n x i (le_of_suc-le-suc h) ∙ ap (λ (k : ℕ). x / 256 ^ k % 256) {x = n - suc i} {y = suc n - suc (suc i)} (omega arith)

-- one byte more at the end
pub number_more : (s : List ℕ) (i : ℕ) → i < length s → number (take (i + 1) s) ≡ number (take i s) * 256 + get_or s i 0
unfolding number
number_more s i h = rw (add-one, take-suc s i 0) (number_append (take i s) (get_or s i 0 ∷ []) ∙ omega arith)
