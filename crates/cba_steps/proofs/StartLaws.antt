-- Two halves as one number, the first offset and padding, as the code computes them.
-- Assumes nothing.
use mathlib.Core.Path.{◌≡◌, sym, ap, ap₂, ◌∙◌}
use mathlib.Core.List.{List, ◌∷◌, ◌++◌}
use Prim.Native.Nat.{ℕ, ◌+◌, ◌-◌, ◌*◌, ◌/◌, ◌%◌, ◌^◌, ◌<◌}
use native.Mathlib.Nat.{add_comm, le_antisymm, mul_comm, mul_assoc, add-mul, mod-lt, mod-eq_of_lt, div-eq_of_lt, div-add-mod', div-lt_iff_lt-mul, mul-add-div_right, mul-add-mod_self_right, mul-lt-mul_of_pos_right}
use Rattle.std.specs.Int.Bits.{bit_or, or_zero_r}
use Rattle.std.proofs.lemmas.Nat.{pow_pos, pow-add, or_comm, or_shr, or_mod, or_lt, or_shifted, le_or_r, shr_split}
use native.Mathlib.Omega.{arith}
use lib.Arith.{digits_lt}
use lib.ListN.{length, get_or, replicate, length-append}
use Rattle.octets.specs.Strings.{table}
use Rattle.octets.specs.Numbers.{number, digits}
use Rattle.octets.proofs.Strings.{bytes_append, table-take}
use Rattle.octets.proofs.Numbers.{length_digits, bytes-digits, number_digits, digits_number, number_append}
use Rattle.cba_mode.specs.Offsets.{F, ones, rotated, start, pad}

-- ---- two halves as one number

pub number-pair : (u v : ℕ) → u < 2 ^ 64 → v < 2 ^ 64 → number (digits 8 u ++ digits 8 v) ≡ u * 2 ^ 64 + v
number-pair u v h k =
    number_append (digits 8 u) (digits 8 v)
    ∙ ap (λ (n : ℕ). number (digits 8 u) * 256 ^ n + number (digits 8 v)) (length_digits 8 v)
    ∙ ap₂ (λ (x y : ℕ). x * 256 ^ 8 + y) (number_digits 8 u ∙ mod-eq_of_lt h) (number_digits 8 v ∙ mod-eq_of_lt k)

pub digits-pair : (u v : ℕ) → u < 2 ^ 64 → v < 2 ^ 64 → digits 8 u ++ digits 8 v ≡ digits 16 (u * 2 ^ 64 + v)
digits-pair u v h k =
    let s = digits 8 u ++ digits 8 v in
    let n : length s ≡ 16 = length-append (digits 8 u) (digits 8 v) ∙ omega (arith, length_digits 8 u, length_digits 8 v) in
    sym (digits_number s (bytes_append (digits 8 u) (digits 8 v) (bytes-digits 8 u) (bytes-digits 8 v)))
    ∙ ap₂ digits n (number-pair u v h k)

-- ---- turning two halves right by k, where P Q = 2^64

module _ (k : ℕ) (low : 0 < k) (high : k < 64) where
  abbrev P : ℕ
  P = 2 ^ k

  abbrev Q : ℕ
  Q = 2 ^ (64 - k)

  whole : P * Q ≡ 2 ^ 64
  whole = sym (pow-add 2 k (64 - k)) ∙ ap (λ (n : ℕ). 2 ^ n) {x = k + (64 - k)} {y = 64} (omega arith)

  low_fits : (b : ℕ) → b % P * Q < 2 ^ 64
  low_fits b = rw (← whole) (mul-lt-mul_of_pos_right (mod-lt b (pow_pos k)) (pow_pos (64 - k)))

  high_fits : (a : ℕ) → a < 2 ^ 64 → a / P < Q
  high_fits a h = (div-lt_iff_lt-mul (pow_pos k)).1 (omega (arith, h, whole, mul_comm Q P))

  half-fits : (a b : ℕ) → a < 2 ^ 64 → a / P + b % P * Q < 2 ^ 64
  half-fits a b h = omega (arith, whole, digits_lt (mod-lt b (pow_pos k)) (high_fits a h))

  cut : (a : ℕ) → a * Q ≡ a / P * 2 ^ 64 + a % P * Q
  cut a =
      ap (λ (n : ℕ). n * Q) (sym (div-add-mod' a P)) ∙ add-mul (a / P * P) (a % P) Q
      ∙ ap (λ (n : ℕ). n + a % P * Q) (mul_assoc (a / P) P Q ∙ ap (λ (n : ℕ). a / P * n) whole)

  -- what the shifts put together
  half : (a b : ℕ) → a < 2 ^ 64 → bit_or (a / P) (b * Q % 2 ^ 64) ≡ a / P + b % P * Q
  half a b h =
      let e : b * Q % 2 ^ 64 ≡ b % P * Q =
      ap (λ (n : ℕ). n % 2 ^ 64) (cut b) ∙ mul-add-mod_self_right (b / P) (2 ^ 64) (b % P * Q) ∙ mod-eq_of_lt (low_fits b) in
      ap (bit_or (a / P)) e ∙ or_comm (a / P) (b % P * Q) ∙ or_shifted (b % P) (64 - k) (a / P) (high_fits a h) ∙ add_comm (b % P * Q) (a / P)

  turned : (a b : ℕ) → (a / P + b % P * Q) * 2 ^ 64 + (b / P + a % P * Q) ≡ rotated k (a * 2 ^ 64 + b)
  turned a b =
      let e : a * 2 ^ 64 + b ≡ a * Q * P + b = omega (arith, whole, ap (λ (n : ℕ). a * n) (sym whole)) in
      let q : (a * 2 ^ 64 + b) / P ≡ a * Q + b / P = ap (λ (n : ℕ). n / P) e ∙ mul-add-div_right (pow_pos k) (a * Q) b in
      let r : (a * 2 ^ 64 + b) % P ≡ b % P = ap (λ (n : ℕ). n % P) e ∙ mul-add-mod_self_right (a * Q) P b in
      let w : 2 ^ (128 - k) ≡ Q * 2 ^ 64 = ap (λ (n : ℕ). 2 ^ n) {x = 128 - k} {y = 64 - k + 64} (omega arith) ∙ pow-add 2 (64 - k) 64 in
      sym
      (ap (λ (n : ℕ). (a * 2 ^ 64 + b) / P + (a * 2 ^ 64 + b) % P * n) w
      ∙ ap₂ (λ (x y : ℕ). x + y * (Q * 2 ^ 64)) q r ∙ omega (arith, cut a))

  pub rotate_halves : (a b : ℕ) → a < 2 ^ 64 → b < 2 ^ 64 →
      digits 8 (bit_or (a / P) (b * Q % 2 ^ 64)) ++ digits 8 (bit_or (b / P) (a * Q % 2 ^ 64)) ≡ digits 16 (rotated k (a * 2 ^ 64 + b))
  rotate_halves a b u v =
      ap₂ (λ (x y : ℕ). digits 8 x ++ digits 8 y) (half a b u) (half b a v)
      ∙ digits-pair _ _ (half-fits a b u) (half-fits b a v) ∙ ap (digits 16) (turned a b)

-- ---- the first offset: w is n, one of 0, 32, 64

pub start_by : (n A B : ℕ) {w Y : ℕ} {R s z : List ℕ} → A < 2 ^ 64 → B < 2 ^ 64 → digits 8 A ++ digits 8 B ≡ R →
    w ≡ n → s ≡ F 2 2 z → z ≡ digits 16 (rotated (n / 2 + 1) Y) → Y ≡ ones n (A * 2 ^ 64 + B) → s ≡ start R w
unfolding start
start_by n A B {R = R} h k i e p q r =
    let y = r ∙ ap (ones n) (sym (number-pair A B h k) ∙ ap number i) in
    p ∙ ap (F 2 2) (q ∙ ap (λ (y : ℕ). digits 16 (rotated (n / 2 + 1) y)) y) ∙ ap (start R) (sym e)

-- the lowest k bits of n set
low-set : (n k : ℕ) → bit_or n (2 ^ k - 1) ≡ n / 2 ^ k * 2 ^ k + (2 ^ k - 1)
low-set n k =
    let m = 2 ^ k - 1 in
    let p : 0 < 2 ^ k = pow_pos k in
    let below : m < 2 ^ k = omega arith in
    let q : bit_or n m / 2 ^ k ≡ n / 2 ^ k =
    or_shr n m k ∙ ap (bit_or (n / 2 ^ k)) (div-eq_of_lt below) ∙ or_zero_r (n / 2 ^ k) in
    let r : bit_or n m % 2 ^ k ≡ m =
    or_mod n m k ∙ ap (bit_or (n % 2 ^ k)) (mod-eq_of_lt below)
    ∙ le_antisymm (omega (arith, or_lt k (n % 2 ^ k) m (mod-lt n p) (omega arith))) (le_or_r (n % 2 ^ k) m) in
    sym (shr_split (bit_or n m) k) ∙ ap₂ (λ (x y : ℕ). x * 2 ^ k + y) q r

-- the ones that follow the first 126 − w bits of A 2^64 + B
pub ones_none : (A B : ℕ) → A * 2 ^ 64 + bit_or B 3 ≡ ones 0 (A * 2 ^ 64 + B)
ones_none A B = omega (arith, low-set B 2)

pub ones-some : (A B : ℕ) → A * 2 ^ 64 + bit_or B 0x3ffffffff ≡ ones 32 (A * 2 ^ 64 + B)
ones-some A B = omega (arith, low-set B 34)

pub ones_many : (A B : ℕ) → B < 2 ^ 64 → bit_or A 3 * 2 ^ 64 + 0xffffffffffffffff ≡ ones 64 (A * 2 ^ 64 + B)
ones_many A B h = omega (arith, low-set A 2)

-- ---- padding

pub pad-table : (s : List ℕ) → table (λ k. get_or (s ++ (128 ∷ replicate 15 0)) k 0) 16 ≡ pad s
unfolding pad
pad-table s = table-take 16 (s ++ (128 ∷ replicate 15 0)) (omega (arith, length-append s (128 ∷ replicate 15 0)))
