-- Doubling in the field of 2^128 on the two halves of a block, as the code does it.
-- Assumes nothing.
use mathlib.Core.Path.{◌≡◌, refl, sym, ap, ap₂, ◌∙◌}
use mathlib.Core.Bool.{Bool, true, false, cond}
use mathlib.Core.List.{List, ◌++◌}
use Prim.Native.Nat.{ℕ, ◌+◌, ◌*◌, ◌/◌, ◌%◌, ◌^◌, ◌<◌, ◌≤◌}
use native.Mathlib.Nat.{mul_assoc, add-mul, div-add-mod', mul-add-mod_self_right, mod-eq_of_lt}
use lib.Arith.{digits_lt}
use native.Mathlib.Omega.{arith}
use borrow.Author.Tests.{leb-true, leb-false}
use lib.Bits.{bit_xor, xor_zero_r}
use lib.Dec.{leb}
use lib.ListN.{get_or, replicate, get_or-append}
use lib.Seq.{take_all}
use Rattle.octets.specs.Xor.{xors}
use Rattle.octets.specs.Numbers.{digits}
use Rattle.octets.proofs.Xor.{xors-comm, xors-zero, append_xors}
use Rattle.octets.proofs.Numbers.{length_digits, digits_xor, get_or-digits}
use Rattle.cba_steps.proofs.StartLaws.{number-pair, digits-pair}
use Rattle.cmac_rules.specs.Cmac.{Rb, top_bit, shifted, double}

-- two numbers to base W = 2 P, twice, where q P + r and s P + t are the numbers
moved : (P W q r s t : ℕ) → W ≡ P * 2 → ((q * P + r) * W + (s * P + t)) * 2 ≡ q * (W * W) + ((s + r * 2) * W + t * 2)
moved P W q r s t e =
    omega (arith, add-mul (q * P) r W, add-mul s (r * 2) W, mul_assoc q P W, ap (λ (n : ℕ). q * (n * W)) e, ap (λ (n : ℕ). s * n) e)

module _ (a b : ℕ) (h : a < 2 ^ 64) (k : b < 2 ^ 64) where
  abbrev upper : ℕ
  upper = b / 2 ^ 63 + a % 2 ^ 63 * 2

  abbrev lower : ℕ
  lower = b % 2 ^ 63 * 2

  pub upper_fits : upper < 2 ^ 64
  upper_fits = omega (arith, k)

  lower-fits : lower < 2 ^ 64
  lower-fits = omega arith

  -- the bit that is lost stands above 2^128
  shifted-number : (a * 2 ^ 64 + b) * 2 % 2 ^ 128 ≡ upper * 2 ^ 64 + lower
  shifted-number =
      ap (λ (n : ℕ). n % 2 ^ 128) {x = (a * 2 ^ 64 + b) * 2}
      (ap₂ (λ (x y : ℕ). (x * 2 ^ 64 + y) * 2) (sym (div-add-mod' a (2 ^ 63))) (sym (div-add-mod' b (2 ^ 63)))
      ∙ moved (2 ^ 63) (2 ^ 64) (a / 2 ^ 63) (a % 2 ^ 63) (b / 2 ^ 63) (b % 2 ^ 63) refl)
      ∙ mul-add-mod_self_right (a / 2 ^ 63) (2 ^ 128) (upper * 2 ^ 64 + lower)
      ∙ mod-eq_of_lt (digits_lt {m = 2 ^ 64} upper_fits lower-fits)

  shifted_halves : digits 8 upper ++ digits 8 lower ≡ shifted (digits 8 a ++ digits 8 b)
  unfolding shifted
  shifted_halves =
      digits-pair upper lower upper_fits lower-fits
      ∙ ap (digits 16) (sym shifted-number)
      ∙ ap (λ (n : ℕ). digits 16 (n * 2 % 2 ^ 128)) (sym (number-pair a b h k))

  first_byte : get_or (digits 8 a ++ digits 8 b) 0 0 ≡ a / 2 ^ 56
  first_byte =
      get_or-append (digits 8 a) (digits 8 b) 0 0 (rw length_digits (omega arith))
      ∙ get_or-digits 8 a 0 (omega arith) ∙ omega arith

  -- Rb in the lower half
  with_constant : digits 8 upper ++ digits 8 (bit_xor lower 0x87) ≡ xors (digits 8 upper ++ digits 8 lower) Rb
  unfolding digits
  with_constant =
      ap₂ ◌++◌
      (sym (xors-comm (digits 8 upper) (replicate 8 0) ∙ xors-zero 8 (digits 8 upper) ∙ take_all 8 (digits 8 upper) (rw length_digits (omega arith))))
      (digits_xor 8 lower 0x87)
      ∙ sym (append_xors (digits 8 upper) (replicate 8 0) (digits 8 lower) (digits 8 0x87) (length_digits 8 upper))

  -- the same by shifts of 64 bits
  pub by-shifts : (a * 2 % 2 ^ 64 + b / 2 ^ 63 ≡ upper) × (b * 2 % 2 ^ 64 ≡ lower)
  by-shifts = (omega arith, omega arith)

  pub double_halves : digits 8 upper ++ digits 8 (bit_xor lower (a / 2 ^ 63 * 0x87)) ≡ double (digits 8 a ++ digits 8 b)
  unfolding double
  double_halves = go (top_bit (digits 8 a ++ digits 8 b)) refl
    where
      go : (x : Bool) → top_bit (digits 8 a ++ digits 8 b) ≡ x →
          digits 8 upper ++ digits 8 (bit_xor lower (a / 2 ^ 63 * 0x87))
          ≡ cond (top_bit (digits 8 a ++ digits 8 b)) (xors (shifted (digits 8 a ++ digits 8 b)) Rb) (shifted (digits 8 a ++ digits 8 b))
      go true e =
          let t : 128 ≤ a / 2 ^ 56 = leb-true 128 _ (ap (leb 128) (sym first_byte) ∙ e) in
          let q : a / 2 ^ 63 ≡ 1 = omega arith in
          rw (e, q) (with_constant ∙ ap (λ (s : List ℕ). xors s Rb) shifted_halves)
      go false e =
          let t : a / 2 ^ 56 < 128 = leb-false 128 _ (ap (leb 128) (sym first_byte) ∙ e) in
          let q : a / 2 ^ 63 ≡ 0 = omega arith in
          rw (e, q) (ap (λ (n : ℕ). digits 8 upper ++ digits 8 n) (xor_zero_r lower) ∙ shifted_halves)
