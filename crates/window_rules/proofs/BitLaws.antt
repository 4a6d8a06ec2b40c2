-- The bits of a sum by or, of a power of two, and of a number that is shifted and cut.
-- Assumes nothing.
use mathlib.Core.Path.{◌≡◌, refl, sym, ap, subst, ◌∙◌}
use mathlib.Core.Bool.{Bool, true, false, ◌||◌}
use mathlib.Core.Logic.{⊎_elim}
use Prim.Native.Nat.{ℕ, zero, suc, ◌+◌, ◌-◌, ◌*◌, ◌/◌, ◌%◌, ◌^◌, ◌<◌, ◌≤◌}
use native.Mathlib.Nat.{one-mul, mul_assoc, div-eq_of_lt}
use native.Mathlib.Omega.{arith}
use borrow.Author.Tests.{eq-eqb, ne_eqb, eqb-true, eqb-false}
use lib.Bits.{bit_or, or_zero_l, or_shr, or_mod, shifted_even}
use lib.Dec.{eqb}
use lib.Pow.{pow-add, pow-lt, shl-shr, shr-shr, field, mod-mod-pow}
use Rattle.octets.proofs.Tests.{le_or_lt}
use Rattle.window_rules.specs.Window.{bit}

-- two comparisons that say the same
pub same_test : (a b c d : ℕ) → (a ≡ b → c ≡ d) → (c ≡ d → a ≡ b) → eqb a b ≡ eqb c d
same_test a b c d f g = go (eqb a b) refl
  where
    go : (x : Bool) → eqb a b ≡ x → eqb a b ≡ eqb c d
    go true e = e ∙ sym (eq-eqb c d (f (eqb-true a b e)))
    go false e = e ∙ sym (ne_eqb c d (λ z. eqb-false a b e (g z)))

pub bit-or : (a b i : ℕ) → bit (bit_or a b) i ≡ bit a i || bit b i
unfolding bit
bit-or a b i = rw (or_shr a b i, or_mod (a / 2 ^ i) (b / 2 ^ i) 1) (digit (a / 2 ^ i % 2) (b / 2 ^ i % 2) (omega arith) (omega arith))
  where
    digit : (x y : ℕ) → x < 2 → y < 2 → eqb (bit_or x y) 1 ≡ eqb x 1 || eqb y 1
    digit zero y p q = rw (or_zero_l y) refl
    digit (suc zero) zero p q = refl
    digit (suc zero) (suc zero) p q = refl
    digit (suc zero) (suc (suc y)) p q = absurd (omega arith)
    digit (suc (suc x)) y p q = absurd (omega arith)

-- a number moved up by d bits: the lowest d are not set, and bit k is bit d + k now
pub bit_below : (n d i : ℕ) → i < d → bit (n * 2 ^ d) i ≡ false
unfolding bit
bit_below n d i h = subst (λ (k : ℕ). bit (n * 2 ^ k) i ≡ false) {x = suc (d - suc i) + i} (omega arith) (go (d - suc i))
  where
    go : (e : ℕ) → bit (n * 2 ^ (suc e + i)) i ≡ false
    go e = rw (pow-add 2 (suc e) i, ← mul_assoc n (2 ^ suc e) (2 ^ i), shl-shr (n * 2 ^ suc e) i, shifted_even n e) refl

pub bit-above : (n d k : ℕ) → bit (n * 2 ^ d) (d + k) ≡ bit n k
unfolding bit
bit-above n d k = rw (← shr-shr (n * 2 ^ d) d k, shl-shr n d) refl

-- a number cut to 64 bits
pub bit_cut : (n i : ℕ) → i < 64 → bit (n % 2 ^ 64) i ≡ bit n i
unfolding bit
bit_cut n i h = subst (λ (k : ℕ). bit (n % 2 ^ k) i ≡ bit n i) {x = 63 - i + 1 + i} {y = 64} (omega arith) (go (63 - i))
  where
    go : (e : ℕ) → bit (n % 2 ^ (e + 1 + i)) i ≡ bit n i
    go e = rw (field n (e + 1) i, mod-mod-pow (n / 2 ^ i) e 1) refl

bit-one : (k : ℕ) → bit 1 k ≡ eqb k 0
unfolding bit
bit-one zero = refl
bit-one (suc k) = rw (div-eq_of_lt (pow-lt {i = 0} {j = suc k} (omega arith))) (sym (ne_eqb (suc k) 0 (λ e. omega arith)))

pub bit-power : (i j : ℕ) → bit (2 ^ j) i ≡ eqb i j
bit-power i j = ap (λ (n : ℕ). bit n i) (sym (one-mul (2 ^ j))) ∙ ⊎_elim far near (le_or_lt j i)
  where
    far : j ≤ i → bit (1 * 2 ^ j) i ≡ eqb i j
    far h = subst (λ (k : ℕ). bit (1 * 2 ^ j) k ≡ eqb (i - j) 0) {x = j + (i - j)} {y = i} (omega arith) (bit-above 1 j (i - j) ∙ bit-one (i - j)) ∙ same_test (i - j) 0 i j (λ e. omega arith) (λ e. omega arith)

    near : i < j → bit (1 * 2 ^ j) i ≡ eqb i j
    near h = bit_below 1 j i h ∙ sym (ne_eqb i j (λ e. omega arith))
