-- A comparison that gathers every difference.
-- Assumes nothing.
use mathlib.Core.Path.{◌≡◌, refl, sym, ap, ap₂, ◌∙◌}
use mathlib.Core.Bool.{Bool, true, false, ◌&&◌}
use mathlib.Core.Logic.{◌⊎◌}
use mathlib.Core.List.{List, [], ◌∷◌}
use Prim.Native.Nat.{ℕ, zero, suc, ◌+◌, ◌<◌, ◌≤◌}
use native.Mathlib.Numerals.{add-one}
use native.Mathlib.Omega.{arith}
use lib.Bits.{bit_or, bit_xor, or_add_and, xor_add_and, and_le_l, and_le_r, or_zero_l, xor_self}
use lib.Dec.{eqb}
use lib.ListN.{length, take, get_or}
use lib.Seq.{take_all}
use borrow.Author.Tests.{eqb-true, eqb-false, ne_eqb}
use Rattle.octets.specs.Strings.{eqs}

-- d and x ⊕ y have no bit: d is 0, and x is y
none_left : (d z : ℕ) → bit_or d z ≡ 0 → d ≡ 0
none_left d z e = omega (arith, or_add_and d z, and_le_r d z)

none_right : (d z : ℕ) → bit_or d z ≡ 0 → z ≡ 0
none_right d z e = omega (arith, or_add_and d z, and_le_l d z)

none_differ : (x y : ℕ) → bit_xor x y ≡ 0 → x ≡ y
none_differ x y e = omega (arith, xor_add_and x y, and_le_l x y, and_le_r x y)

gathered : (d x y : ℕ) → eqb (bit_or d (bit_xor x y)) 0 ≡ eqb d 0 && eqb x y
gathered d x y = go (eqb d 0) (eqb x y) refl refl
  where
    go : (p q : Bool) → eqb d 0 ≡ p → eqb x y ≡ q → eqb (bit_or d (bit_xor x y)) 0 ≡ p && q
    go true true e f = rw (eqb-true d 0 e, eqb-true x y f, or_zero_l, xor_self)
    go true false e f = ne_eqb _ 0 (λ z. eqb-false x y f (none_differ x y (none_right d (bit_xor x y) z)))
    go false q e f = ne_eqb _ 0 (λ z. eqb-false d 0 e (none_left d (bit_xor x y) z))

and_assoc : (p q r : Bool) → p && (q && r) ≡ (p && q) && r
and_assoc true q r = refl
and_assoc false q r = refl

-- One byte of both taken off, and their difference gathered: what w is stays.
pub one_more : {w : Bool} {a b s t : List ℕ} (d x y : ℕ) → a ≡ x ∷ s → b ≡ y ∷ t → w ≡ (eqb d 0 && eqs a b) →
    w ≡ (eqb (bit_or d (bit_xor x y)) 0 && eqs s t)
one_more {s = s} {t = t} d x y p q h =
    h ∙ ap₂ (λ (u v : List ℕ). eqb d 0 && eqs u v) p q
    ∙ and_assoc (eqb d 0) (eqb x y) (eqs s t)
    ∙ ap (λ (z : Bool). z && eqs s t) (sym (gathered d x y))

and-true : (p : Bool) → p && true ≡ p
and-true true = refl
and-true false = refl

-- Nothing is left of two strings of one length.
pub none_more : {w : Bool} (a b : List ℕ) (d : ℕ) → length a ≡ length b → (length a ≡ 0) ⊎ (length b ≡ 0) →
    w ≡ (eqb d 0 && eqs a b) → eqb d 0 ≡ w
none_more [] [] d e z h = sym (h ∙ and-true (eqb d 0))
none_more [] (y ∷ t) d e z h = absurd (grind arith)
none_more (x ∷ s) b d e z h = absurd (grind arith)

-- The same by how many bytes were looked at.

-- one byte more of both
eqs-more : (a b : List ℕ) (i : ℕ) → i < length a → length a ≡ length b →
    eqs (take (suc i) a) (take (suc i) b) ≡ eqs (take i a) (take i b) && eqb (get_or a i 0) (get_or b i 0)
eqs-more [] b i h e = absurd (omega arith)
eqs-more (x ∷ a) [] i h e = absurd (omega arith)
eqs-more (x ∷ a) (y ∷ b) zero h e = and-true (eqb x y)
eqs-more (x ∷ a) (y ∷ b) (suc i) h e =
    ap (λ (p : Bool). eqb x y && p) (eqs-more a b i (omega arith) (omega arith))
    ∙ and_assoc (eqb x y) (eqs (take i a) (take i b)) (eqb (get_or a i 0) (get_or b i 0))

-- After i turns: d is 0 just where the first i bytes of a and b are the same.
pub record Compared (a b : List ℕ) (d i : ℕ) : Type 0 where
  pub within : i ≤ length a
  pub so_far : eqb d 0 ≡ eqs (take i a) (take i b)

pub compared-none : {a b : List ℕ} → Compared a b 0 0
compared-none = record { within = omega arith; so_far = refl }

pub compared-turn : {a b : List ℕ} {d i : ℕ} → Compared a b d i → length a ≡ length b → i < length a →
    Compared a b (bit_or d (bit_xor (get_or a i 0) (get_or b i 0))) (i + 1)
compared-turn {a} {b} {d} {i} v e h =
    rw (add-one i)
    (record {
      within = omega arith;
      so_far =
          gathered d (get_or a i 0) (get_or b i 0) ∙ ap (λ (p : Bool). p && eqb (get_or a i 0) (get_or b i 0)) v.so_far
          ∙ sym (eqs-more a b i h e);
    })

pub compared-all : {a b : List ℕ} {d i : ℕ} → Compared a b d i → length a ≡ length b → length a ≤ i → eqb d 0 ≡ eqs a b
compared-all {a} {b} {d} {i} v e h = v.so_far ∙ ap₂ eqs (take_all i a h) (take_all i b (omega arith))
