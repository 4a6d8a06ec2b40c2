-- A table's rule from one computed test: what the test finds at every place below n holds at each of them.
-- Assumes nothing.
use mathlib.Core.Path.{◌≡◌, refl, sym, ap₂, subst}
use mathlib.Core.Bool.{Bool, true, false, ◌&&◌}
use mathlib.Core.List.{List, [], ◌∷◌}
use mathlib.Core.Logic.{◌⊎◌, inl, inr, ⊎_elim}
use Prim.Native.Nat.{ℕ, zero, suc, ◌<◌, ◌≤◌}
use native.Mathlib.Nat.{le_of_suc-le-suc, not-suc-le-zero, eq-or-lt_of_le}
use lib.Dec.{T, eqb, leb, eqb→eq}
use borrow.Author.Tests.{eq-eqb, leb-true, leb-false}
use Rattle.octets.specs.Strings.{eqs}

left : (a b : Bool) → T (a && b) → T a
left true b t = tt
left false b t = t

right : (a b : Bool) → T (a && b) → T b
right true b t = t
right false b t = absurd t

pub eqs→eq : (s t : List ℕ) → T (eqs s t) → s ≡ t
eqs→eq [] [] h = refl
eqs→eq [] (y ∷ t) h = absurd h
eqs→eq (x ∷ s) [] h = absurd h
eqs→eq (x ∷ s) (y ∷ t) h = ap₂ ◌∷◌ (eqb→eq x y (left (eqb x y) (eqs s t) h)) (eqs→eq s t (right (eqb x y) (eqs s t) h))

-- what the test of two strings says of the same string, and of two that differ
pub eqs-same : (s : List ℕ) → eqs s s ≡ true
eqs-same [] = refl
eqs-same (x ∷ s) = rw (eq-eqb x x refl, eqs-same s)

pub eqs_other : (s t : List ℕ) → (s ≡ t → ⊥) → eqs s t ≡ false
eqs_other s t h = go (eqs s t) refl
  where
    go : (b : Bool) → eqs s t ≡ b → b ≡ false
    go true e = absurd (h (eqs→eq s t (subst T (sym e) tt)))
    go false e = refl

-- f and g give the same lists at each number below n
abbrev pub agree : (ℕ → List ℕ) → (ℕ → List ℕ) → ℕ → Bool
agree f g zero = true
agree f g (suc n) = eqs (f n) (g n) && agree f g n

pub same : (f g : ℕ → List ℕ) (n : ℕ) → T (agree f g n) → (k : ℕ) → k < n → f k ≡ g k
same f g zero t k h = absurd (not-suc-le-zero h)
same f g (suc n) t k h =
    ⊎_elim
    (λ (e : k ≡ n). rw e (eqs→eq (f n) (g n) (left (eqs (f n) (g n)) (agree f g n) t)))
    (λ (l : k < n). same f g n (right (eqs (f n) (g n)) (agree f g n) t) k l)
    (eq-or-lt_of_le (le_of_suc-le-suc h))

-- ---- cases

pub le_or_lt : (m n : ℕ) → (m ≤ n) ⊎ (n < m)
le_or_lt m n = go (leb m n) refl
  where
    go : (b : Bool) → leb m n ≡ b → (m ≤ n) ⊎ (n < m)
    go true e = inl (leb-true m n e)
    go false e = inr (leb-false m n e)
