-- Sums over all byte strings of a length, and how many strings a scheme opens: as many as there are messages.
-- Assumes nothing.
use mathlib.Core.Path.{◌≡◌, refl, sym, ap, ap₂, ◌∙◌}
use mathlib.Core.Bool.{Bool, true, false, true≢false}
use mathlib.Core.List.{List, [], ◌∷◌}
use mathlib.Core.Logic.{⊎_elim}
use Prim.Native.Nat.{ℕ, zero, suc, ◌+◌, ◌*◌, ◌^◌, ◌<◌}
use native.Mathlib.Nat.{le_of_suc-le-suc, not-suc-le-zero, eq-or-lt_of_le, pow-suc, mul_assoc, zero-mul, one-mul}
use native.Mathlib.Omega.{arith}
use Rattle.octets.specs.Strings.{Octets, eqs}
use Rattle.octets.specs.Count.{bit, sum, total, count}
use Rattle.octets.proofs.Tests.{eqs-same, eqs_other}

-- ---- f 0 + .. + f (k − 1)

pub sum_same : (k : ℕ) (f g : ℕ → ℕ) → ((x : ℕ) → x < k → f x ≡ g x) → sum k f ≡ sum k g
unfolding sum
sum_same zero f g h = refl
sum_same (suc k) f g h = ap₂ ◌+◌ (sum_same k f g (λ x l. h x (omega arith))) (h _ (omega arith))

pub sum_const : (k c : ℕ) → sum k (λ x. c) ≡ c * k
unfolding sum
sum_const zero c = omega arith
sum_const (suc k) c = omega (arith, sum_const k c)

pub sum-add : (k : ℕ) (f g : ℕ → ℕ) → sum k (λ x. f x + g x) ≡ sum k f + sum k g
unfolding sum
sum-add zero f g = refl
sum-add (suc k) f g = omega (arith, sum-add k f g)

pub sum_swap : (k m : ℕ) (h : ℕ → ℕ → ℕ) → sum k (λ x. sum m (λ y. h x y)) ≡ sum m (λ y. sum k (λ x. h x y))
unfolding sum
sum_swap zero m h = sym (sum_const m 0 ∙ zero-mul m)
sum_swap (suc k) m h = ap (λ (z : ℕ). z + sum m (h k)) (sum_swap k m h) ∙ sym (sum-add m (λ y. sum k (λ x. h x y)) (h k))

-- a sum in which only the term at x is not 0
pub sum-only : (k : ℕ) (f : ℕ → ℕ) (x : ℕ) → x < k → ((y : ℕ) → y < k → (y ≡ x → ⊥) → f y ≡ 0) → sum k f ≡ f x
unfolding sum
sum-only zero f x l h = absurd (not-suc-le-zero l)
sum-only (suc k) f x l h =
    ⊎_elim
    (λ (e : x ≡ k).
    let z : sum k f ≡ 0 = sum_same k f (λ y. 0) (λ y m. h y (omega arith) (λ q. omega arith)) ∙ sum_const k 0 ∙ zero-mul k in
    rw (z, e) (omega arith))
    (λ (m : x < k). omega (arith, sum-only k f x m (λ y p. h y (omega arith)), h k (omega arith) (λ q. omega arith)))
    (eq-or-lt_of_le (le_of_suc-le-suc l))

-- ---- over all strings of n bytes

octets-none : Octets 0 []
octets-none = record { size = refl; small = tt }

octets_cons : {n x : ℕ} {s : List ℕ} → x < 256 → Octets n s → Octets (suc n) (x ∷ s)
octets_cons l o = record { size = ap suc o.size; small = (l, o.small) }

pub total-same : (n : ℕ) (f g : List ℕ → ℕ) → ((s : List ℕ) → Octets n s → f s ≡ g s) → total n f ≡ total n g
unfolding total
total-same zero f g h = h [] octets-none
total-same (suc n) f g h = sum_same _ _ _ (λ x l. total-same n _ _ (λ s o. h (x ∷ s) (octets_cons (omega arith) o)))

pub total_const : (n c : ℕ) → total n (λ s. c) ≡ c * 256 ^ n
unfolding total
total_const zero c = omega arith
total_const (suc n) c = sum_const _ (total n (λ s. c)) ∙ rw (total_const n c, pow-suc) (mul_assoc c _ _)

pub total-none : (n : ℕ) → total n (λ s. 0) ≡ 0
total-none n = total_const n 0 ∙ zero-mul _

pub total-one : (n : ℕ) → total n (λ s. 1) ≡ 256 ^ n
total-one n = total_const n 1 ∙ one-mul _

sum-total : (k n : ℕ) (h : ℕ → List ℕ → ℕ) → sum k (λ x. total n (λ s. h x s)) ≡ total n (λ s. sum k (λ x. h x s))
unfolding total
sum-total k zero h = refl
sum-total k (suc n) h = sum_swap k _ _ ∙ sum_same _ _ _ (λ y l. sum-total k n (λ x s. h x (y ∷ s)))

pub total_swap : (n m : ℕ) (h : List ℕ → List ℕ → ℕ) → total n (λ s. total m (λ u. h s u)) ≡ total m (λ u. total n (λ s. h s u))
unfolding total
total_swap zero m h = refl
total_swap (suc n) m h = sum_same _ _ _ (λ x l. total_swap n m (λ s u. h (x ∷ s) u)) ∙ sum-total _ m _

-- a sum in which only the term at x is not 0
pub total-only : (n : ℕ) (f : List ℕ → ℕ) (x : List ℕ) → Octets n x → ((s : List ℕ) → Octets n s → (s ≡ x → ⊥) → f s ≡ 0) → total n f ≡ f x
unfolding total
total-only zero f [] o h = refl
total-only zero f (x ∷ s) o h = absurd (omega arith)
total-only (suc n) f [] o h = absurd (omega arith)
total-only (suc n) f (x ∷ s) o h =
    sum-only _ _ x o.small.0
    (λ y l ne.
    total-same n _ (λ u. 0) (λ u v. h (y ∷ u) (octets_cons (omega arith) v) (λ e. ne (cc)))
    ∙ total-none n)
    ∙ total-only n (λ u. f (x ∷ u)) s (record { size = omega arith; small = o.small.1 })
    (λ u v ne. h (x ∷ u) (octets_cons (omega arith) v) (λ e. ne (cc)))

-- one string of n bytes is x
pub total-at : (n : ℕ) (x : List ℕ) → Octets n x → total n (λ s. bit (eqs x s)) ≡ 1
unfolding bit
total-at n x o = total-only n (λ s. bit (eqs x s)) x o (λ s v ne. rw (eqs_other x s (λ e. ne (sym e)))) ∙ rw (eqs-same x)

-- ---- a scheme that seals n bytes to m

-- C is what just one message of n bytes is sealed to
pub record Sole (seal : List ℕ → List ℕ) (n : ℕ) (C : List ℕ) : Type 0 where
  pub message : List ℕ
  pub octets : Octets n message
  pub seals : seal message ≡ C
  pub sole : (M : List ℕ) → Octets n M → seal M ≡ C → M ≡ message

module _ (seal : List ℕ → List ℕ) (opens : List ℕ → Bool) (n m : ℕ)
    (sealed : (M : List ℕ) → Octets n M → Octets m (seal M))
    (good : (M : List ℕ) → Octets n M → opens (seal M) ≡ true)
    (only : (C : List ℕ) → Octets m C → opens C ≡ true → Sole seal n C) where
  -- C is sealed from one message if it opens, and from none if not
  opened : (C : List ℕ) → Octets m C → bit (opens C) ≡ total n (λ M. bit (eqs (seal M) C))
  unfolding bit
  opened C o = go (opens C) refl
    where
      go : (b : Bool) → opens C ≡ b → bit b ≡ total n (λ M. bit (eqs (seal M) C))
      go true e =
          let w = only C o e in
          sym
          (total-only n (λ M. bit (eqs (seal M) C)) w.message w.octets
          (λ M v ne. rw (eqs_other (seal M) C (λ q. ne (w.sole M v q))))
          ∙ rw (w.seals, eqs-same C))
      go false e =
          sym
          (total-same n _ (λ M. 0)
          (λ M v. rw (eqs_other (seal M) C (λ q. true≢false (sym (good M v) ∙ ap opens q ∙ e))))
          ∙ total-none n)

  -- as many strings of m bytes open as there are messages of n bytes
  pub count_scheme : count m opens ≡ 256 ^ n
  unfolding count
  count_scheme =
      total-same m _ _ opened ∙ total_swap m n (λ C M. bit (eqs (seal M) C))
      ∙ total-same n _ (λ M. 1) (λ M o. total-at m (seal M) (sealed M o))
      ∙ total-one n
