-- The number that a nonce begins with, nonces compared as numbers, and a charge against what is left of the capacity.
-- Assumes nothing.
use mathlib.Core.Path.{◌≡◌, refl, sym, ap, ◌∙◌}
use mathlib.Core.Bool.{Bool, true, false, not}
use mathlib.Core.List.{List, [], ◌∷◌}
use mathlib.Core.Logic.{⊎_elim}
use Prim.Native.Nat.{ℕ, ◌+◌, ◌*◌, ◌/◌, ◌^◌, ◌<◌, ◌≤◌}
use native.Mathlib.Nat.{mul-le-mul_right, add-mul, one-mul, le_antisymm}
use native.Mathlib.Omega.{arith}
use mir.Val.{bool_byte}
use borrow.Author.Tests.{eq-eqb, ne_eqb, lt-ltb, le-ltb, le-leb, lt-leb}
use lib.Dec.{ltb, leb}
use lib.ListN.{length, get_or}
use Rattle.std.specs.Prelude.{Option, Some, max}
use Rattle.std.specs.declared.cmp.Ordering.{Ordering}
use Rattle.std.specs.Ordering.{is_some_and, is_le, nat_cmp, partial_ordering_then}
use Rattle.std.specs.Cmp.Lexicographic.{slice_partial_cmp}
use Rattle.std.specs.Int.{from_be_bytes, w16}
use Rattle.octets.specs.Strings.{Bytes}
use Rattle.octets.specs.Numbers.{number}
use Rattle.octets.proofs.Numbers.{number_lt, number_more}
use Rattle.octets.proofs.Tests.{le_or_lt}
use Rattle.answers.proofs.RowLaws.{not-true}
use Rattle.cba_mode.specs.Sets.{capacity}
use Rattle.cba_mode.specs.Charge.{old_charge, charge}
use Rattle.ledger_rules.specs.Ledger.{Ledger, console_of, stale, charge_by, spent}

-- ---- the charge, by the blocks x of the data and y of the message

pub charge_is : {x y : ℕ} (b : Bool) (ad message : ℕ) → x ≡ (ad + 15) / 16 → y ≡ (message + 15) / 16 → max (x + y) (bool_byte b) ≡ charge_by b ad message
unfolding charge_by charge old_charge
charge_is true ad message e f = omega (arith, e, f)
charge_is false ad message e f = omega (arith, e, f)

-- ---- nonces

pub console_start : (N : List ℕ) → length N ≡ 12 → from_be_bytes w16 (get_or N 0 0 ∷ get_or N 1 0 ∷ []) ≡ console_of N
unfolding console_of number
console_start N h = omega (arith, number_more N 0 (omega (arith, h)), number_more N 1 (omega (arith, h)))

-- numbers that begin with the digits x and y, to base k
below : (x y k s t : ℕ) → x < y → s < k → x * k + s < y * k + t
below x y k s t h g =
    let m : (x + 1) * k ≤ y * k = mul-le-mul_right k (omega arith) in
    omega (arith, m, add-mul x 1 k, one-mul k)

first_digit : (x y k s t : ℕ) (o : Option Ordering) → s < k → t < k → is_some_and is_le o ≡ leb s t →
    is_some_and is_le (partial_ordering_then (Some (nat_cmp x y)) o) ≡ leb (x * k + s) (y * k + t)
first_digit x y k s t o g g' e =
    ⊎_elim (λ (h : y ≤ x). ⊎_elim (λ (i : x ≤ y). same i h) (λ (i : y < x). above i) (le_or_lt x y)) (λ (h : x < y). under h) (le_or_lt y x)
  where
    under : x < y → is_some_and is_le (partial_ordering_then (Some (nat_cmp x y)) o) ≡ leb (x * k + s) (y * k + t)
    under h = let m = below x y k s t h g in rw (lt-ltb x y h) (sym (le-leb (x * k + s) (y * k + t) (omega (arith, m))))

    above : y < x → is_some_and is_le (partial_ordering_then (Some (nat_cmp x y)) o) ≡ leb (x * k + s) (y * k + t)
    above h = let m = below y x k t s h g' in rw (le-ltb x y (omega arith), ne_eqb x y (λ z. omega (arith, z))) (sym (lt-leb (x * k + s) (y * k + t) m))

    same : x ≤ y → y ≤ x → is_some_and is_le (partial_ordering_then (Some (nat_cmp x y)) o) ≡ leb (x * k + s) (y * k + t)
    same i h =
        let z = le_antisymm i h in
        let m = ap (λ (n : ℕ). n * k) z in
        rw (le-ltb x y h, eq-eqb x y z)
        (e
        ∙ ⊎_elim
        (λ (p : s ≤ t). le-leb s t p ∙ sym (le-leb (x * k + s) (y * k + t) (omega (arith, m, p))))
        (λ (p : t < s). lt-leb s t p ∙ sym (lt-leb (x * k + s) (y * k + t) (omega (arith, m, p))))
        (le_or_lt s t))

-- strings of one length have the order of their numbers
pub in_order : (a b : List ℕ) → length a ≡ length b → Bytes a → Bytes b → is_some_and is_le (slice_partial_cmp (λ (x y : ℕ). Some (nat_cmp x y)) a b) ≡ leb (number a) (number b)
unfolding number
in_order [] [] l p q = refl
in_order [] (y ∷ b) l p q = absurd (omega (arith, l))
in_order (x ∷ a) [] l p q = absurd (omega (arith, l))
in_order (x ∷ a) (y ∷ b) l p q =
    let m : length b ≡ length a = omega (arith, l) in
    rw m (first_digit x y (256 ^ length a) (number a) (number b) _ (number_lt a p.1) (rw m at (number_lt b q.1)) (in_order a b (sym m) p.1 q.1))

-- ---- the ledger's own checks

pub not-begun : (l : Ledger) (N : List ℕ) → not l.begun ≡ true → false ≡ stale l N
unfolding stale
not-begun l N h = rw (not-true l.begun h) refl

-- by whether the charge goes in
pub spent-is : (l : Ledger) (b c : ℕ) (r : Bool) → r ≡ not (ltb (2 ^ b) (l.total + c)) → b ≡ capacity l.set → spent l c ≡ not r
unfolding spent
spent-is l b c r e eb = ap (λ (i : ℕ). ltb (2 ^ i) (l.total + c)) (sym eb) ∙ twice (ltb (2 ^ b) (l.total + c)) ∙ ap not (sym e)
  where
    twice : (x : Bool) → x ≡ not (not x)
    twice true = refl
    twice false = refl
