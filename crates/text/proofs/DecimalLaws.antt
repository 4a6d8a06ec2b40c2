-- Decimal digits: what the tests say, the number that digits stand for, and a number's digits without zeros before them.
-- Assumes nothing.
use mathlib.Core.Path.{◌≡◌, refl, sym, ap, ap₂, ◌∙◌}
use mathlib.Core.Bool.{Bool, true, false, not, ◌&&◌, ◌||◌, and-true, and-false, or-true, false≢true}
use mathlib.Core.List.{List, [], ◌∷◌, ◌++◌}
use mathlib.Core.Logic.{◌⊎◌, ⊎_elim}
use Prim.Native.Nat.{ℕ, zero, suc, ◌+◌, ◌-◌, ◌*◌, ◌/◌, ◌%◌, ◌^◌, ◌<◌, ◌≤◌}
use native.Mathlib.Nat.{le_of_suc-le-suc, not-suc-le-zero, pow-suc}
use native.Mathlib.Numerals.{add-one}
use native.Mathlib.Omega.{arith}
use borrow.Author.Tests.{eq-eqb, ne_eqb, lt-ltb, le-ltb, ltb-true}
use lib.Dec.{eqb, ltb}
use lib.ListN.{length, take, drop, get_or, length-append, drop_of_length-le}
use lib.Seq.{drop-cons, drop_at, drop-append-le, take-length}
use Rattle.text.proofs.NumeralLaws.{both, digit}
use Rattle.text.specs.Numerals.{decimal_of, is_digit, all_digits, is_set_number, decimal_value}
use Rattle.octets.proofs.Tests.{le_or_lt}
use Rattle.std.specs.List.{list_all}

-- ---- digits

digit_at : (w : List ℕ) (i : ℕ) → all_digits w ≡ true → i < length w → is_digit (get_or w i 0) ≡ true
unfolding all_digits
digit_at [] i h l = absurd (not-suc-le-zero l)
digit_at (x ∷ w) zero h l = (both (is_digit x) (all_digits w) h).0
digit_at (x ∷ w) (suc i) h l = digit_at w i (both (is_digit x) (all_digits w) h).1 (le_of_suc-le-suc l)

pub all_of : (w : List ℕ) → list_all is_digit w ≡ all_digits w
unfolding all_digits
all_of [] = refl
all_of (c ∷ w) = ap (λ (p : Bool). is_digit c && p) (all_of w)

-- ---- the number of a set

pub set-none : (w : List ℕ) → length w ≡ 0 → false ≡ is_set_number w
unfolding is_set_number
set-none [] h = refl
set-none (c ∷ s) h = absurd (omega arith)

pub set_long : (w : List ℕ) → 3 < length w → false ≡ is_set_number w
unfolding is_set_number
set_long [] h = refl
set_long (c ∷ s) h = rw (le-ltb (length s) 3 (omega arith), and-false)

pub set-zero : (w : List ℕ) → 1 < length w → get_or w 0 0 ≡ 48 → false ≡ is_set_number w
unfolding is_set_number
set-zero [] h e = refl
set-zero (c ∷ s) h e = rw (ne_eqb (length s) 0 (λ z. omega arith), eq-eqb c 48 e, and-false)

pub set-digits : (w : List ℕ) → 0 < length w → length w ≤ 3 → (length w ≤ 1) ⊎ (get_or w 0 0 ≡ 48 → ⊥) → all_digits w ≡ is_set_number w
unfolding is_set_number all_digits
set-digits [] p h k = absurd (not-suc-le-zero p)
set-digits (c ∷ s) p h k =
    sym (ap₂ (λ (a b : Bool). is_digit c && all_digits s && a && b) (lt-ltb (length s) 3 h) plain ∙ and-true _ ∙ and-true _)
  where
    plain : (eqb (length s) 0 || not (eqb c 48)) ≡ true
    plain =
        ⊎_elim
        (λ (l : suc (length s) ≤ 1). rw (eq-eqb (length s) 0 (omega arith)))
        (λ (n : c ≡ 48 → ⊥). rw (ne_eqb c 48 n) (or-true (eqb (length s) 0)))
        k

pub set_is : (w : List ℕ) → is_set_number w ≡ true → (all_digits w ≡ true) × (length w ≤ 3)
unfolding is_set_number all_digits
set_is [] h = absurd (false≢true h)
set_is (c ∷ s) h =
    let p = both (is_digit c && all_digits s && ltb (length s) 3) (eqb (length s) 0 || not (eqb c 48)) h in
    let q = both (is_digit c && all_digits s) (ltb (length s) 3) p.0 in
    (q.0, ltb-true (length s) 3 q.1)

-- a byte of it
pub set-digit : (w : List ℕ) (i : ℕ) → is_set_number w ≡ true → i < length w → (48 ≤ get_or w i 0) × (get_or w i 0 ≤ 57)
set-digit w i h l = let d = digit (get_or w i 0) (digit_at w i (set_is w h).0 l) in (d.low, d.high)

-- After i turns: n is the number of the first i digits.
pub record Read (w : List ℕ) (n i : ℕ) : Type 0 where
  pub within : i ≤ length w
  pub small : n < 10 ^ i
  pub so_far : decimal_value 0 w ≡ decimal_value n (drop i w)

pub read_none : (w : List ℕ) → Read w 0 0
read_none w = record { within = omega arith; small = omega arith; so_far = refl }

-- before the last of at most 3 digits
hundred : (i : ℕ) → i < 3 → 10 ^ i ≤ 100
hundred zero h = omega arith
hundred (suc zero) h = omega arith
hundred (suc (suc zero)) h = omega arith
hundred (suc (suc (suc i))) h = absurd (omega arith)

-- there is room for one digit more
pub read-room : {w : List ℕ} {n i : ℕ} → Read w n i → is_set_number w ≡ true → i < length w → n < 100
read-room {w} {n} {i} v h l = let s = (set_is w h).1 in omega (arith, hundred i (omega arith), v.small)

pub read-turn : {w : List ℕ} {n i : ℕ} → Read w n i → is_set_number w ≡ true → i < length w → Read w (n * 10 + (get_or w i 0 - 48)) (i + 1)
unfolding decimal_value
read-turn {w} {n} {i} v h l =
    let d = set-digit w i h l in
    record {
      within = omega arith;
      small = rw (add-one i, pow-suc 10 i) (omega (arith, v.small));
      so_far = v.so_far ∙ rw (drop-cons w i 0, add-one);
    }

pub read_all : {w : List ℕ} {n i : ℕ} → Read w n i → length w ≤ i → n ≡ decimal_value 0 w
unfolding decimal_value
read_all {w} {n} {i} v h = sym (v.so_far ∙ ap (decimal_value n) (drop_of_length-le w {i = i} h))

-- ---- a number's digits

-- how many there are
pub size-one : (k n : ℕ) → n < 10 → length (decimal_of (suc k) n) ≡ 1
unfolding decimal_of
size-one k n h = rw (lt-ltb n 10 h)

pub size-more : (k n : ℕ) → 10 ≤ n → length (decimal_of (suc k) n) ≡ length (decimal_of k (n / 10)) + 1
unfolding decimal_of
size-more k n h = rw (le-ltb n 10 h) (length-append (decimal_of k (n / 10)) _)

-- the last k digits, zeros before the number among them
unfoldable pub digits_of : ℕ → ℕ → List ℕ
digits_of zero n = []
digits_of (suc k) n = digits_of k (n / 10) ++ ((48 + n % 10) ∷ [])

length_digits : (k n : ℕ) → length (digits_of k n) ≡ k
unfolding digits_of
length_digits zero n = refl
length_digits (suc k) n = length-append (digits_of k (n / 10)) _ ∙ omega (arith, length_digits k (n / 10))

-- all five
five-digits : (n : ℕ) → (48 + n / 10000 % 10) ∷ (48 + n / 1000 % 10) ∷ (48 + n / 100 % 10) ∷ (48 + n / 10 % 10) ∷ (48 + n % 10) ∷ [] ≡ digits_of 5 n
unfolding digits_of
five-digits n =
    let a : n / 10000 ≡ n / 10 / 10 / 10 / 10 = omega arith in
    let b : n / 1000 ≡ n / 10 / 10 / 10 = omega arith in
    let c : n / 100 ≡ n / 10 / 10 = omega arith in
    rw (a, b, c) refl

-- without the first i, where the others are as many as the number has
without : (k n i : ℕ) → i + length (decimal_of k n) ≡ k → drop i (digits_of k n) ≡ decimal_of k n
unfolding decimal_of digits_of
without zero n i e = ap (λ (j : ℕ). drop j []) {x = i} {y = 0} (omega (arith, e))
without (suc k) n i e = ⊎_elim (more (without k (n / 10) i)) one (le_or_lt 10 n)
  where
    d : length (digits_of k (n / 10)) ≡ k
    d = length_digits k (n / 10)

    one : n < 10 → drop i (digits_of (suc k) n) ≡ decimal_of (suc k) n
    one h =
        drop_at (digits_of k (n / 10)) _ i (omega (arith, d, e, size-one k n h))
        ∙ rw (lt-ltb n 10 h) (ap (λ (a : ℕ). a ∷ []) {x = 48 + n % 10} {y = 48 + n} (omega arith))

    more : (i + length (decimal_of k (n / 10)) ≡ k → drop i (digits_of k (n / 10)) ≡ decimal_of k (n / 10)) → 10 ≤ n →
        drop i (digits_of (suc k) n) ≡ decimal_of (suc k) n
    more before h =
        let l : i + length (decimal_of k (n / 10)) ≡ k = omega (arith, e, size-more k n h) in
        drop-append-le i (digits_of k (n / 10)) _ (omega (arith, d, l))
        ∙ rw (le-ltb n 10 h) (ap (λ (s : List ℕ). s ++ ((48 + n % 10) ∷ [])) (before l))

-- of five digits, those of the number
pub without-zeros : (n i : ℕ) → i + length (decimal_of 5 n) ≡ 5 →
    take (5 - i) (drop i ((48 + n / 10000 % 10) ∷ (48 + n / 1000 % 10) ∷ (48 + n / 100 % 10) ∷ (48 + n / 10 % 10) ∷ (48 + n % 10) ∷ [])) ≡ decimal_of 5 n
without-zeros n i e =
    let l : 5 - i ≡ length (decimal_of 5 n) = omega (arith, e) in
    rw (five-digits n, without 5 n i e, l) (take-length (decimal_of 5 n))
