-- Numbers and values as text: what was written is read back, and what is read was written so.
-- Assumes nothing.
use mathlib.Core.Path.{◌≡◌, refl, sym, ap, ap₂, subst, ◌∙◌}
use mathlib.Core.Bool.{Bool, true, false, cond, not, ◌&&◌, ◌||◌, and-eq-true_iff, false≢true}
use mathlib.Core.List.{List, [], ◌∷◌, ◌++◌}
use mathlib.Core.Logic.{◌⊎◌, inl, inr, ⊎_elim}
use Prim.Native.Nat.{ℕ, suc, ◌+◌, ◌-◌, ◌*◌, ◌/◌, ◌%◌, ◌<◌, ◌≤◌}
use native.Mathlib.Omega.{arith}
use lib.Dec.{T, eqb, ltb, leb}
use lib.ListN.{length}
use borrow.Author.Tests.{ltb-true, leb-true, eqb-false, not-true, lt-ltb, le-ltb, le-leb, lt-leb, ne_eqb}
use Rattle.octets.specs.Strings.{Bytes, eqs}
use Rattle.octets.proofs.Tests.{eqs→eq, eqs_other, agree, same}
use Rattle.text.specs.Numerals.{decimal_of, decimal, is_digit, all_digits, is_set_number, decimal_value, hex_digit, hex, shown, is_hex_digit, hex_value, are_hex_pairs, unhex, is_value, value_of}

-- every character comes after the space, so there is none
abbrev pub Solid : List ℕ → Type 0
Solid [] = Unit {0}
Solid (c ∷ w) = (32 < c) × Solid w

-- both parts of a test
pub both : (a b : Bool) → a && b ≡ true → (a ≡ true) × (b ≡ true)
both a b = (and-eq-true_iff a b).0

-- one computed test, that each number below m is read back from its text
module _ {X : Type 0} (write : ℕ → X) (is : X → Bool) (value : X → ℕ) where
  abbrev reads_back : ℕ → List ℕ
  reads_back n = cond (is (write n)) (value (write n) ∷ []) []

  read_back : (m : ℕ) → T (agree reads_back (λ n. n ∷ []) m) → (n : ℕ) → n < m → (is (write n) ≡ true) × (value (write n) ≡ n)
  read_back m test n h = go (is (write n)) (same reads_back (λ n. n ∷ []) m test n h)
    where
      go : (b : Bool) → cond b (value (write n) ∷ []) [] ≡ n ∷ [] → (b ≡ true) × (value (write n) ≡ n)
      go true e = (refl, cc)
      go false e = absurd (omega (arith, ap length e))

-- ---- set numbers

pub set_back : (n : ℕ) → n ≤ 999 → (is_set_number (decimal n) ≡ true) × (decimal_value 0 (decimal n) ≡ n)
unfolding decimal_of is_digit all_digits is_set_number decimal_value
set_back n h = read_back decimal is_set_number (decimal_value 0) 1000 tt n (omega arith)

-- a digit
pub record Digit (c : ℕ) : Type 0 where
  pub low : 48 ≤ c
  pub high : c ≤ 57

pub digit : (c : ℕ) → is_digit c ≡ true → Digit c
unfolding is_digit
digit c e = let p = both (leb 48 c) (leb c 57) e in record { low = leb-true 48 c p.0; high = leb-true c 57 p.1 }

-- a number of one digit is written as that digit, and a digit more goes to the end
decimal-one : (k n c : ℕ) → Digit c → c ≡ 48 + n → decimal_of (suc k) n ≡ c ∷ []
unfolding decimal_of
decimal-one k n c d e = rw (lt-ltb n 10 (omega arith)) (ap (λ (x : ℕ). x ∷ []) (sym e))

decimal-more : (k n c : ℕ) → 1 ≤ n → Digit c → decimal_of (suc k) (n * 10 + (c - 48)) ≡ decimal_of k n ++ (c ∷ [])
unfolding decimal_of
decimal-more k n c h d =
    rw (le-ltb (n * 10 + (c - 48)) 10 (omega arith))
    (ap₂ (λ (q x : ℕ). decimal_of k q ++ (x ∷ [])) {x = (n * 10 + (c - 48)) / 10} {y = n} (omega arith) (omega arith))

-- what a word is that is a set number
pub record SetNumber (w : List ℕ) : Type 0 where
  pub most : decimal_value 0 w ≤ 999
  pub solid : Solid w
  pub back : decimal (decimal_value 0 w) ≡ w

-- what the test of a word with the first character c says
record Parts (c : ℕ) (s : List ℕ) : Type 0 where
  first : Digit c
  others : all_digits s ≡ true
  few : length s < 3
  lead : eqb (length s) 0 || not (eqb c 48) ≡ true

parts : (c : ℕ) (s : List ℕ) → is_set_number (c ∷ s) ≡ true → Parts c s
unfolding is_set_number
parts c s e =
    let p = both (is_digit c && all_digits s && ltb (length s) 3) _ e in
    let q = both (is_digit c && all_digits s) _ p.0 in
    let r = both (is_digit c) _ q.0 in
    record { first = digit c r.0; others = r.1; few = ltb-true (length s) 3 q.1; lead = p.1 }

pub set-number : (w : List ℕ) → is_set_number w ≡ true → SetNumber w
unfolding is_set_number all_digits decimal_value
set-number [] e = absurd (false≢true e)
set-number (c ∷ []) h =
    let p = parts c [] h in
    record { most = omega arith; solid = (omega arith, tt); back = decimal-one _ _ c p.first (omega arith) }
set-number (c ∷ d ∷ []) h =
    let p = parts c (d ∷ []) h in
    let n = eqb-false c 48 (not-true _ p.lead) in
    let m = 0 + (c - 48) in
    let q = digit d (both (is_digit d) _ p.others).0 in
    record {
      most = omega arith;
      solid = (omega arith, (omega arith, tt));
      back = rw (decimal-more 4 m d (omega arith) q, decimal-one 3 m c p.first (omega arith));
    }
set-number (c ∷ d ∷ e ∷ []) h =
    let p = parts c (d ∷ e ∷ []) h in
    let n = eqb-false c 48 (not-true _ p.lead) in
    let m = 0 + (c - 48) in
    let o = both (is_digit d) _ p.others in
    let q = digit d o.0 in
    let r = digit e (both (is_digit e) _ o.1).0 in
    record {
      most = omega arith;
      solid = (omega arith, (omega arith, (omega arith, tt)));
      back =
          rw (
            decimal-more 4 (m * 10 + (d - 48)) e (omega arith) r,
            decimal-more 3 m d (omega arith) q,
            decimal-one 2 m c p.first (omega arith),
          );
    }
set-number (c ∷ d ∷ e ∷ f ∷ s) h = absurd (omega (arith, (parts c (d ∷ e ∷ f ∷ s) h).few))

-- ---- hexadecimal digits

pub digit-back : (v : ℕ) → v < 16 → (is_hex_digit (hex_digit v) ≡ true) × (hex_value (hex_digit v) ≡ v)
unfolding is_digit is_hex_digit hex_digit hex_value
digit-back v h = read_back hex_digit is_hex_digit hex_value 16 tt v h

-- what a character is that is a digit
pub record HexDigit (c : ℕ) : Type 0 where
  pub above : 48 ≤ c
  pub small : hex_value c < 16
  pub back : hex_digit (hex_value c) ≡ c

-- 0 to 9, or a to f
pub hex_range : (c : ℕ) → is_hex_digit c ≡ true → Digit c ⊎ ((97 ≤ c) × (c ≤ 102))
unfolding is_hex_digit
hex_range c h = go (is_digit c) refl h
  where
    go : (b : Bool) → is_digit c ≡ b → b || (leb 97 c && leb c 102) ≡ true → Digit c ⊎ ((97 ≤ c) × (c ≤ 102))
    go true e k = inl (digit c e)
    go false e k = let p = both (leb 97 c) _ k in inr (leb-true 97 c p.0, leb-true c 102 p.1)

pub hex-digit : (c : ℕ) → is_hex_digit c ≡ true → HexDigit c
unfolding hex_value hex_digit
hex-digit c h =
    ⊎_elim
    (λ (d : Digit c).
    record {
      above = d.low;
      small = rw (le-leb c 57 d.high) (omega arith);
      back = rw (le-leb c 57 d.high, lt-ltb (c - 48) 10 (omega arith)) (omega arith);
    })
    (λ (d : (97 ≤ c) × (c ≤ 102)).
    record {
      above = omega arith;
      small = rw (lt-leb c 57 (omega arith)) (omega arith);
      back = rw (lt-leb c 57 (omega arith), le-ltb (c - 87) 10 (omega arith)) (omega arith);
    })
    (hex_range c h)

-- ---- pairs of digits

hex-test : (s : List ℕ) → Bytes s → are_hex_pairs (hex s) ≡ true
unfolding are_hex_pairs hex
hex-test [] b = refl
hex-test (x ∷ s) b = rw ((digit-back (x / 16) (omega arith)).0, (digit-back (x % 16) (omega arith)).0, hex-test s b.1)

hex-back : (s : List ℕ) → Bytes s → unhex (hex s) ≡ s
unfolding unhex hex
hex-back [] b = refl
hex-back (x ∷ s) b =
    rw ((digit-back (x / 16) (omega arith)).1, (digit-back (x % 16) (omega arith)).1)
    (ap₂ ◌∷◌ {x = x / 16 * 16 + x % 16} {y = x} (omega arith) (hex-back s b.1))

-- what a word of pairs is
record Pairs (w : List ℕ) : Type 0 where
  bytes : Bytes (unhex w)
  solid : Solid w
  back : hex (unhex w) ≡ w

pairs : (w : List ℕ) → are_hex_pairs w ≡ true → Pairs w
unfolding are_hex_pairs unhex hex
pairs [] h = record { bytes = tt; solid = tt; back = refl }
pairs (a ∷ []) h = absurd (false≢true h)
pairs (a ∷ b ∷ w) h =
    let p = both (is_hex_digit a && is_hex_digit b) _ h in
    let q = both (is_hex_digit a) _ p.0 in
    let da = hex-digit a q.0 in
    let db = hex-digit b q.1 in
    let r = pairs w p.1 in
    let x = hex_value a * 16 + hex_value b in
    let u : x / 16 ≡ hex_value a = omega arith in
    let v : x % 16 ≡ hex_value b = omega arith in
    record {
      bytes = (omega arith, r.bytes);
      solid = (omega arith, (omega arith, r.solid));
      back = rw (u, v, da.back, db.back, r.back);
    }

-- ---- values

-- a string of one byte or more is written in pairs, which are not `-`
shown-some : (x : ℕ) (s : List ℕ) → shown (x ∷ s) ≡ hex (x ∷ s)
unfolding shown
shown-some x s = rw (ne_eqb (suc (length s)) 0 (λ e. omega arith))

no-dash : (x : ℕ) (s : List ℕ) → eqs (hex (x ∷ s)) (45 ∷ []) ≡ false
unfolding hex
no-dash x s = eqs_other (hex (x ∷ s)) (45 ∷ []) (λ e. omega (arith, ap length e))

pub value-back : (s : List ℕ) → Bytes s → (is_value (shown s) ≡ true) × (value_of (shown s) ≡ s)
unfolding is_value value_of shown hex
value-back [] b = (refl, refl)
value-back (x ∷ s) b = (
  ap is_value (shown-some x s) ∙ rw (no-dash x s, lt-ltb 0 (length (hex (x ∷ s))) (omega arith), hex-test (x ∷ s) b),
  ap value_of (shown-some x s) ∙ rw (no-dash x s) (hex-back (x ∷ s) b),
)

-- what a word is that is a value
pub record Value (w : List ℕ) : Type 0 where
  pub bytes : Bytes (value_of w)
  pub solid : Solid w
  pub back : shown (value_of w) ≡ w

-- `-`
dash : Value (45 ∷ [])
unfolding value_of shown
dash = record { bytes = tt; solid = (omega arith, tt); back = refl }

some_pairs : (w : List ℕ) → eqs w (45 ∷ []) ≡ false → 0 < length w → are_hex_pairs w ≡ true → Value w
unfolding are_hex_pairs value_of unhex
some_pairs [] e l h = absurd (omega arith)
some_pairs (a ∷ []) e l h = absurd (false≢true h)
some_pairs (a ∷ b ∷ w) e l h =
    let p = pairs (a ∷ b ∷ w) h in
    record { bytes = rw e p.bytes; solid = p.solid; back = rw e (shown-some _ _ ∙ p.back) }

pub value : (w : List ℕ) → is_value w ≡ true → Value w
unfolding is_value
value w h = go (eqs w (45 ∷ [])) refl h
  where
    go : (b : Bool) → eqs w (45 ∷ []) ≡ b → b || (ltb 0 (length w) && are_hex_pairs w) ≡ true → Value w
    go true e k = subst Value (sym (eqs→eq w (45 ∷ []) (subst T (sym e) tt))) dash
    go false e k = let p = both (ltb 0 (length w)) _ k in some_pairs w e (ltb-true 0 (length w) p.0) p.1
