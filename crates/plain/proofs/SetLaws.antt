-- Laws of the parameter sets.
-- Assumes nothing.
use mathlib.Core.Path.{◌≡◌, refl, sym, ap, ap₂, ◌∙◌}
use mathlib.Core.Bool.{Bool, false, true, cond, not, ◌&&◌}
use mathlib.Core.List.{List, [], ◌∷◌}
use Rattle.std.specs.Prelude.{map, Option, Some, None}
use Prim.Native.Nat.{ℕ, ◌-◌, ◌/◌, ◌<◌, ◌≤◌}
use native.Mathlib.Omega.{arith}
use lib.Dec.{leb}
use lib.ListN.{length, take, get_or}
use lib.Seq.{length-take-le}
use borrow.Author.Tests.{lt-leb, le-leb}
use Rattle.std.proofs.lemmas.List.{get_or-map}
use Rattle.cba_steps.specs.declared.parameters.Parameters.{Parameters}
use Rattle.cba_mode.specs.Sets.{is_set, rows, column, key_bytes, tag_bytes}
use Rattle.cba_rules.specs.Checks.{set_tag, bad_set, bad_key, key_rows}
use Rattle.cba_rules.proofs.SetLaws.{key-most}
use Rattle.cba_rules.proofs.RefusalLaws.{key-passed}
use Rattle.answers.specs.Rows.{Row, answer}
use Rattle.plain.specs.Lookup.{lookup_of, set_answer, values_of, LooksUp}

pub is-set : (n : ℕ) → 1 ≤ n → n ≤ 10 → is_set n ≡ true
unfolding is_set
is-set n h k = ap₂ ◌&&◌ (le-leb 1 n h) (le-leb n 10 k)

pub below_set : (n : ℕ) → n < 1 → is_set n ≡ false
unfolding is_set
below_set n h = ap (λ b. b && leb n 10) (lt-leb 1 n h)

pub above-set : (n : ℕ) → 1 ≤ n → 10 < n → is_set n ≡ false
unfolding is_set
above-set n h k = ap₂ ◌&&◌ (le-leb 1 n h) (lt-leb n 10 k)

-- ---- the number and the values of each case

number_at : (p : Parameters) (x : Bool) → set_answer (cond x (Some p) None) ≡ cond (not x) 1 0
unfolding set_answer
number_at p true = refl
number_at p false = refl

values_at : (p : Parameters) (x : Bool) → values_of (cond x (Some p) None) ≡ cond x (p.key ∷ p.tau ∷ p.capacity ∷ []) []
unfolding values_of
values_at p true = refl
values_at p false = refl

looked-up : (n : ℕ) (r : Option Parameters) → r ≡ lookup_of n → LooksUp n r
unfolding lookup_of answer
looked-up n r e =
    record { case_is = e; number_is = ap set_answer e ∙ number_at _ (is_set n); values_are = ap values_of e ∙ values_at _ (is_set n) }

-- a row of the code's table, and a set that the table has
abbrev pub row_of : List ℕ → ℕ × ℕ × ℕ
row_of s = (get_or s 0 0, get_or s 1 0, get_or s 2 0)

pub known : (n i : ℕ) (row : ℕ × ℕ × ℕ) → (1 ≤ n) × (i ≡ n - 1) → i < 10 → row ≡ get_or (map row_of rows) i row →
    LooksUp n (Some (record { key = row.0; tau = row.1; capacity = row.2 }))
unfolding lookup_of column
known n i row h l e =
    let its : row ≡ row_of (get_or rows (n - 1) []) = e ∙ get_or-map row_of rows i [] row l ∙ ap (λ (k : ℕ). row_of (get_or rows k [])) h.1 in
    looked-up n _
    (rw (is-set n h.0 (omega (arith, h, l))) (ap (λ (r : ℕ × ℕ × ℕ). Some (record { key = r.0; tau = r.1; capacity = r.2 })) its))

pub unknown : (n : ℕ) → is_set n ≡ false → LooksUp n None
unfolding lookup_of
unknown n h = looked-up n None (rw h refl)

-- ---- a known set

is_known_set : Option Parameters → Bool
is_known_set (Some p) = true
is_known_set None = false

known_is : (p : Parameters) (x : Bool) → is_known_set (cond x (Some p) None) ≡ x
unfolding is_known_set
known_is p true = refl
known_is p false = refl

pub is_known : (set : ℕ) (p : Parameters) → lookup_of set ≡ Some p → is_set set ≡ true
unfolding lookup_of is_known_set
is_known set p h = sym (known_is (record { key = column 0 set; tau = column 1 set; capacity = column 2 set }) (is_set set)) ∙ ap is_known_set h

pub is-unknown : (set : ℕ) → lookup_of set ≡ None → is_set set ≡ false
unfolding lookup_of is_known_set
is-unknown set h = sym (known_is (record { key = column 0 set; tau = column 1 set; capacity = column 2 set }) (is_set set)) ∙ ap is_known_set h

pub its_values : (set : ℕ) (p : Parameters) → lookup_of set ≡ Some p → (p.key ≡ column 0 set) × (p.tau ≡ column 1 set) × (p.capacity ≡ column 2 set)
unfolding lookup_of values_of
its_values set p h =
    let e : column 0 set ∷ column 1 set ∷ column 2 set ∷ [] ≡ p.key ∷ p.tau ∷ p.capacity ∷ [] = sym (ap (λ (x : Bool). values_of (cond x (Some (record { key = column 0 set; tau = column 1 set; capacity = column 2 set })) None)) (is_known set p h)) ∙ ap values_of h in
    (sym (ap (λ (l : List ℕ). get_or l 0 0) e), sym (ap (λ (l : List ℕ). get_or l 1 0) e), sym (ap (λ (l : List ℕ). get_or l 2 0) e))

pub its_key : (set : ℕ) (p : Parameters) → lookup_of set ≡ Some p → p.key / 8 ≡ key_bytes set
its_key set p h = ap (λ (x : ℕ). x / 8) (its_values set p h).0

pub its_tag : (set : ℕ) (p : Parameters) → lookup_of set ≡ Some p → tag_bytes p.tau ≡ set_tag set
its_tag set p h = ap tag_bytes (its_values set p h).1

-- a call that looks for the set first answers 1 without one, and else goes on
pub unknown-answers : (set : ℕ) (rows : List Row) → lookup_of set ≡ None → 1 ≡ answer (bad_set set ∷ rows)
unfolding answer
unknown-answers set rows h = rw (is-unknown set h) refl

pub known-goes_on : (set : ℕ) (p : Parameters) (rows : List Row) → lookup_of set ≡ Some p → answer rows ≡ answer (bad_set set ∷ rows)
unfolding answer
known-goes_on set p rows h = rw (is_known set p h) refl

-- and then for the key
pub key-known : (set : ℕ) (p : Parameters) (key : ℕ) → lookup_of set ≡ Some p → answer (bad_key (p.key / 8) key ∷ []) ≡ answer (key_rows set key)
key-known set p key h = ap (λ (n : ℕ). answer (bad_key n key ∷ [])) (its_key set p h) ∙ known-goes_on set p (bad_key (key_bytes set) key ∷ []) h

pub key-limit : (set key : ℕ) → answer (key_rows set key) ≡ 0 → key ≤ 32
key-limit set key e = let a = key-passed set key e in omega (arith, a.1, key-most set a.0)

-- the part of a key of 32 bytes that a set uses
pub key-part : (set : ℕ) (p : Parameters) (n : ℕ) (key : List ℕ) → lookup_of set ≡ Some p → n ≡ p.key / 8 → length key ≡ 32 →
    (n ≤ length key) × (n ≡ length (take n key))
key-part set p n key h e k =
    let m : n ≤ length key = omega (arith, e ∙ its_key set p h, key-most set (is_known set p h), k) in
    (m, sym (length-take-le n key m))
