-- What the ten parameter sets have in common.
-- Assumes nothing.
use mathlib.Core.Path.{◌≡◌, refl, ap, ◌∙◌}
use mathlib.Core.Bool.{Bool, true, false, ◌&&◌, ◌||◌, false≢true}
use mathlib.Core.List.{List, [], ◌∷◌, ◌++◌}
use Prim.Native.Nat.{ℕ, zero, suc, ◌-◌, ◌%◌, ◌≤◌}
use native.Mathlib.Omega.{arith}
use borrow.Author.Tests.{leb-true}
use lib.Dec.{T, eqb, leb}
use lib.ListN.{length, get_or, take, replicate, length-append, length-replicate}
use lib.Seq.{take_at}
use Rattle.octets.proofs.Tests.{agree, same}
use Rattle.fips197.specs.Schedule.{is_key}
use Rattle.cba_mode.specs.Sets.{is_set, column, capacity, key_bytes, ell, Fits}

picked : Bool → ℕ
picked true = 0
picked false = 1

bounds : ℕ → List ℕ
bounds n =
    (column 1 n - 127) ∷ (column 2 n - 48) ∷ (ell (column 1 n) (column 2 n) - 64) ∷ (ell (column 1 n) (column 2 n) % 32)
    ∷ picked (eqb (key_bytes n) 16 || eqb (key_bytes n) 24 || eqb (key_bytes n) 32) ∷ (key_bytes n - 32) ∷ []

zeros : ℕ → List ℕ
zeros n = 0 ∷ 0 ∷ 0 ∷ 0 ∷ 0 ∷ 0 ∷ []

test : T (agree bounds zeros 11)
unfolding bounds zeros column picked
test = tt

and_right : (x y : Bool) → x && y ≡ true → y ≡ true
and_right true y h = h
and_right false true h = refl
and_right false false h = h

at-most-ten : (set : ℕ) → is_set set ≡ true → set ≤ 10
unfolding is_set
at-most-ten set h = leb-true set 10 (and_right (leb 1 set) (leb set 10) h)

held : (set : ℕ) → is_set set ≡ true → bounds set ≡ zeros set
held set h = let k = at-most-ten set h in same bounds zeros 11 test set (omega arith)

pub set-fits : (set : ℕ) → is_set set ≡ true → Fits (column 1 set) (column 2 set)
unfolding bounds zeros
set-fits set h =
    let e = held set h in
    let e₀ = ap (λ (l : List ℕ). get_or l 0 0) e in
    let e₁ = ap (λ (l : List ℕ). get_or l 1 0) e in
    let e₂ = ap (λ (l : List ℕ). get_or l 2 0) e in
    (omega (arith, e₀), omega (arith, e₁), omega (arith, e₂), ap (λ (l : List ℕ). get_or l 3 0) e)

-- the least capacity is 16; set 0 is no set, and has 0 there
least : ℕ → List ℕ
least n = (16 - column 2 (suc n)) ∷ []

least-test : T (agree least (λ n. 0 ∷ []) 10)
unfolding least column
least-test = tt

pub capacity-least : (set : ℕ) → is_set set ≡ true → 16 ≤ capacity set
unfolding is_set least
capacity-least zero h = absurd (false≢true h)
capacity-least (suc n) h =
    let k = at-most-ten (suc n) h in
    let e = ap (λ (l : List ℕ). get_or l 0 0) (same least (λ n. 0 ∷ []) 10 least-test n (omega arith)) in
    omega (arith, e)

pub key-most : (set : ℕ) → is_set set ≡ true → key_bytes set ≤ 32
unfolding bounds zeros
key-most set h = let e = ap (λ (l : List ℕ). get_or l 5 0) (held set h) in omega (arith, e)

-- a key of the set's length, held with zeros after it up to 32 bytes
pub held-key : (set : ℕ) (key : List ℕ) → is_set set ≡ true → length key ≡ key_bytes set →
    let k = key ++ replicate (32 - length key) 0 in (length k ≡ 32) × (take (key_bytes set) k ≡ key)
held-key set key h l = (
  length-append key _ ∙ omega (arith, length-replicate {A = ℕ} (32 - length key) 0, key-most set h, l),
  take_at key _ (key_bytes set) l,
)

chosen : (x : Bool) → picked x ≡ 0 → x ≡ true
unfolding picked
chosen true h = refl
chosen false h = absurd (omega (arith, h))

pub set_key : (set : ℕ) (key : List ℕ) → is_set set ≡ true → length key ≡ key_bytes set → is_key key ≡ true
unfolding bounds zeros is_key
set_key set key h l =
    rw l (chosen (eqb (key_bytes set) 16 || eqb (key_bytes set) 24 || eqb (key_bytes set) 32) (ap (λ (l : List ℕ). get_or l 4 0) (held set h)))
