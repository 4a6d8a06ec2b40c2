-- Laws of byte strings: their elements and parts, and lists given by a function of the place.
-- Assumes nothing.
use mathlib.Core.Path.{◌≡◌, refl, sym, ap, subst, ◌∙◌}
use mathlib.Core.List.{List, [], ◌∷◌, ◌++◌, append_assoc, append-nil}
use mathlib.Core.Logic.{⊎_elim}
use Prim.Native.Nat.{ℕ, zero, suc, ◌+◌, ◌-◌, ◌<◌, ◌≤◌, zero-le}
use native.Mathlib.Nat.{le_of_suc-le-suc, not-suc-le-zero, eq-or-lt_of_le, le_antisymm}
use native.Mathlib.Numerals.{add-one}
use native.Mathlib.Omega.{arith}
use lib.ListN.{length, take, drop, get_or, set, replicate, length-append, length-set, drop_of_length-le, get_or-append}
use lib.Seq.{ext_get_or, get_or_at, get_or-take, set_at, drop-cons, length-take-le}
use Rattle.octets.specs.Strings.{Bytes, table}

-- ---- every element a byte

pub byte_at : (s : List ℕ) → Bytes s → (i : ℕ) → get_or s i 0 < 256
byte_at [] b i = omega arith
byte_at (x ∷ s) b zero = b.0
byte_at (x ∷ s) b (suc i) = byte_at s b.1 i

pub bytes_of : (s : List ℕ) → ((i : ℕ) → get_or s i 0 < 256) → Bytes s
bytes_of [] h = tt
bytes_of (x ∷ s) h = (h zero, bytes_of s (λ i. h (suc i)))

pub bytes_append : (s t : List ℕ) → Bytes s → Bytes t → Bytes (s ++ t)
bytes_append [] t a b = b
bytes_append (x ∷ s) t a b = (a.0, bytes_append s t a.1 b)

pub bytes_take : (n : ℕ) (s : List ℕ) → Bytes s → Bytes (take n s)
bytes_take zero s b = tt
bytes_take (suc n) [] b = tt
bytes_take (suc n) (x ∷ s) b = (b.0, bytes_take n s b.1)

pub bytes_drop : (n : ℕ) (s : List ℕ) → Bytes s → Bytes (drop n s)
bytes_drop zero s b = b
bytes_drop (suc n) [] b = tt
bytes_drop (suc n) (x ∷ s) b = bytes_drop n s b.1

pub bytes-replicate : (n x : ℕ) → x < 256 → Bytes (replicate n x)
bytes-replicate zero x h = tt
bytes-replicate (suc n) x h = (h, bytes-replicate n x h)

-- ---- the list f 0, .., f (n − 1)

pub length-table : (f : ℕ → ℕ) (n : ℕ) → length (table f n) ≡ n
unfolding table
length-table f zero = refl
length-table f (suc n) = simp (length-append, length-table f n) (add-one n)

pub get_or-table : (f : ℕ → ℕ) (n k : ℕ) → k < n → get_or (table f n) k 0 ≡ f k
unfolding table
get_or-table f zero k h = absurd (not-suc-le-zero h)
get_or-table f (suc n) k h =
    ⊎_elim
    (λ (e : k ≡ n). rw e (get_or_at (table f n) (f n) [] 0 n (length-table f n)))
    (λ (l : k < n). get_or-append (table f n) _ 0 k (rw length-table l) ∙ get_or-table f n k l)
    (eq-or-lt_of_le (le_of_suc-le-suc h))

-- a list is given by its elements
pub table_is : (f : ℕ → ℕ) (n : ℕ) (s : List ℕ) → length s ≡ n → ((k : ℕ) → k < n → f k ≡ get_or s k 0) → table f n ≡ s
table_is f n s e h =
    ext_get_or 0 (table f n) s (length-table f n ∙ sym e)
    (λ k l. let m : k < n = rw length-table at l in get_or-table f n k m ∙ h k m)

pub table_same : (f g : ℕ → ℕ) (n : ℕ) → ((k : ℕ) → k < n → f k ≡ g k) → table f n ≡ table g n
table_same f g n h = table_is f n (table g n) (length-table g n) (λ k l. h k l ∙ sym (get_or-table g n k l))

pub bytes-table : (f : ℕ → ℕ) (n : ℕ) → ((k : ℕ) → k < n → f k < 256) → Bytes (table f n)
unfolding table
bytes-table f zero h = tt
bytes-table f (suc n) h = bytes_append (table f n) _ (bytes-table f n (λ k l. h k (omega arith))) (h n (omega arith), tt)

-- ---- a loop that fills the first n places of a list d from the front, r[i] = f(i)

-- r is d after i turns
pub record Filled (f : ℕ → ℕ) (n : ℕ) (d : List ℕ) (i : ℕ) (r : List ℕ) : Type 0 where
  pub within : i ≤ n
  pub room : n ≤ length d
  pub so_far : r ≡ table f i ++ drop i d
  pub long : length r ≡ length d

pub fill_none : (f : ℕ → ℕ) (n : ℕ) (d : List ℕ) → n ≤ length d → Filled f n d 0 d
unfolding table
fill_none f n d h = record { within = zero-le; room = h; so_far = refl; long = refl }

pub fill_turn : {f : ℕ → ℕ} {n : ℕ} {d : List ℕ} {i : ℕ} {r : List ℕ} → Filled f n d i r → i < n → Filled f n d (i + 1) (set r i (f i))
unfolding table
fill_turn {f} {n} {d} {i} {r} v h =
    let l : i < length d = omega arith in
    record {
      within = omega arith;
      room = v.room;
      so_far =
          rw (v.so_far, add-one, drop-cons d i 0)
          (set_at (table f i) (get_or d i 0) (drop (suc i) d) (f i) i (length-table f i) ∙ sym (append_assoc (table f i) (f i ∷ []) (drop (suc i) d)));
      long = length-set r i (f i) ∙ v.long;
    }

-- where what is stored is known by an equation
pub fill_value : {f : ℕ → ℕ} {n : ℕ} {d : List ℕ} {i : ℕ} {r : List ℕ} {v : ℕ} → Filled f n d i r → i < n → v ≡ f i → Filled f n d (i + 1) (set r i v)
fill_value {f} {n} {d} {i} {r} w h e = subst (λ (x : ℕ). Filled f n d (i + 1) (set r i x)) (sym e) (fill_turn w h)

-- the loop is over: the n places are filled, and the others are as they were
pub filled : {f : ℕ → ℕ} {n : ℕ} {d : List ℕ} {i : ℕ} {r : List ℕ} → Filled f n d i r → n ≤ i → r ≡ table f n ++ drop n d
filled {f} {n} {d} v k = v.so_far ∙ ap (λ (j : ℕ). table f j ++ drop j d) (le_antisymm v.within k)

-- the list had no others
pub filled-whole : {f : ℕ → ℕ} {n : ℕ} {d : List ℕ} {i : ℕ} {r : List ℕ} → Filled f n d i r → n ≤ i → length d ≡ n → r ≡ table f n
filled-whole {f} {n} {d} v k e = filled v k ∙ rw (drop_of_length-le d {i = n} (omega arith)) (append-nil (table f n))

-- a string is given by its own elements
pub table-get_or : (s : List ℕ) → table (λ k. get_or s k 0) (length s) ≡ s
table-get_or s = table_is (λ k. get_or s k 0) (length s) s refl (λ k l. refl)

-- the first n bytes of a string
pub table-take : (n : ℕ) (s : List ℕ) → n ≤ length s → table (λ k. get_or s k 0) n ≡ take n s
table-take n s h = table_is (λ k. get_or s k 0) n (take n s) (length-take-le n s h) (λ k l. sym (get_or-take n s k 0 l))

-- zeros, and others, without their first
pub drop-replicate : (k n x : ℕ) → drop k (replicate n x) ≡ replicate (n - k) x
drop-replicate zero n x = ap (λ (m : ℕ). replicate m x) {x = n} {y = n - 0} (omega arith)
drop-replicate (suc k) zero x = ap (λ (m : ℕ). replicate m x) {x = 0} {y = 0 - suc k} (omega arith)
drop-replicate (suc k) (suc n) x = drop-replicate k n x ∙ ap (λ (m : ℕ). replicate m x) {x = n - k} {y = suc n - suc k} (omega arith)
