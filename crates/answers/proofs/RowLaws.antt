-- What an answer by rows says, for every list of rows.
-- Assumes nothing.
use mathlib.Core.Path.{◌≡◌, refl, sym, ap, ap₂, subst, ◌∙◌}
use mathlib.Core.Bool.{Bool, true, false, cond, not, ◌&&◌, ◌||◌}
use mathlib.Core.List.{List, [], ◌∷◌, ◌++◌}
use Prim.Native.Nat.{ℕ}
use borrow.Author.Tests.{eq-eqb, ne_eqb, eqb-true, eqb-false}
use lib.Dec.{T, eqb}
use Rattle.answers.specs.Rows.{Row, answer, first_of, Passes, numbers, is_in, own_numbers, Decides}

-- ---- Booleans

true-false : {x : Bool} → x ≡ true → x ≡ false → ⊥
true-false h k = subst T (sym h ∙ k) tt

pub not-false : (x : Bool) → not x ≡ false → x ≡ true
not-false true h = refl
not-false false h = sym h

pub not-true : (x : Bool) → not x ≡ true → x ≡ false
not-true true h = sym h
not-true false h = refl

pub both : (x y : Bool) → x && y ≡ true → (x ≡ true) × (y ≡ true)
both true y h = (refl, h)
both false y h = absurd (true-false h refl)

pub or_right : (x y : Bool) → y ≡ true → x || y ≡ true
or_right true y h = refl
or_right false y h = h

-- ---- numbers of their own

module _ (x : Row) (rows : List Row) (h : own_numbers (numbers (x ∷ rows)) ≡ true) where
  own-rest : own_numbers (numbers rows) ≡ true
  unfolding own_numbers numbers
  own-rest = (both (not (is_in x.number (0 ∷ numbers rows))) (own_numbers (numbers rows)) h).1

  -- the first row's number is neither 0 nor one of the others
  own_first : (m : ℕ) → is_in m (0 ∷ numbers rows) ≡ true → x.number ≡ m → ⊥
  unfolding own_numbers numbers
  own_first m i e =
      true-false (ap (λ (n : ℕ). is_in n (0 ∷ numbers rows)) e ∙ i)
      (not-true (is_in x.number (0 ∷ numbers rows)) (both (not (is_in x.number (0 ∷ numbers rows))) (own_numbers (numbers rows)) h).0)

zero_in : (ns : List ℕ) → is_in 0 (0 ∷ ns) ≡ true
unfolding is_in
zero_in ns = refl

later_in : (n m : ℕ) (ns : List ℕ) → is_in m (0 ∷ ns) ≡ true → is_in m (0 ∷ n ∷ ns) ≡ true
unfolding is_in
later_in n m ns h = go (eqb m 0) refl h
  where
    go : (b : Bool) → eqb m 0 ≡ b → eqb m 0 || is_in m ns ≡ true → eqb m 0 || (eqb m n || is_in m ns) ≡ true
    go true e k = rw e refl
    go false e k = rw e (or_right (eqb m n) (is_in m ns) (rw e at k))

number_in : (xs : List Row) (x : Row) (ys : List Row) → is_in x.number (0 ∷ numbers (xs ++ (x ∷ ys))) ≡ true
unfolding is_in numbers
number_in [] x ys = or_right (eqb x.number 0) _ (rw (eq-eqb x.number x.number refl) refl)
number_in (y ∷ xs) x ys = later_in y.number x.number (numbers (xs ++ (x ∷ ys))) (number_in xs x ys)

-- ---- the answer

-- the rows before the first that applies are passed over
pub refuses : (xs : List Row) (x : Row) (ys : List Row) → Passes xs → x.when ≡ true → answer (xs ++ (x ∷ ys)) ≡ x.number
unfolding answer
refuses [] x ys p h = rw h refl
refuses (y ∷ xs) x ys p h = rw p.0 (refuses xs x ys p.1 h)

pub listed : (rows : List Row) → is_in (answer rows) (0 ∷ numbers rows) ≡ true
unfolding answer numbers
listed [] = zero_in []
listed (x ∷ rows) = go (listed rows) x.when refl
  where
    go : is_in (answer rows) (0 ∷ numbers rows) ≡ true → (b : Bool) → x.when ≡ b →
        is_in (cond x.when x.number (answer rows)) (0 ∷ x.number ∷ numbers rows) ≡ true
    go l true e = rw e (number_in [] x rows)
    go l false e = rw e (later_in x.number (answer rows) (numbers rows) l)

pub accepts : (rows : List Row) → Passes rows → answer rows ≡ 0
unfolding answer
accepts [] p = refl
accepts (x ∷ rows) p = rw p.0 (accepts rows p.1)

pub passes-parts : (xs ys : List Row) → Passes (xs ++ ys) → Passes xs × Passes ys
passes-parts [] ys p = (tt, p)
passes-parts (x ∷ xs) ys p = let q = passes-parts xs ys p.1 in ((p.0, q.0), q.1)

pub passed : (rows : List Row) → own_numbers (numbers rows) ≡ true → answer rows ≡ 0 → Passes rows
unfolding answer
passed [] own e = tt
passed (x ∷ rows) own e = go (λ k. passed rows (own-rest x rows own) k) x.when refl e
  where
    go : (answer rows ≡ 0 → Passes rows) → (b : Bool) → x.when ≡ b → cond x.when x.number (answer rows) ≡ 0 → (x.when ≡ false) × Passes rows
    go rest true w k = absurd (own_first x rows own 0 (zero_in (numbers rows)) (rw w at k))
    go rest false w k = (w, rest (rw w at k))

pub refused : (xs : List Row) (x : Row) (ys : List Row) → own_numbers (numbers (xs ++ (x ∷ ys))) ≡ true →
    answer (xs ++ (x ∷ ys)) ≡ x.number → Passes xs × (x.when ≡ true)
unfolding answer
refused [] x ys own e = (tt, go x.when refl e)
  where
    go : (b : Bool) → x.when ≡ b → cond x.when x.number (answer ys) ≡ x.number → x.when ≡ true
    go true w k = w
    go false w k = absurd (own_first x ys own (answer ys) (listed ys) (sym (rw w at k)))
refused (y ∷ xs) x ys own e = go (λ k. refused xs x ys (own-rest y (xs ++ (x ∷ ys)) own) k) y.when refl e
  where
    go : (answer (xs ++ (x ∷ ys)) ≡ x.number → Passes xs × (x.when ≡ true)) → (b : Bool) → y.when ≡ b →
        cond y.when y.number (answer (xs ++ (x ∷ ys))) ≡ x.number → Passes (y ∷ xs) × (x.when ≡ true)
    go rest true w k = absurd (own_first y (xs ++ (x ∷ ys)) own x.number (number_in xs x ys) (rw w at k))
    go rest false w k = let r = rest (rw w at k) in ((w, r.0), r.1)

-- a row whose number is not the answer may be left out
pub without : (xs : List Row) (x : Row) (ys : List Row) → (answer (xs ++ (x ∷ ys)) ≡ x.number → ⊥) → answer (xs ++ (x ∷ ys)) ≡ answer (xs ++ ys)
unfolding answer
without [] x ys n = go x.when refl n
  where
    go : (b : Bool) → x.when ≡ b → (cond x.when x.number (answer ys) ≡ x.number → ⊥) → cond x.when x.number (answer ys) ≡ answer ys
    go true w k = absurd (k (rw w refl))
    go false w k = rw w refl
without (y ∷ xs) x ys n = go (λ k. without xs x ys k) y.when refl n
  where
    go : ((answer (xs ++ (x ∷ ys)) ≡ x.number → ⊥) → answer (xs ++ (x ∷ ys)) ≡ answer (xs ++ ys)) → (b : Bool) → y.when ≡ b →
        (cond y.when y.number (answer (xs ++ (x ∷ ys))) ≡ x.number → ⊥) →
        cond y.when y.number (answer (xs ++ (x ∷ ys))) ≡ cond y.when y.number (answer (xs ++ ys))
    go rest true w k = rw w refl
    go rest false w k = rw w (rest (rw w at k))

-- the one statement about a list of rows
pub decides : (rows : List Row) → own_numbers (numbers rows) ≡ true → Decides rows (answer rows)
decides rows own =
    record {
      refuse = λ xs x ys e p h. ap answer e ∙ refuses xs x ys p h;
      refused = λ xs x ys e h. refused xs x ys (subst (λ (rs : List Row). own_numbers (numbers rs) ≡ true) e own) (sym (ap answer e) ∙ h);
      accept = accepts rows;
      accepted = passed rows own;
      listed = listed rows;
    }

-- a list in two parts: the second's answer counts where the first's is 0
pub two-parts : (xs ys : List Row) → own_numbers (numbers xs) ≡ true → answer (xs ++ ys) ≡ first_of (answer xs) (answer ys)
unfolding answer first_of
two-parts [] ys own = refl
two-parts (x ∷ xs) ys own = go (two-parts xs ys (own-rest x xs own)) x.when refl
  where
    go : answer (xs ++ ys) ≡ first_of (answer xs) (answer ys) → (b : Bool) → x.when ≡ b →
        cond x.when x.number (answer (xs ++ ys)) ≡ cond (eqb (cond x.when x.number (answer xs)) 0) (answer ys) (cond x.when x.number (answer xs))
    go rest true w = rw (w, ne_eqb x.number 0 (own_first x xs own 0 (zero_in (numbers xs)))) refl
    go rest false w = rw w rest

pub joined : {r a b : ℕ} (xs ys : List Row) → own_numbers (numbers xs) ≡ true → r ≡ first_of a b → a ≡ answer xs → b ≡ answer ys → r ≡ answer (xs ++ ys)
joined xs ys own d e f = d ∙ ap₂ first_of e f ∙ sym (two-parts xs ys own)

-- both accept where neither refuses
pub neither : (a b : ℕ) → first_of a b ≡ 0 → (a ≡ 0) × (b ≡ 0)
unfolding first_of
neither a b e = go (eqb a 0) refl
  where
    go : (x : Bool) → eqb a 0 ≡ x → (a ≡ 0) × (b ≡ 0)
    go true h = (eqb-true a 0 h, rw h at e)
    go false h = absurd (eqb-false a 0 h (rw h at e))

-- the first of two answers, where it refuses and where it does not
pub first_stops : {r a : ℕ} (b : ℕ) → r ≡ a → (r ≡ 0 → ⊥) → r ≡ first_of a b
unfolding first_of
first_stops {r} {a} b e n = e ∙ sym (rw (ne_eqb a 0 (λ z. n (e ∙ z))) refl)

pub first_goes : {b : ℕ} (a : ℕ) → a ≡ 0 → b ≡ first_of a b
unfolding first_of
first_goes a z = rw z refl

-- a call that stops at a refusal of the first part, and one that goes on
module _ {r : ℕ} (xs ys : List Row) (own : own_numbers (numbers xs) ≡ true) (e : r ≡ answer xs) where
  pub stops : (r ≡ 0 → ⊥) → r ≡ answer (xs ++ ys)
  stops n = first_stops (answer ys) e n ∙ sym (two-parts xs ys own)

  pub goes_on : {a : ℕ} → r ≡ 0 → a ≡ answer ys → a ≡ answer (xs ++ ys)
  goes_on z f = f ∙ first_goes (answer xs) (sym e ∙ z) ∙ sym (two-parts xs ys own)
