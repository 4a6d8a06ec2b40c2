-- The highest counter of a window, and what its marks say.
-- Assumes nothing.
use mathlib.Core.Path.{◌≡◌, refl, sym, ap, subst, ◌∙◌}
use mathlib.Core.Bool.{Bool, true, false, ◌||◌, false≢true}
use mathlib.Core.List.{List, [], ◌∷◌}
use mathlib.Core.Logic.{◌⊎◌, inl, inr, ⊎_elim}
use Prim.Native.Nat.{ℕ, ◌+◌, ◌-◌, ◌<◌, ◌≤◌}
use native.Mathlib.Omega.{arith}
use borrow.Author.Tests.{ltb-true, ltb-false, eqb-true, eq-eqb, lt-leb}
use lib.Dec.{eqb, ltb}
use Rattle.answers.specs.Rows.{is_in}
use Rattle.answers.proofs.RowLaws.{or_right}
use Rattle.window_rules.specs.Window.{bit, Window, recorded, recorded_all}
use Rattle.window_rules.specs.Theorems.{is_too_late, Holds}
use Rattle.window_rules.proofs.WindowLaws.{or-false, none_yet, marked-near, all_of}

-- t is the greatest of h and a list
record Top (h : ℕ) (ks : List ℕ) (t : ℕ) : Type 0 where
  pub least : h ≤ t
  pub one_of : (t ≡ h) ⊎ (is_in t ks ≡ true)
  pub most : (c : ℕ) → is_in c ks ≡ true → c ≤ t

-- one counter more
top-more : {h m k t : ℕ} {ks : List ℕ} → h ≤ m → k ≤ m → (m ≡ h) ⊎ (m ≡ k) → Top m ks t → Top h (k ∷ ks) t
unfolding is_in
top-more {h} {m} {k} {t} {ks} p q e v =
    record {
      least = omega (arith, v.least);
      one_of = ⊎_elim (λ (f : t ≡ m). ⊎_elim (λ (g : m ≡ h). inl (f ∙ g)) (λ (g : m ≡ k). inr (rw (eq-eqb t k (f ∙ g)) refl)) e) (λ i. inr (or_right (eqb t k) (is_in t ks) i)) v.one_of;
      most = λ c i. go c (eqb c k) refl i;
    }
  where
    go : (c : ℕ) (b : Bool) → eqb c k ≡ b → eqb c k || is_in c ks ≡ true → c ≤ t
    go c true f i = omega (arith, v.least, eqb-true c k f)
    go c false f i = v.most c (rw f at i)

-- the window after k has begun, and its highest counter is the greater of the two
recorded-begun : (w : Window) (k : ℕ) → (recorded w k).begun ≡ true
unfolding recorded
recorded-begun w k = go w.begun refl (ltb w.highest k) refl
  where
    go : (b : Bool) → w.begun ≡ b → (a : Bool) → ltb w.highest k ≡ a → (recorded w k).begun ≡ true
    go false e a f = rw e refl
    go true e true f = rw (e, f) refl
    go true e false f = rw (e, f) refl

recorded-top : (w : Window) (k t : ℕ) (ks : List ℕ) → w.begun ≡ true → Top (recorded w k).highest ks t → Top w.highest (k ∷ ks) t
unfolding recorded
recorded-top w k t ks b = go (ltb w.highest k) refl
  where
    go : (a : Bool) → ltb w.highest k ≡ a → Top (recorded w k).highest ks t → Top w.highest (k ∷ ks) t
    go true f = let p = ltb-true w.highest k f in rw (b, f) (top-more (omega arith) (omega arith) (inr refl))
    go false f = let p = ltb-false w.highest k f in rw (b, f) (top-more (omega arith) p (inl refl))

top : (ks : List ℕ) (w : Window) → w.begun ≡ true → ((recorded_all w ks).begun ≡ true) × Top w.highest ks (recorded_all w ks).highest
unfolding recorded_all is_in
top [] w b = (b, record { least = omega arith; one_of = inl refl; most = λ c h. absurd (false≢true h) })
top (k ∷ ks) w b = let r = top ks (recorded w k) (recorded-begun w k) in (r.0, recorded-top w k _ ks b r.1)

-- none of a list is 64 or more above what is within 64 of their greatest
none_above : {t : ℕ} (ks : List ℕ) (c : ℕ) → ((k : ℕ) → is_in k ks ≡ true → k ≤ t) → t < c + 64 → is_too_late c ks ≡ false
unfolding is_too_late is_in
none_above {t} [] c most p = refl
none_above {t} (k ∷ ks) c most p =
    rw (lt-leb (c + 64) k (omega (arith, most k (rw (eq-eqb k k refl) refl)))) (none_above ks c (λ i m. most i (or_right (eqb i k) (is_in i ks) m)) p)

module _ (w : Window) (k : ℕ) (ks : List ℕ) (e : w.begun ≡ false) where
  abbrev counters : List ℕ
  counters = k ∷ ks

  abbrev last : Window
  last = recorded_all w counters

  start : (recorded w k).highest ≡ k
  unfolding recorded
  start = rw e refl

  last-top : (last.begun ≡ true) × Top k counters last.highest
  unfolding recorded_all
  last-top =
      let r = top ks (recorded w k) (recorded-begun w k) in
      (r.0, top-more (omega arith) (omega arith) (inl refl) (subst (λ (h : ℕ). Top h ks last.highest) start r.1))

  first-of : {c : ℕ} → c ≡ k → is_in c counters ≡ true
  unfolding is_in
  first-of {c} f = rw (eq-eqb c k f) refl

  pub holds-all : Holds last counters
  holds-all =
      let t = last-top.1 in
      record {
        begun = last-top.0;
        among = ⊎_elim (λ (f : last.highest ≡ k). first-of f) (λ i. i) t.one_of;
        highest = t.most;
        marks = λ i p q.
            let c = last.highest - i in
            ap (bit last.marks) {x = i} {y = last.highest - c} (omega arith)
            ∙ sym (marked-near last c last-top.0 (omega arith) (omega arith))
            ∙ all_of w counters c
            ∙ rw (none_yet w c e, none_above counters c t.most (omega arith)) (or-false (is_in c counters));
      }
