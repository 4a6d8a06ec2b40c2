-- The repeats of a window after a counter is recorded.
-- Assumes nothing.
use mathlib.Core.Path.{◌≡◌, refl, sym, ap, ap₂, subst, ◌∙◌}
use mathlib.Core.Bool.{Bool, true, false, ◌&&◌, ◌||◌, false≢true}
use mathlib.Core.List.{List, [], ◌∷◌}
use mathlib.Core.Logic.{⊎_elim}
use Prim.Native.Nat.{ℕ, ◌+◌, ◌-◌, ◌*◌, ◌%◌, ◌^◌, ◌<◌, ◌≤◌}
use native.Mathlib.Omega.{arith}
use borrow.Author.Tests.{ltb-true, ltb-false, ne_eqb, le-leb, lt-leb}
use lib.Bits.{bit_or}
use lib.Dec.{eqb, ltb, leb}
use Rattle.octets.proofs.Tests.{le_or_lt}
use Rattle.answers.specs.Rows.{is_in}
use Rattle.answers.proofs.RowLaws.{or_right}
use Rattle.window_rules.specs.Window.{bit, Window, is_repeat, recorded, recorded_all}
use Rattle.window_rules.specs.Theorems.{is_too_late}
use Rattle.window_rules.proofs.BitLaws.{same_test, bit-or, bit_below, bit-above, bit_cut, bit-power}

-- ---- Booleans

pub or-false : (x : Bool) → x || false ≡ x
or-false true = refl
or-false false = refl

-- ---- a counter's place below h: above it, within 64, or further below

module _ (h m c : ℕ) where
  -- a repeat, where the window has begun
  abbrev within : Bool
  within = leb c h && (leb 64 (h - c) || bit m (h - c))

  within-above : h < c → within ≡ false
  within-above p = rw (lt-leb c h p) refl

  within-near : c ≤ h → h - c < 64 → within ≡ bit m (h - c)
  within-near p q = rw (le-leb c h p, lt-leb 64 (h - c) q) refl

  within-far : c ≤ h → 64 ≤ h - c → within ≡ true
  within-far p q = rw (le-leb c h p, le-leb 64 (h - c) q) refl

  by_place : {P : Type 0} → (h < c → P) → (c ≤ h → h - c < 64 → P) → (c ≤ h → 64 ≤ h - c → P) → P
  by_place above near far = ⊎_elim (λ (p : c ≤ h). ⊎_elim (far p) (near p) (le_or_lt 64 (h - c))) above (le_or_lt c h)

-- ---- what recording k adds

module _ (k c : ℕ) where
  abbrev new : Bool
  new = eqb c k || leb (c + 64) k

  new-near : k < c + 64 → new ≡ eqb c k
  new-near p = rw (lt-leb (c + 64) k p) (or-false (eqb c k))

  new-above : k < c → new ≡ false
  new-above p = new-near (omega arith) ∙ ne_eqb c k (λ e. omega arith)

  new-far : c + 64 ≤ k → new ≡ true
  new-far p = or_right (eqb c k) (leb (c + 64) k) (le-leb (c + 64) k p)

  -- its own mark, j below h
  its_mark : (h j : ℕ) → k + j ≡ h → c ≤ h → k < c + 64 → bit (2 ^ j) (h - c) ≡ new
  its_mark h j e p q = bit-power (h - c) j ∙ same_test (h - c) j c k (λ f. omega arith) (λ f. omega arith) ∙ sym (new-near q)

  after_first : within k 1 c ≡ new
  after_first =
      by_place k 1 c
      (λ p. within-above k 1 c p ∙ sym (new-above p))
      (λ p q. within-near k 1 c p q ∙ its_mark k 0 (omega arith) p (omega arith))
      (λ p q. within-far k 1 c p q ∙ sym (new-far (omega arith)))

  module _ (h m : ℕ) where
    -- the marks, moved
    abbrev up : ℕ
    up = bit_or (m * 2 ^ (k - h) % 2 ^ 64) 1

    -- a mark of before
    mark-moved : h < k → c ≤ k → k - c < 64 → bit (m * 2 ^ (k - h)) (k - c) ≡ within h m c
    mark-moved g p q =
        ⊎_elim
        (λ (r : c ≤ h).
        subst (λ (i : ℕ). bit (m * 2 ^ (k - h)) i ≡ bit m (h - c)) {x = k - h + (h - c)} {y = k - c} (omega arith) (bit-above m (k - h) (h - c))
        ∙ sym (within-near h m c r (omega arith)))
        (λ (r : h < c). bit_below m (k - h) (k - c) (omega arith) ∙ sym (within-above h m c r))
        (le_or_lt c h)

    after-moved : h < k → within k up c ≡ within h m c || new
    after-moved g =
        by_place k up c
        (λ p. within-above k up c p ∙ sym (ap₂ ◌||◌ (within-above h m c (omega arith)) (new-above p)))
        (λ p q.
        within-near k up c p q
        ∙ bit-or (m * 2 ^ (k - h) % 2 ^ 64) 1 (k - c)
        ∙ ap₂ ◌||◌ (bit_cut (m * 2 ^ (k - h)) (k - c) q ∙ mark-moved g p q) (its_mark k 0 (omega arith) p (omega arith)))
        (λ p q. within-far k up c p q ∙ sym (or_right (within h m c) new (new-far (omega arith))))

    after-marked : k ≤ h → within h (bit_or m (2 ^ (h - k))) c ≡ within h m c || new
    after-marked g =
        by_place h m c
        (λ p. within-above h _ c p ∙ sym (ap₂ ◌||◌ (within-above h m c p) (new-above (omega arith))))
        (λ p q.
        within-near h _ c p q
        ∙ bit-or m (2 ^ (h - k)) (h - c)
        ∙ ap₂ ◌||◌ (sym (within-near h m c p q)) (its_mark h (h - k) (omega arith) p (omega arith)))
        (λ p q. within-far h _ c p q ∙ sym (ap (λ (x : Bool). x || new) (within-far h m c p q)))

-- ---- any window

pub none_yet : (w : Window) (c : ℕ) → w.begun ≡ false → is_repeat w c ≡ false
unfolding is_repeat
none_yet w c e = rw e refl

-- one that has begun
repeat_begun : (w : Window) (c : ℕ) → w.begun ≡ true → is_repeat w c ≡ within w.highest w.marks c
unfolding is_repeat
repeat_begun w c e = rw e refl

pub none-above-highest : (w : Window) (c : ℕ) → w.highest < c → is_repeat w c ≡ false
none-above-highest w c p = go w.begun refl
  where
    go : (b : Bool) → w.begun ≡ b → is_repeat w c ≡ false
    go true e = repeat_begun w c e ∙ within-above w.highest w.marks c p
    go false e = none_yet w c e

pub marked-near : (w : Window) (c : ℕ) → w.begun ≡ true → c ≤ w.highest → w.highest - c < 64 → is_repeat w c ≡ bit w.marks (w.highest - c)
marked-near w c e p q = repeat_begun w c e ∙ within-near w.highest w.marks c p q

pub far-below : (w : Window) (c : ℕ) → w.begun ≡ true → c ≤ w.highest → 64 ≤ w.highest - c → is_repeat w c ≡ true
far-below w c e p q = repeat_begun w c e ∙ within-far w.highest w.marks c p q

-- what is not above the highest, and no repeat, is within 64 of it
pub not-far : (w : Window) (c : ℕ) → w.begun ≡ true → c ≤ w.highest → is_repeat w c ≡ false → w.highest - c < 64
not-far w c e p r =
    ⊎_elim
    (λ (q : 64 ≤ w.highest - c). absurd (false≢true (sym r ∙ far-below w c e p q)))
    (λ q. q)
    (le_or_lt 64 (w.highest - c))

pub one_more : (w : Window) (k c : ℕ) → is_repeat (recorded w k) c ≡ is_repeat w c || (eqb c k || leb (c + 64) k)
unfolding is_repeat recorded
one_more w k c = go w.begun refl (ltb w.highest k) refl
  where
    go : (b : Bool) → w.begun ≡ b → (a : Bool) → ltb w.highest k ≡ a → is_repeat (recorded w k) c ≡ is_repeat w c || (eqb c k || leb (c + 64) k)
    go false e a f = rw e (after_first k c)
    go true e true f = rw (e, f) (after-moved k c w.highest w.marks (ltb-true w.highest k f))
    go true e false f = rw (e, f) (after-marked k c w.highest w.marks (ltb-false w.highest k f))

pub all_of : (w : Window) (ks : List ℕ) (c : ℕ) → is_repeat (recorded_all w ks) c ≡ is_repeat w c || (is_in c ks || is_too_late c ks)
unfolding recorded_all is_in is_too_late
all_of w [] c = sym (or-false (is_repeat w c))
all_of w (k ∷ ks) c =
    all_of (recorded w k) ks c
    ∙ ap (λ (x : Bool). x || (is_in c ks || is_too_late c ks)) (one_more w k c)
    ∙ regroup (is_repeat w c) (eqb c k) (leb (c + 64) k) (is_in c ks) (is_too_late c ks)
  where
    regroup : (r e l a f : Bool) → (r || (e || l)) || (a || f) ≡ r || ((e || a) || (l || f))
    regroup true e l a f = refl
    regroup false true l a f = refl
    regroup false false true a f = sym (or_right a true refl)
    regroup false false false a f = refl
