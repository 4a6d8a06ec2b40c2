-- What a window is for, over all windows, hand-made ones too, and all counters.
-- Assumes nothing.
use Rattle.std.specs.Prelude.{◌≡◌, Bool, true, false, ◌||◌, List, [], ◌∷◌, ℕ, ◌+◌, ◌-◌, ◌<◌, ◌≤◌, eqb, leb}
use Rattle.answers.specs.Rows.{is_in}
use Rattle.window_rules.specs.Window.{bit, Window, is_repeat, recorded, recorded_all}

-- some counter of a list is 64 or more above it
unfoldable pub is_too_late : ℕ → List ℕ → Bool
is_too_late c [] = false
is_too_late c (k ∷ ks) = leb (c + 64) k || is_too_late c ks

-- a window that has begun holds the highest of a list of counters, and which of the 64 ending there are in it
pub record Holds (w : Window) (ks : List ℕ) : Type 0 where
  pub begun : w.begun ≡ true
  pub among : is_in w.highest ks ≡ true
  pub highest : (c : ℕ) → is_in c ks ≡ true → c ≤ w.highest
  pub marks : (i : ℕ) → i < 64 → i ≤ w.highest → bit w.marks i ≡ is_in (w.highest - i) ks

pub record WindowTheorems : Type 0 where
  -- where none was accepted, none is a repeat, whatever the other fields hold
  pub fresh : (w : Window) (c : ℕ) → w.begun ≡ false → is_repeat w c ≡ false
  -- a counter above the highest is no repeat; one of the 64 ending there is one exactly where it is marked
  pub above : (w : Window) (c : ℕ) → w.highest < c → is_repeat w c ≡ false
  pub near : (w : Window) (c : ℕ) → w.begun ≡ true → c ≤ w.highest → w.highest - c < 64 →
      is_repeat w c ≡ bit w.marks (w.highest - c)
  -- after k is recorded, the repeats are those of before, k, and what is 64 or more below k
  pub one : (w : Window) (k c : ℕ) → is_repeat (recorded w k) c ≡ is_repeat w c || (eqb c k || leb (c + 64) k)
  -- after a list of counters likewise: those of before, the counters recorded, and what is 64 or more below one of them
  pub all : (w : Window) (ks : List ℕ) (c : ℕ) → is_repeat (recorded_all w ks) c ≡ is_repeat w c || (is_in c ks || is_too_late c ks)
  -- and where none was accepted before the first of them, the window holds them
  pub holds : (w : Window) (k : ℕ) (ks : List ℕ) → w.begun ≡ false → Holds (recorded_all w (k ∷ ks)) (k ∷ ks)
