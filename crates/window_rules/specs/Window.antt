-- A window over counters (request F-7): when a counter is a repeat, and the window after one is recorded.
-- Assumes nothing.
use Rattle.std.specs.Prelude.{Bool, true, cond, ◌&&◌, ◌||◌, List, [], ◌∷◌, ℕ, ◌-◌, ◌*◌, ◌/◌, ◌%◌, ◌^◌, eqb, ltb, leb}
use Rattle.std.specs.Int.Bits.{bit_or}

-- whether bit i of a number is set, counted from the lowest
unfoldable pub bit : ℕ → ℕ → Bool
bit n i = eqb (n / 2 ^ i % 2) 1

-- whether any counter was accepted, the highest of them, and which of the 64 ending there were: bit i stands for the one that is i below
pub record Window : Type 0 where
  pub begun : Bool
  pub highest : ℕ
  pub marks : ℕ

-- how far a counter is below the highest
abbrev pub behind : Window → ℕ → ℕ
behind w c = w.highest - c

-- a counter that is not above the highest: 64 or more below it, or one of the 64 ending there that was accepted
unfoldable pub is_repeat : Window → ℕ → Bool
is_repeat w c = w.begun && (leb c w.highest && (leb 64 (behind w c) || bit w.marks (behind w c)))

-- ---- the window after a counter is recorded

-- the first of all
abbrev pub first : ℕ → Window
first c = record { begun = true; highest = c; marks = 1 }

-- one above the highest: the marks move as far as the highest does, and those that pass the 64 are lost
abbrev pub moved : Window → ℕ → Window
moved w c = record { begun = true; highest = c; marks = bit_or (w.marks * 2 ^ (c - w.highest) % 2 ^ 64) 1 }

-- one that is late
abbrev pub marked : Window → ℕ → Window
marked w c = record { begun = true; highest = w.highest; marks = bit_or w.marks (2 ^ behind w c) }

unfoldable pub recorded : Window → ℕ → Window
recorded w c = cond w.begun (cond (ltb w.highest c) (moved w c) (marked w c)) (first c)

-- after each of a list
unfoldable pub recorded_all : Window → List ℕ → Window
recorded_all w [] = w
recorded_all w (c ∷ cs) = recorded_all (recorded w c) cs
