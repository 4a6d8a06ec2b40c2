-- The marks of a window as a word of 64 bits.
-- Assumes nothing.
use mathlib.Core.Path.{◌≡◌, sym, ap, subst, ◌∙◌}
use mathlib.Core.Bool.{true}
use mathlib.Core.Logic.{⊎_elim}
use Rattle.std.specs.Prelude.{Option, Some, None, min}
use Rattle.std.specs.Option.{SomeIff, unwrap_or}
use Rattle.octets.proofs.Tests.{le_or_lt}
use Prim.Native.Nat.{ℕ, ◌+◌, ◌-◌, ◌*◌, ◌%◌, ◌^◌, ◌<◌, ◌≤◌}
use native.Mathlib.Nat.{one-mul, mul_assoc, mul-mod_left}
use native.Mathlib.Omega.{arith}
use lib.Bits.{bit_or}
use lib.Pow.{pow-add, shl_exact}
use Rattle.window_rules.specs.Window.{Window}

-- a late counter's mark added
abbrev pub with_mark : Window → ℕ → Window
with_mark w x = record { begun = true; highest = w.highest; marks = bit_or w.marks x }

-- one bit of it
pub one-mark : (i : ℕ) → i < 64 → 1 * 2 ^ i % 2 ^ 64 ≡ 2 ^ i
one-mark i h = shl_exact {a = 1} 1 i 64 (omega arith) (omega arith) ∙ one-mul (2 ^ i)

-- all that moves up by 64 or more is lost
pub all_lost : (marks by : ℕ) → 64 ≤ by → 0 ≡ marks * 2 ^ by % 2 ^ 64
all_lost marks by h = subst (λ (k : ℕ). 0 ≡ marks * 2 ^ k % 2 ^ 64) {x = by - 64 + 64} {y = by} (omega arith) (go (by - 64))
  where
    go : (k : ℕ) → 0 ≡ marks * 2 ^ (k + 64) % 2 ^ 64
    go k = rw (pow-add 2 k 64, ← mul_assoc marks (2 ^ k) (2 ^ 64)) (sym (mul-mod_left (marks * 2 ^ k) (2 ^ 64)))

-- moved by as much as a word has room for, and none of it beyond
pub moved_is : (marks by k : ℕ) (o : Option ℕ) → k ≡ min by 64 → SomeIff o (k < 64) (marks * 2 ^ k % 2 ^ 64) → unwrap_or o 0 ≡ marks * 2 ^ by % 2 ^ 64
moved_is marks by k None e f = ⊎_elim (λ (h : 64 ≤ by). all_lost marks by h) (λ (h : by < 64). absurd (f (grind arith))) (le_or_lt 64 by)
moved_is marks by k (Some x) e f = let at : k ≡ by = grind arith in f.1 ∙ ap (λ (i : ℕ). marks * 2 ^ i % 2 ^ 64) at
