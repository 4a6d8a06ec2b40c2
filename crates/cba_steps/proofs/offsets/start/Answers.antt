-- `cba_steps::offsets::start` meets its contract, for each of the three values of ℓ.
-- Assumes nothing.
use Prim.Native.Nat.{◌^◌, ◌<◌}
use native.Mathlib.Omega.{arith}
use borrow.Author.Rules.{rules}
use Rattle.cba_steps.proofs.StartLaws.{start_by, ones_none, ones-some, ones_many}
use Rattle.cba_steps.proofs.offsets.start.Goals as goal
use Rattle.cba_steps.proofs.offsets.start.Goals.{in-0, in-32, in_default}

pub returns : goal.returns
returns c =
    let a : c.split-a.result.a < 2 ^ 64 = search rules in
    let b : c.split-a.result.b < 2 ^ 64 = search rules in
    elim c.match-w.branch [
      | in-0 w ↦ start_by 0 _ _ a b c.split-a.ensures w.in-0.is (rw w.doubled-is at c.doubled.ensures) w.rotate.ensures (ones_none _ _)
      | in-32 w ↦ start_by 32 _ _ a b c.split-a.ensures w.in-32.is (rw w.doubled-is at c.doubled.ensures) w.rotate-in-32.ensures (ones-some _ _)
      | in_default w ↦ start_by 64 _ _ a b c.split-a.ensures (omega arith) (rw w.doubled-is at c.doubled.ensures) w.rotate-in_default.ensures (ones_many _ _ b)
    ]
