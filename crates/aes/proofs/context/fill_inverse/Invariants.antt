-- `aes::context::fill_inverse` meets its contract: the round keys are written one after the other, i + 1 of them after i turns.
-- Assumes nothing.
use Prim.Native.Nat.{◌+◌}
use Rattle.aes.proofs.FillLaws.{Written}
use Rattle.aes.proofs.context.fill_inverse.Given as goal

abbrev pub invariant-loop-i : goal.invariant-loop-i
invariant-loop-i l = Written l.w l.nr (l.i + 1) l.inv
