-- `aes_schedule::schedule::expand` meets its contract: after i turns the key's words and 2 i more are written, the last of them is
-- carried, and what stands before and after them is as it was.
-- Assumes nothing.
use Prim.Native.Nat.{◌*◌}
use Rattle.aes_schedule.proofs.ExpandLaws.{Turning}
use Rattle.aes_schedule.proofs.schedule.expand.Given as goal

abbrev pub invariant-loop-i : goal.invariant-loop-i
invariant-loop-i l = Turning l.key l.initial.ctx l.at l.nk l.ctx l.x l.p (2 * l.i)
