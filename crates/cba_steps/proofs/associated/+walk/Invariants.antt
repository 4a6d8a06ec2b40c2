-- `cba_steps::associated::walk` ends: `depth`, at most 256, falls by one at each call, since what is left is shorter by 16 bytes.
-- Assumes nothing.
use Rattle.cba_steps.specs.Walk.{depth}
use Rattle.cba_steps.proofs.associated.+walk.Given as goal

abbrev pub decreases-walk : goal.decreases-walk
decreases-walk l = depth l.rest.now
