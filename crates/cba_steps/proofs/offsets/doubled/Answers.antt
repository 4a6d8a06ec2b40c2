-- `cba_steps::offsets::doubled` meets its contract: each half by two.
-- Assumes nothing.
use Rattle.cba_mode.specs.Offsets.{times}
use Rattle.cba_mode.proofs.OffsetLaws.{F-halves}
use Rattle.cba_steps.proofs.offsets.doubled.Goals as goal

pub returns : goal.returns
unfolding times
returns c = F-halves 2 2 _ _ _ _ c.double.ensures c.double-2.ensures
