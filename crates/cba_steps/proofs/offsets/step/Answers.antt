-- `cba_steps::offsets::step` meets its contract: each half by its multiplier.
-- Assumes nothing.
use Rattle.cba_mode.proofs.OffsetLaws.{F-halves}
use Rattle.cba_steps.proofs.offsets.step.Goals as goal

pub returns : goal.returns
returns c = F-halves _ _ _ _ _ _ c.multiple.ensures c.multiple-2.ensures
