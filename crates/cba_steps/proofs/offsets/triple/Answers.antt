-- `cba_steps::offsets::triple` meets its contract.
-- Assumes nothing.
use Rattle.cba_mode.proofs.OffsetLaws.{triple_number}
use Rattle.cba_steps.proofs.offsets.triple.Goals as goal

pub returns : goal.returns
returns c = triple_number _ _ c.double.ensures
