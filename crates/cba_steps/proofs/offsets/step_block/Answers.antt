-- `cba_steps::offsets::step_block` meets its contract, by those of the functions that it calls.
-- Assumes nothing.
use mathlib.Core.Path.{◌∙◌}
use Rattle.cba_steps.proofs.offsets.step_block.Goals as goal

pub returns : goal.returns
returns c = c.whole.ensures ∙ c.step.ensures
