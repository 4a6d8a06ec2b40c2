-- `cba_steps::offsets::whole` meets its contract.
-- Assumes nothing.
use mathlib.Core.Path.{◌∙◌}
use Rattle.cba_steps.proofs.offsets.whole.Goals as goal

pub returns : goal.returns
returns c = c.write.ensures ∙ c.words.ensures
