-- `cba_steps::offsets::split` meets its contract.
-- Assumes nothing.
use mathlib.Core.Path.{ap₂, ◌∙◌}
use mathlib.Core.List.{◌++◌}
use Rattle.cba_steps.proofs.offsets.split.Goals as goal

pub returns : goal.returns
returns c = ap₂ ◌++◌ c.half.ensures c.half-2.ensures ∙ c.read-k.ensures
