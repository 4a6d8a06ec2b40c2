-- `cba_sealing::begin::full_tag` meets its contract.
-- Assumes nothing.
use mathlib.Core.Path.{ap, ◌∙◌}
use Rattle.octets.specs.Xor.{xors}
use Rattle.cba_sealing.proofs.begin.full_tag.Goals as goal

pub returns : goal.returns
returns c = c.xor_block.ensures ∙ ap (xors _) c.right_aligned.ensures
