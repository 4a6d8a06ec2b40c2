-- `cba_steps::offsets::turned` meets its contract.
-- Assumes nothing.
use mathlib.Core.Path.{ap, ◌∙◌}
use Rattle.aes_schedule.specs.Words.{bytes_of}
use Rattle.cba_steps.proofs.WordLaws.{swapped}
use Rattle.cba_steps.proofs.offsets.turned.Goals as goal

pub returns : goal.returns
returns c = ap bytes_of c.swap_bytes.ensures ∙ swapped c.args.x
