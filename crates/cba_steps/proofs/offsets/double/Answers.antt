-- `cba_steps::offsets::double` meets its contract.
-- Assumes nothing.
use mathlib.Core.Path.{sym}
use borrow.Author.Rules.{rules}
use Rattle.cba_mode.specs.Offsets.{doubled}
use Rattle.cba_mode.proofs.OffsetLaws.{two-number}
use Rattle.cba_steps.proofs.offsets.double.Goals as goal

pub returns : goal.returns
unfolding doubled
returns c = sym (two-number c.args.x (search rules))
