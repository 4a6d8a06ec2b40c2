-- `cba_steps::associated::with_rest` meets its contract: an empty rest adds nothing.
-- Assumes nothing.
use mathlib.Core.Path.{sym, ◌∙◌}
use Rattle.fips197.specs.Cipher.{cipher}
use Rattle.cba_steps.specs.Halves.{halves_of}
use Rattle.cba_steps.proofs.DataLaws.{with_rest-none, rest-turn}
use Rattle.cba_steps.proofs.associated.with_rest.Goals as goal

pub returns-then-is_empty : goal.returns-then-is_empty
returns-then-is_empty c = with_rest-none (cipher c.args.e.now) c.args.sum (halves_of c.args.offset) c.args.rest.now (sym c.is_empty.ensures ∙ c.if-is_empty.true)

pub returns : goal.returns
returns c = rest-turn (cipher c.args.e.now) c.args.sum (halves_of c.args.offset) c.args.rest.now _ _ _ (sym c.is_empty.ensures ∙ c.if-is_empty.false) c.pad.ensures c.step_block.ensures c.added.ensures
