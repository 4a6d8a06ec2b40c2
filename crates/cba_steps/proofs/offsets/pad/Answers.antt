-- `cba_steps::offsets::pad` meets its contract: after i turns the first i bytes are padded.
-- Assumes nothing.
use mathlib.Core.Path.{refl, ◌∙◌}
use borrow.Author.Rules.{rules}
use Rattle.octets.proofs.Strings.{fill_none, fill_value, filled-whole}
use Rattle.cba_steps.proofs.StartLaws.{pad-table}
use Rattle.cba_steps.proofs.offsets.pad.Goals as goal

pub loop-i-init : goal.loop-i-init
loop-i-init c = fill_none _ _ _ (search rules)

pub loop-i-preserved : goal.loop-i-preserved
loop-i-preserved c = fill_value c.loop-i.invariant c.loop-i-test.true c.padded_byte.ensures

pub returns : goal.returns
returns c = filled-whole c.loop-i.invariant c.loop-i-test.false refl ∙ pad-table c.args.s.now
