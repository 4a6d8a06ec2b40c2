-- `octets::first_block` meets its contract: after i turns the first i bytes are those of the slice.
-- Assumes nothing.
use mathlib.Core.Path.{refl, ◌∙◌}
use borrow.Author.Rules.{rules}
use Rattle.octets.proofs.Strings.{fill_none, fill_turn, filled-whole, table-take}
use Rattle.octets.proofs.first_block.Goals as goal

pub loop-i-init : goal.loop-i-init
loop-i-init c = fill_none _ _ _ (search rules)

pub loop-i-preserved : goal.loop-i-preserved
loop-i-preserved c = fill_turn c.loop-i.invariant c.loop-i-test.true

pub returns : goal.returns
returns c = filled-whole c.loop-i.invariant c.loop-i-test.false refl ∙ table-take 16 c.args.s.now c.requires
