-- `octets::xor_block` meets its contract: after i turns the first i bytes are those of the exclusive or.
-- Assumes nothing.
use mathlib.Core.Path.{◌≡◌, refl, ◌∙◌}
use lib.ListN.{length}
use borrow.Author.Rules.{rules}
use Rattle.octets.proofs.Strings.{fill_none, fill_turn, filled-whole}
use Rattle.octets.proofs.Xor.{xors-table}
use Rattle.octets.proofs.xor_block.Goals as goal

pub loop-i-init : goal.loop-i-init
loop-i-init c = fill_none _ _ _ (search rules)

pub loop-i-preserved : goal.loop-i-preserved
loop-i-preserved c = fill_turn c.loop-i.invariant c.loop-i-test.true

pub returns : goal.returns
returns c =
    let a : length c.args.a ≡ 16 = search rules in
    let b : length c.args.b ≡ 16 = search rules in
    filled-whole c.loop-i.invariant c.loop-i-test.false refl ∙ xors-table 16 _ _ a b
