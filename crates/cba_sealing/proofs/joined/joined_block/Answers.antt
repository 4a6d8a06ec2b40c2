-- `cba_sealing::joined::joined_block` meets its contract.
-- Assumes nothing.
use mathlib.Core.Path.{ap, ◌∙◌}
use Rattle.octets.specs.Xor.{xors}
use Rattle.fips197.specs.Cipher.{cipher}
use Rattle.cba_steps.specs.Halves.{halves_of}
use Rattle.cba_sealing.proofs.TailLaws.{joined-block-turn}
use Rattle.cba_sealing.proofs.joined.joined_block.Goals as goal

pub returns : goal.returns
returns c =
    let block = c.encrypt-block.ensures ∙ ap (cipher _) (c.xor_block.ensures ∙ ap (xors _) c.whole.ensures) in
    joined-block-turn (cipher c.args.e.now) (halves_of c.args.offset) c.args.m c.args.last.now c.args.tag.now c.args.out.now _ c.mask.new.out c.mask-2.new.out block c.encrypt-block.type_inv.1.0.1 c.requires.tag_len_bound c.requires.tag_in_bounds
    c.mask.ensures c.mask.auto.out c.mask-2.ensures c.mask-2.auto.out
