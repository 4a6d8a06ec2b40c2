-- `cba_sealing::separate::last_block` meets its contract.
-- Assumes nothing.
use mathlib.Core.Path.{ap, ap₂, ◌∙◌}
use Rattle.octets.specs.Xor.{xors}
use Rattle.fips197.specs.Cipher.{cipher}
use Rattle.cba_steps.specs.Halves.{halves_of}
use Rattle.cba_sealing.proofs.TailLaws.{last-block-turn}
use Rattle.cba_sealing.proofs.separate.last_block.Goals as goal

pub right_aligned-requires : goal.right_aligned-requires
right_aligned-requires c = c.requires.tag_len_bound

pub returns : goal.returns
returns c =
    let block = c.encrypt.ensures ∙ ap (cipher _) (c.xor_block-x.ensures ∙ ap₂ xors c.right_aligned.ensures c.step_block.ensures) in
    last-block-turn (cipher c.args.e.now) (halves_of c.args.offset) c.args.tag.now c.args.last.now c.args.out.now _ _ block c.mask.ensures
