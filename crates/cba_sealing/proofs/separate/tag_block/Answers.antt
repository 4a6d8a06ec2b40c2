-- `cba_sealing::separate::tag_block` meets its contract.
-- Assumes nothing.
use mathlib.Core.Path.{ap, ap₂, ◌∙◌}
use Rattle.octets.specs.Xor.{xors}
use Rattle.fips197.specs.Cipher.{cipher}
use Rattle.cba_sealing.proofs.separate.tag_block.Goals as goal

pub right_aligned-requires : goal.right_aligned-requires
right_aligned-requires c = c.requires.tag_len_bound

pub returns : goal.returns
returns c =
    c.encrypt.ensures
    ∙ ap (cipher _)
    (c.xor_block.ensures
    ∙ ap₂ xors
    (c.xor_block-x.ensures ∙ ap₂ xors (c.xor_block-s.ensures ∙ ap (xors _) c.pad.ensures) c.right_aligned.ensures)
    c.last_offset.ensures)
