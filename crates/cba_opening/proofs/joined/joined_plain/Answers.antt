-- `cba_opening::joined::joined_plain` meets its contract.
-- Assumes nothing.
use mathlib.Core.Path.{ap, ap₂, ◌∙◌}
use Rattle.octets.specs.Xor.{xors}
use Rattle.fips197.specs.Cipher.{cipher}
use Rattle.cba_mode.specs.Open.{joined_plain}
use Rattle.cba_opening.proofs.joined.joined_plain.Goals as goal

pub returns : goal.returns
unfolding joined_plain
returns c =
    c.xor_block-2.ensures
    ∙ ap₂ xors c.xor_block.ensures
    (c.encrypt.ensures ∙ ap (cipher _) (c.xor_block-x.ensures ∙ ap₂ xors c.pad.ensures c.step_block.ensures))
