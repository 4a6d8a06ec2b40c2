-- `cba_sealing::joined::joined_last` meets its contract.
-- Assumes nothing.
use mathlib.Core.Path.{ap, ap₂, ◌∙◌}
use Rattle.octets.specs.Xor.{xors}
use Rattle.fips197.specs.Cipher.{cipher}
use Rattle.cba_mode.specs.Seal.{joined_last}
use Rattle.cba_sealing.proofs.joined.joined_last.Goals as goal

pub returns : goal.returns
unfolding joined_last
returns c =
    c.xor_block.ensures
    ∙ ap (xors _) (c.encrypt.ensures ∙ ap (cipher _) (c.xor_block-x.ensures ∙ ap₂ xors c.pad.ensures c.step_block.ensures))
