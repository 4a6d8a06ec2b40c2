-- `aes::context::Decryption::s_box` meets its contract: the inverse S-box stands second.
-- Assumes nothing.
use mathlib.Core.Path.{ap, ◌∙◌}
use lib.ListN.{length}
use Rattle.octets.proofs.Strings.{length-table}
use Rattle.field.specs.SBox.{inv_s_box}
use Rattle.aes.proofs.ContextLaws.{inverse-second}
use Rattle.aes.proofs.context.Decryption.s_box.Goals as goal

pub returns : goal.returns
returns c = let e = inverse-second _ _ c.self.invariant.context in record { result_value = e; result_len = ap length e ∙ length-table inv_s_box 256 }
