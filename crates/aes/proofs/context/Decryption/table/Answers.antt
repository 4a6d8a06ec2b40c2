-- `aes::context::Decryption::table` meets its contract: the table of InvMixColumns stands first.
-- Assumes nothing.
use Rattle.aes.proofs.ContextLaws.{inverse-first}
use Rattle.aes.proofs.context.Decryption.table.Goals as goal

pub returns : goal.returns
returns c = inverse-first _ _ c.self.invariant.context
