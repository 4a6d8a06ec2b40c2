-- `aes::context::Decryption::keys` meets its contract: the schedule stands behind the tables.
-- Assumes nothing.
use Rattle.aes.proofs.ContextLaws.{decrypts_keys}
use Rattle.aes.proofs.context.Decryption.keys.Goals as goal

pub round_keys-requires : goal.round_keys-requires
round_keys-requires c = decrypts_keys _ _ c.self.invariant
