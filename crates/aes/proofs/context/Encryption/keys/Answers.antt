-- `aes::context::Encryption::keys` meets its contract: the schedule stands behind the tables.
-- Assumes nothing.
use Rattle.aes.proofs.ContextLaws.{encrypts_keys}
use Rattle.aes.proofs.context.Encryption.keys.Goals as goal

pub round_keys-requires : goal.round_keys-requires
round_keys-requires c = encrypts_keys _ _ c.self.invariant
