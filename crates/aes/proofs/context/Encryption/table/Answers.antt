-- `aes::context::Encryption::table` meets its contract: the round table stands first, and has the S-box in its entries.
-- Assumes nothing.
use Rattle.aes.proofs.TableLaws.{entry-boxes}
use Rattle.aes.proofs.ContextLaws.{context-table}
use Rattle.aes.proofs.context.Encryption.table.Goals as goal

pub returns : goal.returns
returns c = let e = context-table _ _ c.self.invariant in record { entries = e; boxes = entry-boxes e }
