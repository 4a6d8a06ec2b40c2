-- `aes::context::Encryption::sub_shift` meets its contract.
-- Assumes nothing.
use Rattle.aes.proofs.TableLaws.{shift-block}
use Rattle.aes.proofs.context.Encryption.sub_shift.Goals as goal

pub returns : goal.returns
returns c = shift-block c.args.k _ _ _ _ c.boxed_word.ensures c.boxed_word-2.ensures c.boxed_word-3.ensures c.boxed_word-4.ensures
