-- `aes::context::Decryption::inv_sub_shift_mix` meets its contract.
-- Assumes nothing.
use Rattle.aes.proofs.TableLaws.{unmix-block}
use Rattle.aes.proofs.context.Decryption.inv_sub_shift_mix.Goals as goal

pub returns : goal.returns
returns c = unmix-block _ c.table-t.ensures c.args.k _ _ _ _ c.mixed.ensures c.mixed-2.ensures c.mixed-3.ensures c.mixed-4.ensures
