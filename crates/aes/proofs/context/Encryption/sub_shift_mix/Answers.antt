-- `aes::context::Encryption::sub_shift_mix` meets its contract.
-- Assumes nothing.
use Rattle.aes.proofs.TableLaws.{mix-block}
use Rattle.aes.proofs.context.Encryption.sub_shift_mix.Goals as goal

pub returns : goal.returns
returns c = mix-block _ c.table-t.ensures.entries c.args.k _ _ _ _ c.mixed.ensures c.mixed-2.ensures c.mixed-3.ensures c.mixed-4.ensures
