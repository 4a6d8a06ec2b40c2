-- `aes::inverse_keys::inv_mix_key` meets its contract, column by column.
-- Assumes nothing.
use Rattle.aes.proofs.TableLaws.{unmixed-key}
use Rattle.aes.proofs.inverse_keys.inv_mix_key.Goals as goal

pub returns : goal.returns
returns c = unmixed-key c.args.w.now c.args.n c.requires.n_in_bounds _ _ _ _ c.unmixed.ensures c.unmixed-2.ensures c.unmixed-3.ensures c.unmixed-4.ensures
