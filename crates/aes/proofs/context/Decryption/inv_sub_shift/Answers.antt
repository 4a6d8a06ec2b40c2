-- `aes::context::Decryption::inv_sub_shift` meets its contract: the table is the inverse S-box.
-- Assumes nothing.
use Rattle.aes.proofs.TableLaws.{unshift-block}
use Rattle.aes.proofs.context.Decryption.inv_sub_shift.Goals as goal

pub returns : goal.returns
returns c = unshift-block _ c.s_box-s.ensures.result_value c.args.k _ _ _ _ c.look_up.ensures c.look_up-2.ensures c.look_up-3.ensures c.look_up-4.ensures
