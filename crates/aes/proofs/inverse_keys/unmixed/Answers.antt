-- `aes::inverse_keys::unmixed` meets its contract.
-- Assumes nothing.
use mathlib.Core.Path.{◌∙◌}
use Rattle.aes_schedule.proofs.WordLaws.{four}
use Rattle.aes.proofs.TableLaws.{unmixed-word}
use Rattle.aes.proofs.inverse_keys.unmixed.Goals as goal

pub returns : goal.returns
returns c =
    let y = c.join-y.ensures ∙ four c.boxed.ensures c.boxed-2.ensures c.boxed-3.ensures c.boxed-4.ensures in
    unmixed-word c.args.u.now c.requires.entries _ _ _ _ _ _ (c.type_inv.w _).fits (c.type_inv.w _).fits (c.type_inv.w _).fits (c.type_inv.w _).fits y c.mixed.ensures
