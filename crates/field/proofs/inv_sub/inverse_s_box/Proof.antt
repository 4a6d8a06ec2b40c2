-- `field::inv_sub::inverse_s_box` meets its contract: each entry of the constant table is computed from the definition.
-- Assumes nothing.
use mathlib.Core.Path.{refl}
use Rattle.octets.specs.Strings.{table}
use Rattle.field.specs.Field.{xtime, mul_bits, mul, squares, inverse}
use Rattle.field.specs.SBox.{bits_of, inv_affine, inv_s_box}
use Rattle.field.proofs.inv_sub.inverse_s_box.Statement.{statement}
use Rattle.field.proofs.inv_sub.inverse_s_box.Tie as tie

returns : tie.Need-returns
unfolding table xtime mul_bits mul squares inverse bits_of inv_affine inv_s_box
returns c = refl

pub inverse_s_box_spec : {M : Type 1} → statement M
inverse_s_box_spec = tie.close (tie.spec returns)
