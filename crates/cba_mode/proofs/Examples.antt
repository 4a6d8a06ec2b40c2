-- The eleven fixed examples hold, by computation.
-- Assumes nothing.
use mathlib.Core.Path.{refl}
use Rattle.octets.specs.Xor.{xors}
use Rattle.octets.specs.Numbers.{number, digits}
use Rattle.field.specs.Field.{xtime, mul_bits, mul, squares, inverse}
use Rattle.field.specs.SBox.{bits_of, affine, s_box}
use Rattle.cba_mode.specs.Sets.{column}
use Rattle.cba_mode.specs.Offsets
use Rattle.cba_mode.specs.Offsets.{doubled, times, F, start, pad}
use Rattle.cba_mode.specs.Forms.{seal_form}
use Rattle.cba_mode.specs.Charge.{old_charge, charge}
use Rattle.cba_mode.specs.Examples.{Examples}

pub examples : Examples
unfolding xors number digits xtime mul_bits mul squares inverse bits_of affine s_box column doubled Offsets.two Offsets.three Offsets.four Offsets.five Offsets.six times F start pad seal_form old_charge charge
examples =
    record {
      one = refl;
      two' = refl;
      three = refl;
      four' = (refl, refl);
      five' = (refl, refl);
      six' = refl;
      seven = refl;
      eight = refl;
      nine = (refl, refl, refl, refl);
      ten = (refl, refl);
      eleven = (refl, refl);
      eleven-older = (refl, refl);
      ells = refl;
    }
