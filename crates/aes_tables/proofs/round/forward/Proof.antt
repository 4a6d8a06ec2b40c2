-- `aes_tables::round::forward` meets its contract: each entry of the constant is computed from the definition.
-- Assumes nothing.
use mathlib.Core.Path.{refl}
use Rattle.field.specs.Field.{xtime, mul_bits, mul, squares, inverse}
use Rattle.field.specs.SBox.{bits_of, affine, s_box}
use Rattle.aes_tables.specs.Round.{multiples, entry, entries}
use Rattle.aes_tables.proofs.round.forward.Statement.{statement}
use Rattle.aes_tables.proofs.round.forward.Tie as tie

returns : tie.Need-returns
unfolding xtime mul_bits mul squares inverse bits_of affine s_box multiples entry entries
returns c = refl

pub forward_spec : {M : Type 1} → statement M
forward_spec = tie.close (tie.spec returns)
