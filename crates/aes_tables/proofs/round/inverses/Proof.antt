-- `aes_tables::round::inverses` meets its contract: each entry of the constant is computed from the definition.
-- Assumes nothing.
use mathlib.Core.Path.{refl}
use Rattle.octets.specs.Strings.{table}
use Rattle.field.specs.Field.{xtime, mul_bits, mul, squares, inverse}
use Rattle.field.specs.SBox.{bits_of, inv_affine, inv_s_box}
use Rattle.aes_tables.specs.Round.{multiples, inverse_entry, entries}
use Rattle.aes_tables.proofs.round.inverses.Statement.{statement}
use Rattle.aes_tables.proofs.round.inverses.Tie as tie

returns : tie.Need-returns
unfolding table xtime mul_bits mul squares inverse bits_of inv_affine inv_s_box multiples inverse_entry entries
returns c = refl

pub inverses_spec : {M : Type 1} → statement M
inverses_spec = tie.close (tie.spec returns)
