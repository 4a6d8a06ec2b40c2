-- `aes::table::add_key` meets its contract.
-- Assumes nothing.
use mathlib.Core.Path.{ap, ◌∙◌}
use Rattle.octets.specs.Xor.{xors}
use Rattle.fips197.specs.Steps.{add_round_key}
use Rattle.aes.proofs.table.add_key.Goals as goal

pub returns : goal.returns
unfolding add_round_key
returns c = c.bitxor.ensures ∙ ap (xors _) c.words_at.ensures
