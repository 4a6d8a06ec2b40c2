-- The example calls have the answers of their tables.
-- Assumes nothing.
use mathlib.Core.Path.{◌≡◌, refl}
use mathlib.Core.Bool.{true, false}
use Rattle.answers.specs.Rows.{answer, numbers, is_in, all_in}
use Rattle.answers.specs.Table.{table, numbers_of}
use Rattle.cba_mode.specs.Sets.{is_set, column}
use Rattle.cba_rules.specs.Checks.{seal_rows, open_rows}
use Rattle.cba_rules.specs.Examples.{seal_calls, open_calls, false_calls, seals_so, opens_so}

-- every number of the rows is in the table of all answers
pub in_the_table : (all_in (numbers (seal_rows 0 0 0 0 0 0)) (numbers_of table) ≡ true) × (all_in (numbers (open_rows 0 0 0 0 0 0 true)) (numbers_of table) ≡ true)
unfolding all_in is_in numbers numbers_of seal_rows open_rows
in_the_table = (refl, refl)

pub sealing-examples : seals_so seal_calls ≡ true
unfolding seals_so answer seal_rows is_set column
sealing-examples = refl

pub opening-examples : (opens_so false open_calls ≡ true) × (opens_so true false_calls ≡ true)
unfolding opens_so answer open_rows is_set column
opening-examples = (refl, refl)
