-- The example calls have the answers of their tables.
-- Assumes nothing.
use mathlib.Core.Path.{◌≡◌, refl}
use mathlib.Core.Bool.{true, false}
use mathlib.Core.List.{[]}
use Rattle.octets.specs.Numbers.{number, digits}
use Rattle.answers.specs.Rows.{answer, numbers, is_in, all_in}
use Rattle.answers.specs.Table.{table, numbers_of}
use Rattle.cba_mode.specs.Sets.{is_set, column}
use Rattle.cba_rules.specs.Examples.{key_calls, keys_so}
use Rattle.window_rules.specs.Window.{bit, is_repeat}
use Rattle.receiver_rules.specs.Receiver.{no_receiver, make_rows, prefix_of, counter_of, receiver_rows}
use Rattle.receiver_rules.specs.Examples.{Parts, openings, false_ones, opens_so}

-- every number of the rows is in the table of all answers
pub in_the_table : (all_in (numbers (make_rows 0 0)) (numbers_of table) ≡ true) × (all_in (numbers (receiver_rows no_receiver [] 0 0 0 true)) (numbers_of table) ≡ true)
unfolding all_in is_in numbers numbers_of make_rows receiver_rows
in_the_table = (refl, refl)

pub making-examples : keys_so make_rows key_calls ≡ true
unfolding keys_so answer make_rows is_set column
making-examples = refl

pub parts : Parts
unfolding prefix_of counter_of number
parts = record { prefix-is = refl; counter_is = refl }

pub opening-examples : (opens_so false openings ≡ true) × (opens_so true false_ones ≡ true)
unfolding opens_so answer receiver_rows prefix_of counter_of is_repeat bit is_set column number digits
opening-examples = (refl, refl)
