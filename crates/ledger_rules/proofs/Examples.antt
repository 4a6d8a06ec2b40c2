-- The example calls have the answers of their tables.
-- Assumes nothing.
use mathlib.Core.Path.{◌≡◌, refl}
use mathlib.Core.Bool.{Bool, true, false}
use mathlib.Core.List.{List, []}
use Rattle.octets.specs.Numbers.{number}
use Rattle.answers.specs.Rows.{Row, answer, numbers, is_in, all_in}
use Rattle.answers.specs.Table.{table, numbers_of}
use Rattle.cba_mode.specs.Sets.{is_set, column}
use Rattle.cba_mode.specs.Charge.{old_charge, charge}
use Rattle.cba_rules.specs.Examples.{key_calls, keys_so}
use Rattle.ledger_rules.specs.Ledger.{no_ledger, make_rows, console_of, stale, charge_by, spent, heading_at, is_heading_name, is_kept, source_row, seal_charge, ledger_rows, ledger_answer, keep_rows, keep_answer, carry_rows, carry_answer}
use Rattle.ledger_rules.specs.Ledger.Source.{given, named}
use Rattle.ledger_rules.specs.Examples.{sealings, namings, firsts, keepings, empties, carryings, seals_so, firsts_so, zeros, keeps_so, empties_so, carries_so, LedgerExamples}

-- every number of the rows is in the table of all answers
abbrev Listed : List Row → Type 0
Listed rows = all_in (numbers rows) (numbers_of table) ≡ true

pub in_the_table : Listed (make_rows 0 0) × Listed (ledger_rows no_ledger [] (given []) 0 0) × Listed (ledger_rows no_ledger [] (named 0) 0 0)
    × Listed (keep_rows no_ledger 0 0) × Listed (carry_rows no_ledger)
unfolding all_in is_in numbers numbers_of make_rows ledger_rows source_row keep_rows carry_rows
in_the_table = (refl, refl, refl, refl, refl)

makings : keys_so make_rows key_calls ≡ true
unfolding keys_so answer make_rows is_set column
makings = refl

first-ones : (b : Bool) → firsts_so b firsts ≡ true
unfolding firsts_so ledger_answer ledger_rows source_row seal_charge console_of stale charge_by spent answer is_set column charge old_charge number
first-ones true = refl
first-ones false = refl

by_value : (b : Bool) → seals_so b zeros sealings ≡ true
unfolding seals_so ledger_answer ledger_rows source_row seal_charge console_of stale charge_by spent answer is_set column charge old_charge number
by_value true = refl
by_value false = refl

by_name : (b : Bool) → seals_so b named namings ≡ true
unfolding seals_so ledger_answer ledger_rows source_row seal_charge console_of stale charge_by spent is_kept is_heading_name heading_at answer is_set column charge old_charge number
by_name true = refl
by_name false = refl

kept : (b : Bool) → keeps_so b keepings ≡ true
unfolding keeps_so keep_answer keep_rows charge_by spent is_heading_name answer is_set column charge old_charge
kept true = refl
kept false = refl

nothing-counted : empties_so empties ≡ true
unfolding empties_so keep_answer keep_rows ledger_answer ledger_rows source_row seal_charge console_of stale charge_by spent is_kept is_heading_name heading_at answer is_set column charge old_charge number
nothing-counted = refl

carried : (b : Bool) → carries_so b carryings ≡ true
unfolding carries_so carry_answer carry_rows answer is_set column
carried true = refl
carried false = refl

pub examples : LedgerExamples
examples =
    record {
      makings_so = makings;
      firsts-so = first-ones;
      sealings_so = by_value;
      namings_so = by_name;
      keepings_so = kept;
      empties-so = nothing-counted;
      carryings_so = carried;
    }
