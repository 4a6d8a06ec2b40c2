-- The examples hold.
-- Assumes nothing.
use mathlib.Core.Path.{◌≡◌, refl}
use mathlib.Core.Bool.{true, false}
use mathlib.Core.List.{[]}
use Rattle.octets.specs.Xor.{xors}
use Rattle.octets.specs.Numbers.{number, digits}
use Rattle.answers.specs.Rows.{answer, numbers, is_in, all_in}
use Rattle.answers.specs.Table.{table, numbers_of}
use Rattle.fips197.specs.Schedule.{is_key}
use Rattle.cmac_rules.specs.Cmac.{shifted, double, padding, blocks, L, K1, K2, chain, last_block, CMAC}
use Rattle.cmac_rules.specs.Marks.{make_rows, check_rows, is_start}
use Rattle.cmac_rules.specs.Examples.{Subkeys, Figure, Starts, make_calls, right_marks, wrong_marks, makes_so, checks_so}

pub subkeys : Subkeys
unfolding number digits xors shifted double L K1 K2
subkeys = record { of_zeros = λ E. (refl, refl); first = refl; second = refl; longer-first = refl; longer-second = refl }

pub figure : Figure
unfolding digits padding blocks chain last_block CMAC
figure = record { empty = λ E. refl; short = λ E v. refl; full = λ E x. refl; three = λ E x y z. refl; more = λ E x v. refl }

pub starts : Starts
unfolding is_start
starts = record { short = refl; whole = refl; other_first = refl; other_middle = refl; other_last = refl; within = refl; longer = refl }

-- every number of the rows is in the table of all answers
pub in_the_table : (all_in (numbers (make_rows [] 0 0 0)) (numbers_of table) ≡ true) × (all_in (numbers (check_rows [] 0 0 true)) (numbers_of table) ≡ true)
unfolding all_in is_in numbers numbers_of
in_the_table = (refl, refl)

pub making-examples : makes_so make_calls ≡ true
unfolding makes_so answer is_key
making-examples = refl

pub checking_examples : (checks_so false right_marks ≡ true) × (checks_so true wrong_marks ≡ true)
unfolding checks_so answer is_key
checking_examples = (refl, refl)
