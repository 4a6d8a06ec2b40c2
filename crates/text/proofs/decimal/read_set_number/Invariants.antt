-- `text::decimal::read_set_number` meets its contract: after i turns n is the number of the first i digits.
-- Assumes nothing.
use Rattle.text.proofs.DecimalLaws.{Read}
use Rattle.text.proofs.decimal.read_set_number.Given as goal

abbrev pub invariant-loop-c : goal.invariant-loop-c
invariant-loop-c l = Read l.w l.n l.c-index
