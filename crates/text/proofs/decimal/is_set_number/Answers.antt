-- `text::decimal::is_set_number` meets its contract.
-- Assumes nothing.
use mathlib.Core.Path.{◌∙◌}
use mathlib.Core.Logic.{inl, inr}
use native.Mathlib.Omega.{arith}
use Rattle.text.proofs.DecimalLaws.{set-none, set_long, set-zero, set-digits}
use Rattle.text.proofs.decimal.is_set_number.Goals as goal

pub returns-in-1 : goal.returns-in-1
returns-in-1 c = c.all_digits.ensures ∙ set-digits c.args.w.now (omega arith) (omega arith) (inl (omega arith))

pub returns-then-w-ne48 : goal.returns-then-w-ne48
returns-then-w-ne48 c =
    c.all_digits-then-w-ne48.ensures ∙ set-digits c.args.w.now (omega arith) (omega arith) (inr c.if-w-ne48.true)

pub returns-else-w-ne48 : goal.returns-else-w-ne48
returns-else-w-ne48 c = rw c.if-w-ne48.false (set-zero c.args.w.now (omega arith) c.if-w-ne48.false)

pub returns-in_default : goal.returns-in_default
returns-in_default c = set-none c.args.w.now (omega arith)

pub returns-in_default-2 : goal.returns-in_default-2
returns-in_default-2 c = set_long c.args.w.now (omega arith)
