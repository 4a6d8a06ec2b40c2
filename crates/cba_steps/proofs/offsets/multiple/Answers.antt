-- `cba_steps::offsets::multiple` meets its contract, by the cases of the definition.
-- Assumes nothing.
use mathlib.Core.Path.{sym, ap, ◌∙◌}
use native.Mathlib.Omega.{arith}
use Rattle.cba_mode.specs.Offsets.{two, three, four, five, six, times}
use Rattle.cba_mode.proofs.OffsetLaws.{times-at, times_other}
use Rattle.cba_steps.proofs.offsets.multiple.Goals as goal

pub returns-in-2 : goal.returns-in-2
unfolding times
returns-in-2 c = c.double.ensures ∙ sym (times-at 2 _ c.in-2.is)

pub returns-in-3 : goal.returns-in-3
unfolding times
returns-in-3 c = c.triple.ensures ∙ sym (times-at 3 _ c.in-3.is)

pub returns-in-4 : goal.returns-in-4
unfolding times four
returns-in-4 c = c.double-in-4-2.ensures ∙ ap two c.double-in-4.ensures ∙ sym (times-at 4 _ c.in-4.is)

pub returns-in-5 : goal.returns-in-5
unfolding times five
returns-in-5 c = c.triple-in-5-2.ensures ∙ ap three c.triple-in-5.ensures ∙ sym (times-at 5 _ c.in-5.is)

pub returns-in-6 : goal.returns-in-6
unfolding times six
returns-in-6 c = c.triple-in-6.ensures ∙ ap three c.double-in-6.ensures ∙ sym (times-at 6 _ c.in-6.is)

pub returns-in_default : goal.returns-in_default
returns-in_default c = times_other _ _ (λ e. omega arith) (λ e. omega arith) (λ e. omega arith) (λ e. omega arith) (λ e. omega arith)
