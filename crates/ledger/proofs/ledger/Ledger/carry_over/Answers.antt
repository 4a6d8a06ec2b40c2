-- `ledger::ledger::Ledger::carry_over` meets its contract.
-- Assumes nothing.
use Rattle.std.proofs.Common.{sym, ◌∙◌}
use Rattle.ledger.specs.Values.{value_of}
use Rattle.ledger.proofs.CallLaws.{carry_unknown, carry_known}
use Rattle.ledger.proofs.ledger.Ledger.carry_over.Goals as goal

pub returns-in_default : goal.returns-in_default
returns-in_default c =
    rw (c.outcome.ensures.answer_value, c.outcome.ensures.ledger_value)
    (carry_unknown (value_of c.args.self) (sym c.lookup.ensures.case_is ∙ c.in_default.is))

pub returns : goal.returns
returns c =
    rw (c.outcome-2.ensures.answer_value, c.outcome-2.ensures.ledger_value)
    (carry_known (value_of c.args.self) _ (sym c.in-Some.ensures.case_is))
