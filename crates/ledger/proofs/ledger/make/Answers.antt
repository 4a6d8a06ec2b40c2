-- `ledger::ledger::make` meets its contract.
-- Assumes nothing.
use Rattle.std.proofs.Common.{sym, ◌∙◌}
use Rattle.answers.proofs.RefusalLaws.{refusal_not_zero}
use Rattle.plain.proofs.SetLaws.{key-limit}
use Rattle.ledger_rules.specs.Ledger.{make_rows, make_answer}
use Rattle.ledger_rules.proofs.LedgerLaws.{made_none, made-fresh}
use Rattle.ledger.proofs.ledger.make.Goals as goal

pub begin-ledger-requires : goal.begin-ledger-requires
unfolding make_rows
begin-ledger-requires c = key-limit c.args.set _ (sym c.in-Ok.ensures)

pub returns-in-Ok-clause-answer_value : goal.returns-in-Ok-clause-answer_value
unfolding make_rows make_answer
returns-in-Ok-clause-answer_value c = c.set_key_checks-answer.ensures

pub returns-in-Ok-clause-ledger_value : goal.returns-in-Ok-clause-ledger_value
unfolding make_rows make_answer
returns-in-Ok-clause-ledger_value c = c.begin-ledger.ensures ∙ sym (made-fresh c.args.set c.args.key.now c.args.console (sym c.in-Ok.ensures))

pub returns-in-Err-clause-answer_value : goal.returns-in-Err-clause-answer_value
unfolding make_rows make_answer
returns-in-Err-clause-answer_value c = c.set_key_checks-answer.ensures

pub returns-in-Err-clause-ledger_value : goal.returns-in-Err-clause-ledger_value
unfolding make_rows make_answer
returns-in-Err-clause-ledger_value c =
    c.default-ledger.ensures ∙ sym (made_none c.args.set c.args.key.now c.args.console (λ z. refusal_not_zero _ (c.in-Err.ensures ∙ z)))
