-- `ledger::known::Known::checked` meets its contract: the shared checks, then the ledger's own.
-- Assumes nothing.
use Rattle.std.proofs.Common.{List, ℕ, sym, ap₂, ◌∙◌}
use Rattle.answers.specs.Rows.{answer}
use Rattle.answers.proofs.RowLaws.{first_stops, first_goes}
use Rattle.answers.proofs.RefusalLaws.{handed_on, refusal_not_zero}
use Rattle.ledger_rules.specs.Ledger.{stale, spent, own_rows}
use Rattle.ledger.specs.Values.{value_of}
use Rattle.ledger.proofs.known.Known.checked.Goals as goal

pub returns-in_err-whole-clause-answer_value : goal.returns-in_err-whole-clause-answer_value
returns-in_err-whole-clause-answer_value c = handed_on _ _ c.from_residual.ensures.1 ∙ first_stops _ c.in_err-whole.ensures.answer_value (refusal_not_zero _)

pub returns-in_err-own_check-clause-answer_value : goal.returns-in_err-own_check-clause-answer_value
returns-in_err-own_check-clause-answer_value c =
    handed_on _ _ c.from_residual-in_err-own_check.ensures.1
    ∙ c.in_err-own_check.ensures
    ∙ ap₂ (λ (n : List ℕ) (x : ℕ). answer (own_rows (stale (value_of c.args.self.now.ledger.now) n) (spent (value_of c.args.self.now.ledger.now) x))) c.in_ok-whole.ensures.nonce_value c.charge.ensures
    ∙ first_goes _ (sym c.in_ok-whole.ensures.answer_value)

pub returns-clause-answer_value : goal.returns-clause-answer_value
returns-clause-answer_value c =
    c.in_ok-own_check.ensures
    ∙ ap₂ (λ (n : List ℕ) (x : ℕ). answer (own_rows (stale (value_of c.args.self.now.ledger.now) n) (spent (value_of c.args.self.now.ledger.now) x))) c.in_ok-whole.ensures.nonce_value c.charge.ensures
    ∙ first_goes _ (sym c.in_ok-whole.ensures.answer_value)
