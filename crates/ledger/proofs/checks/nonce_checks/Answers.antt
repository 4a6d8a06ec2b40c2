-- `ledger::checks::nonce_checks` meets its contract: 3, then 12.
-- Assumes nothing.
use Rattle.std.proofs.Common.{[], ◌∷◌, ℕ, length, refl, ap, ◌∙◌}
use Rattle.answers.specs.Rows.{answer}
use Rattle.answers.proofs.RefusalLaws.{refusal_not_zero, handed_on}
use Rattle.cba_rules.specs.Checks.{bad_start}
use Rattle.plain.proofs.GroupLaws.{nonce-refused, start_follows}
use Rattle.ledger_rules.specs.Ledger.{console_of}
use Rattle.ledger.proofs.checks.nonce_checks.Goals as goal

pub returns-in_err-whole-clause-answer_value : goal.returns-in_err-whole-clause-answer_value
returns-in_err-whole-clause-answer_value c =
    let n = c.args.nonce.now in
    handed_on _ _ c.from_residual.ensures.1 ∙ nonce-refused c.args.console (length n) (console_of n) c.in_err-whole.ensures.answer_value (refusal_not_zero _)

pub returns-in_err-start_check-clause-answer_value : goal.returns-in_err-start_check-clause-answer_value
returns-in_err-start_check-clause-answer_value c =
    let n = c.args.nonce.now in
    let its_own = c.console_of.ensures ∙ ap console_of c.in_ok-whole.ensures.nonce_value in
    handed_on _ _ c.from_residual-in_err-start_check.ensures.1
    ∙ start_follows c.args.console (length n) (console_of n) c.in_ok-whole.ensures.answer_value refl
    (c.in_err-start_check.ensures ∙ ap (λ (x : ℕ). answer (bad_start c.args.console x ∷ [])) its_own)

pub returns-clause-answer_value : goal.returns-clause-answer_value
returns-clause-answer_value c =
    let n = c.args.nonce.now in
    let its_own = c.console_of.ensures ∙ ap console_of c.in_ok-whole.ensures.nonce_value in
    start_follows c.args.console (length n) (console_of n) c.in_ok-whole.ensures.answer_value refl
    (c.in_ok-start_check.ensures ∙ ap (λ (x : ℕ). answer (bad_start c.args.console x ∷ [])) its_own)
