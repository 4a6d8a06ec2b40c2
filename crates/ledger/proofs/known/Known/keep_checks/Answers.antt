-- `ledger::known::Known::keep_checks` meets its contract: its groups put together.
-- Assumes nothing.
use Rattle.std.proofs.Common.{ℕ, [], ◌∷◌, refl, ap, ◌∙◌}
use Rattle.answers.specs.Rows.{answer, numbers, is_in, own_numbers}
use Rattle.answers.proofs.RefusalLaws.{refused_first, passed_first}
use Rattle.cba_rules.specs.Checks.{long_data}
use Rattle.plain.proofs.SetLaws.{known-goes_on}
use Rattle.ledger_rules.specs.Ledger.{spent, has_no_blocks, is_heading_name, bad_name, keep_rows, keep_answer}
use Rattle.ledger.specs.Values.{value_of}
use Rattle.ledger.proofs.known.Known.keep_checks.Goals as goal

pub returns-in_err-name_check : goal.returns-in_err-name_check
unfolding is_heading_name keep_rows keep_answer numbers is_in own_numbers
returns-in_err-name_check c =
    refused_first (bad_name (is_heading_name c.args.name) ∷ []) _ refl _ _ c.from_residual.ensures.1 c.in_err-name_check.ensures
    ∙ known-goes_on c.args.self.now.ledger.now.set c.args.self.now.p _ c.args.self.now.is_known

pub returns-in_err-ad_check : goal.returns-in_err-ad_check
unfolding is_heading_name keep_rows keep_answer numbers is_in own_numbers
returns-in_err-ad_check c =
    passed_first (bad_name (is_heading_name c.args.name) ∷ []) _ refl c.in_ok-name_check.ensures
    (refused_first (long_data c.args.ad ∷ []) _ refl _ _ c.from_residual-in_err-ad_check.ensures.1 c.in_err-ad_check.ensures)
    ∙ known-goes_on c.args.self.now.ledger.now.set c.args.self.now.p _ c.args.self.now.is_known

pub returns : goal.returns
unfolding is_heading_name keep_rows keep_answer numbers is_in own_numbers
returns c =
    passed_first (bad_name (is_heading_name c.args.name) ∷ []) _ refl c.in_ok-name_check.ensures
    (passed_first (long_data c.args.ad ∷ []) _ refl c.in_ok-ad_check.ensures
    (c.capacity_check.ensures ∙ ap (λ (x : ℕ). answer (has_no_blocks (spent (value_of c.args.self.now.ledger.now) x) ∷ [])) c.charge.ensures))
    ∙ known-goes_on c.args.self.now.ledger.now.set c.args.self.now.p _ c.args.self.now.is_known
