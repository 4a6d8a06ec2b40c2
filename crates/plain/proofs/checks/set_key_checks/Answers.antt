-- `plain::checks::set_key_checks` meets its contract.
-- Assumes nothing.
use mathlib.Core.Path.{sym, ◌∙◌}
use Rattle.plain.proofs.SetLaws.{unknown-answers, key-known}
use Rattle.plain.proofs.checks.set_key_checks.Goals as goal

pub returns-in_default : goal.returns-in_default
returns-in_default c = unknown-answers _ _ (sym c.lookup.ensures.case_is ∙ c.in_default.is)

pub returns : goal.returns
returns c = c.key_check.ensures ∙ key-known _ _ _ (sym c.in-Some.ensures.case_is)
