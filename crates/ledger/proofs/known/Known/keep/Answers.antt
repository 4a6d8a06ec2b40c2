-- `ledger::known::Known::keep` meets its contract.
-- Assumes nothing.
use Rattle.std.proofs.Common.{ℕ}
use Rattle.answers.proofs.RefusalLaws.{refusal_not_zero}
use Rattle.ledger_rules.specs.Ledger.{KeepCall}
use Rattle.ledger.specs.declared.ledger.Ledger as code
use Rattle.ledger.specs.Values.{value_of}
use Rattle.ledger.proofs.CallLaws.{handed_back}
use Rattle.ledger.proofs.HeadingLaws.{keep_refused}
use Rattle.ledger.proofs.known.Known.keep.Goals as goal

pub returns-in_err-keep_checks : goal.returns-in_err-keep_checks
returns-in_err-keep_checks c =
    handed_back (λ (a : ℕ) (l' : code.Ledger). KeepCall (value_of c.args.self.now.ledger.now) c.args.name c.args.ad.now a (value_of l')) _ _ c.from_residual.ensures.1
    (keep_refused (value_of c.args.self.now.ledger.now) c.args.name c.args.ad.now c.in_err-keep_checks.ensures (refusal_not_zero _))

pub returns : goal.returns
returns c = record { answer-is = c.in_ok-keep_checks.ensures; next-is = c.kept.ensures }
