-- `ledger::ledger::Ledger::try_keep` meets its contract.
-- Assumes nothing.
use Rattle.std.proofs.Common.{ℕ, sym, subst}
use Rattle.ledger_rules.specs.Ledger.{KeepCall}
use Rattle.ledger.specs.declared.ledger.Ledger as code
use Rattle.ledger.specs.Values.{value_of}
use Rattle.ledger.proofs.CallLaws.{handed_back}
use Rattle.ledger.proofs.HeadingLaws.{keep_unknown}
use Rattle.ledger.proofs.ledger.Ledger.try_keep.Goals as goal

pub returns-in_err-known : goal.returns-in_err-known
returns-in_err-known c =
    handed_back (λ (a : ℕ) (l' : code.Ledger). KeepCall (value_of c.args.self.now) c.args.name c.args.ad.now a (value_of l')) _ _ c.from_residual.ensures.1
    (subst (λ (a : ℕ). KeepCall (value_of c.args.self.now) c.args.name c.args.ad.now a (value_of c.args.self.now)) (sym c.in_err-known.ensures.refusal_value.0)
    (keep_unknown (value_of c.args.self.now) c.args.name c.args.ad.now c.in_err-known.ensures.refusal_value.1))
