-- `ledger::ledger::Ledger::try_seal_by_name` meets its contract.
-- Assumes nothing.
use Rattle.std.proofs.Common.{ℕ, sym, subst}
use Rattle.ledger_rules.specs.Ledger.{LedgerCall}
use Rattle.ledger_rules.specs.Ledger.Source.{named}
use Rattle.ledger.specs.declared.ledger.Ledger as code
use Rattle.ledger.specs.Values.{value_of}
use Rattle.ledger.proofs.CallLaws.{handed_back, unknown-refused}
use Rattle.ledger.proofs.ledger.Ledger.try_seal_by_name.Goals as goal

pub returns-in_err-known : goal.returns-in_err-known
returns-in_err-known c =
    handed_back (λ (a : ℕ) (l' : code.Ledger). LedgerCall (value_of c.args.self.now) c.args.nonce.now (named c.args.name) c.args.message.now c.args.out.now a (value_of l') c.args.out.now) _ _ c.from_residual.ensures.1
    (subst (λ (a : ℕ). LedgerCall (value_of c.args.self.now) c.args.nonce.now (named c.args.name) c.args.message.now c.args.out.now a (value_of c.args.self.now) c.args.out.now) (sym c.in_err-known.ensures.refusal_value.0)
    (unknown-refused (value_of c.args.self.now) c.args.nonce.now (named c.args.name) c.args.message.now c.args.out.now c.in_err-known.ensures.refusal_value.1))
