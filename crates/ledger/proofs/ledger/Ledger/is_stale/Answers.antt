-- `ledger::ledger::Ledger::is_stale` meets its contract.
-- Assumes nothing.
use Rattle.std.proofs.Common.{not, ap}
use Rattle.ledger_rules.specs.Ledger.{stale}
use Rattle.ledger.specs.Values.{value_of}
use Rattle.ledger.proofs.CheckLaws.{not-begun}
use Rattle.ledger.proofs.ledger.Ledger.is_stale.Goals as goal

pub returns-then-not-self : goal.returns-then-not-self
returns-then-not-self c = not-begun (value_of c.args.self.now) c.args.nonce.now (ap not c.if-not-self.true)

pub returns : goal.returns
unfolding stale
returns c = rw c.if-not-self.false c.is_not_above.ensures
