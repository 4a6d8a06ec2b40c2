-- `ledger::ledger::Ledger::heading` meets its contract.
-- Assumes nothing.
use Rattle.ledger.proofs.HeadingLaws.{read}
use Rattle.ledger.proofs.ledger.Ledger.heading.Goals as goal

pub returns : goal.returns
returns c = read c.args.self.now c.args.name
