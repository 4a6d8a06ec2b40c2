-- `ledger::ledger::Ledger::with_sum` meets its contract.
-- Assumes nothing.
use Rattle.std.proofs.Common.{true, refl}
use Rattle.ledger.proofs.HeadingLaws.{stored}
use Rattle.ledger.proofs.ledger.Ledger.with_sum.Goals as goal

pub returns : goal.returns
returns c = rw (stored c.args.self.now.headings c.args.name (record { kept = true; sum = c.args.sum })) refl
