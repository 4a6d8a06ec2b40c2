-- `ledger::ledger::begin` meets its contract: the key with zeros after it, and the rest of no ledger.
-- Assumes nothing.
use Rattle.std.proofs.Common.{arith}
use Rattle.ledger.proofs.ValueLaws.{fresh-key}
use Rattle.ledger.proofs.ledger.begin.Goals as goal

pub returns : goal.returns
returns c = grind (arith, fresh-key c.args.key.now c.put.ensures, c.default.ensures)
