-- `ledger::headings::name_check` meets its contract.
-- Assumes nothing.
use Rattle.std.proofs.Common.{not, ap}
use Rattle.ledger.proofs.HeadingLaws.{name-refused, name-passed}
use Rattle.ledger.proofs.headings.name_check.Goals as goal

pub returns-then-not-good : goal.returns-then-not-good
returns-then-not-good c = name-refused c.args.good (ap not c.if-not-good.true)

pub returns : goal.returns
returns c = name-passed c.args.good (ap not c.if-not-good.false)
