-- `ledger::ledger::Ledger::is_kept` meets its contract.
-- Assumes nothing.
use Rattle.std.proofs.Common.{ap}
use Rattle.ledger_rules.specs.Ledger.{Heading}
use Rattle.ledger.specs.Values.{value_of}
use Rattle.ledger.proofs.HeadingLaws.{kept_above, kept-below}
use Rattle.ledger.proofs.ledger.Ledger.is_kept.Goals as goal

pub returns-then-name-ge-NAMES : goal.returns-then-name-ge-NAMES
returns-then-name-ge-NAMES c = kept_above (value_of c.args.self.now) c.args.name c.if-name-ge-NAMES.true

pub returns : goal.returns
returns c = kept-below (value_of c.args.self.now) c.args.name c.if-name-ge-NAMES.false (ap (λ (h : Heading). h.kept) c.heading.ensures)
