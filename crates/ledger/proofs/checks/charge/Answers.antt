-- `ledger::checks::charge` meets its contract.
-- Assumes nothing.
use Rattle.std.proofs.Common.{◌∙◌}
use Rattle.ledger.proofs.CheckLaws.{charge_is}
use Rattle.ledger.proofs.checks.charge.Goals as goal

pub returns : goal.returns
returns c = c.max.ensures ∙ charge_is c.args.heartbeats c.args.ad c.args.message c.blocks-2.ensures c.blocks-3.ensures
