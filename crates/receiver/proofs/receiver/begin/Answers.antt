-- `receiver::receiver::begin` meets its contract.
-- Assumes nothing.
use Rattle.receiver.proofs.CallLaws.{begin_is}
use Rattle.receiver.proofs.receiver.begin.Goals as goal

pub returns : goal.returns
returns c = begin_is c.args.set c.args.key.now c.args.prefix c.put.ensures c.default.ensures
