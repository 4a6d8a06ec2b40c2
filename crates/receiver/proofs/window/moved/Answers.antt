-- `receiver::window::moved` meets its contract.
-- Assumes nothing.
use Rattle.std.proofs.Common.{◌∙◌}
use Rattle.receiver.proofs.MarkLaws.{moved_is}
use Rattle.receiver.proofs.window.moved.Goals as goal

pub returns : goal.returns
returns c = c.unwrap_or.ensures ∙ moved_is c.args.marks c.args.by _ _ c.min.ensures c.checked_shl.ensures
