-- `cba_sealing::pieces::right_aligned` meets its contract: the string is the end of the block.
-- Assumes nothing.
use Rattle.cba_sealing.proofs.PieceLaws.{right_put}
use Rattle.cba_sealing.proofs.pieces.right_aligned.Goals as goal

pub returns : goal.returns
returns c = right_put c.args.s.now _ c.requires c.put.ensures
