-- `cba_sealing::blocks::masked` meets its contract, by those of the functions that it calls.
-- Assumes nothing.
use Rattle.cba_sealing.proofs.BlockLaws.{through-block}
use Rattle.cba_sealing.proofs.blocks.masked.Goals as goal

pub returns : goal.returns
returns g c = through-block (g.D.Direction.function c.args.d.now) _ _ c.words-offset.ensures c.bitxor.ensures c.block.ensures c.bitxor-2.ensures
