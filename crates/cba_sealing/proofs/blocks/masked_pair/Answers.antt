-- `cba_sealing::blocks::masked_pair` meets its contract, by those of the functions that it calls.
-- Assumes nothing.
use Rattle.cba_sealing.proofs.BlockLaws.{through-block}
use Rattle.cba_sealing.proofs.blocks.masked_pair.Goals as goal

pub returns : goal.returns
returns g c =
    let E = g.D.Direction.function c.args.d.now in
    record {
      first = through-block E _ _ c.words.ensures c.bitxor.ensures.first c.pair.ensures.first c.bitxor-2.ensures.first;
      second = through-block E _ _ c.words-2.ensures c.bitxor.ensures.second c.pair.ensures.second c.bitxor-2.ensures.second;
    }
