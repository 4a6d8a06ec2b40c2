-- `cmac::chain::chain` meets its contract.
-- Assumes nothing.
use Rattle.std.proofs.Common.{arith}
use Rattle.cmac.proofs.ChainLaws.{chained_none, chained_turn, chained_all}
use Rattle.cmac.proofs.chain.chain.Goals as goal

pub loop-i-init : goal.loop-i-init
loop-i-init c = chained_none _ _ _

pub loop-i-preserved : goal.loop-i-preserved
loop-i-preserved c = chained_turn _ _ _ _ _ _ c.loop-i.invariant (omega arith) c.first_block-m.ensures c.xor_block.ensures c.encrypt-x.ensures

pub returns : goal.returns
returns c = chained_all _ _ _ c.loop-i.invariant (omega arith)
