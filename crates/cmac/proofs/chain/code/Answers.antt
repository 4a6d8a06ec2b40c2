-- `cmac::chain::code` meets its contract: the chain, the last block, and the last encryption.
-- Assumes nothing.
use Rattle.cmac.proofs.ChainLaws.{code_is}
use Rattle.cmac.proofs.chain.code.Goals as goal

pub returns : goal.returns
returns c = code_is _ _ _ _ _ _ _ c.before_last-n.ensures.value c.chain-x.ensures c.last_block-last.ensures c.xor_block.ensures c.encrypt.ensures
