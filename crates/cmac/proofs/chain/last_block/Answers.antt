-- `cmac::chain::last_block` meets its contract: a full block and one that is padded.
-- Assumes nothing.
use Rattle.cmac.proofs.ChainLaws.{last-full, last-padded}
use Rattle.cmac.proofs.chain.last_block.Goals as goal

pub returns-then-rest-eq16 : goal.returns-then-rest-eq16
returns-then-rest-eq16 c = last-full _ _ _ _ _ c.if-rest-eq16.true c.first_block.ensures c.generate_subkeys.ensures.0 c.xor_block.ensures

pub returns : goal.returns
returns c = last-padded _ _ _ _ _ c.requires c.if-rest-eq16.false c.pad.ensures c.generate_subkeys.ensures.1 c.xor_block-2.ensures
