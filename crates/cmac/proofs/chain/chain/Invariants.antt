-- `cmac::chain::chain` meets its contract: after i turns X is that of the first i blocks.
-- Assumes nothing.
use Rattle.fips197.specs.Cipher.{cipher}
use Rattle.cmac.proofs.ChainLaws.{Chained}
use Rattle.cmac.proofs.chain.chain.Given as goal

abbrev pub invariant-loop-i : goal.invariant-loop-i
invariant-loop-i l = Chained (cipher l.e) l.message l.n l.i l.x
