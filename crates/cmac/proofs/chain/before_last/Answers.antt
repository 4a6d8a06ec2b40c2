-- `cmac::chain::before_last` meets its contract.
-- Assumes nothing.
use borrow.Author.Rules.{rules}
use Rattle.cmac_rules.specs.Cmac.{blocks}
use Rattle.cmac.proofs.chain.before_last.Goals as goal

pub returns-clause-value : goal.returns-clause-value
unfolding blocks
returns-clause-value c = search rules
