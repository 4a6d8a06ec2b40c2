-- `cba_steps::offsets::half` meets its contract.
-- Assumes nothing.
use borrow.Author.Rules.{rules}
use Rattle.cba_steps.proofs.WordLaws.{half-digits}
use Rattle.cba_steps.proofs.offsets.half.Goals as goal

pub returns : goal.returns
returns c = half-digits _ _ _ _ (search rules) (search rules) c.turned.ensures c.turned-2.ensures
