-- `cba_steps::offsets::rotate` meets its contract.
-- Assumes nothing.
use borrow.Author.Rules.{rules}
use Rattle.cba_steps.proofs.StartLaws.{rotate_halves}
use Rattle.cba_steps.proofs.offsets.rotate.Goals as goal

pub returns : goal.returns
returns c = rotate_halves c.args.k c.requires.0 c.requires.1 c.args.a c.args.b (search rules) (search rules)
