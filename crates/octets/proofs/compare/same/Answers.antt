-- `octets::compare::same` meets its contract.
use Rattle.std.proofs.Common.{arith, rules}
use Rattle.octets.proofs.CompareLaws.{one_more, none_more}
use Rattle.octets.proofs.compare.same.Goals as goal

pub loop-x-preserved : goal.loop-x-preserved
loop-x-preserved c =
    let steps = c.in-Some.ensures.steps in
    (grind arith, one_more c.loop-x.differ c.in-Some.x.now c.in-Some.y.now steps.0 steps.1 c.loop-x.invariant.1)

pub returns : goal.returns
returns c = none_more _ _ c.loop-x.differ c.loop-x.invariant.0 (search rules) c.loop-x.invariant.1
