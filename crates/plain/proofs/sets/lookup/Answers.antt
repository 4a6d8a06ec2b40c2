-- `plain::sets::lookup` meets its contract: the constant rows are those of the definition.
-- Assumes nothing.
use Rattle.std.proofs.Common.{arith, rules}
use Rattle.plain.proofs.SetLaws.{below_set, above-set, known, unknown}
use Rattle.plain.proofs.sets.lookup.Goals as goal

pub returns-in_err-checked_sub : goal.returns-in_err-checked_sub
returns-in_err-checked_sub c = rw c.from_residual.ensures (unknown _ (below_set c.args.set (omega (arith, c.in_err-checked_sub.ensures))))

pub returns-in_err-key : goal.returns-in_err-key
returns-in_err-key c =
    rw c.from_residual-in_err-key.ensures
    (unknown _ (above-set c.args.set c.in_ok-checked_sub.ensures.0 (omega (arith, c.in_ok-checked_sub.ensures, c.in_err-key.ensures.lookup.3))))

pub returns : goal.returns
returns c =
    known c.args.set c.in_ok-checked_sub.field-0 c.in_ok-key.field-0.now c.in_ok-checked_sub.ensures (search rules) c.in_ok-key.ensures.lookup.1
