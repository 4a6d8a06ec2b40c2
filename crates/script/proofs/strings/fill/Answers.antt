-- `script::strings::fill` meets its contract.
-- Assumes nothing.
use Rattle.std.proofs.Common.{◌<◌, ◌*◌, length, arith, rules, zero-le}
use Rattle.std.proofs.Math.Nat.{min-eq_right}
use Rattle.octets.proofs.Strings.{fill_none}
use Rattle.script.proofs.RoundLaws.{next_round}
use Rattle.script.proofs.strings.fill.Goals as goal

pub loop-i-init : goal.loop-i-init
loop-i-init c = rw (min-eq_right {n = 0} {m = length c.args.s.now} zero-le) (fill_none _ _ _ (search rules))

pub loop-i-preserved : goal.loop-i-preserved
loop-i-preserved c =
    let more : 251 * c.loop-i.i < length c.args.s.now = omega (arith, c.loop-i-test.true, c.div_ceil-i-end.ensures) in
    next_round c.args.seed _ _ _ c.loop-i.i _ _ c.loop-i.invariant c.loop-i.auto.s more (omega (arith, c.min-end.ensures)) c.fill_round.ensures
