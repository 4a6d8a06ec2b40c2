-- `script::strings::fill_round` meets its contract: below 251 no place goes round.
-- Assumes nothing.
use Rattle.std.proofs.Common.{arith, rules}
use Rattle.octets.proofs.Strings.{fill_none, fill_value}
use Rattle.script.proofs.strings.fill_round.Goals as goal

pub loop-i-init : goal.loop-i-init
loop-i-init c = fill_none _ _ _ (search rules)

pub loop-i-preserved : goal.loop-i-preserved
loop-i-preserved c = fill_value c.loop-i.invariant c.loop-i-test.true (omega arith)
