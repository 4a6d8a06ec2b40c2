-- `script::strings::fill_round`: the first i bytes are filled.
-- Assumes nothing.
use Rattle.std.proofs.Common.{length}
use Rattle.octets.proofs.Strings.{Filled}
use Rattle.script.specs.Strings.{seeded}
use Rattle.script.proofs.strings.fill_round.Given as goal

abbrev pub invariant-loop-i : goal.invariant-loop-i
invariant-loop-i l = Filled (seeded l.seed) (length l.initial.s) l.initial.s l.i l.s
