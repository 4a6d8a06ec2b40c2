-- `script::strings::fill`: the rounds before i are filled, or all the bytes.
-- Assumes nothing.
use Rattle.std.proofs.Common.{◌*◌, length, min}
use Rattle.octets.proofs.Strings.{Filled}
use Rattle.script.specs.Strings.{seeded}
use Rattle.script.proofs.strings.fill.Given as goal

abbrev pub invariant-loop-i : goal.invariant-loop-i
invariant-loop-i l = Filled (seeded l.seed) (length l.initial.s) l.initial.s (min (length l.initial.s) (251 * l.i)) l.s
