-- What is kept is below 2^56, so that another byte goes beside it.
use Rattle.std.proofs.Common.{◌≤◌}
use Rattle.script.proofs.lines.residue.Given as goal

abbrev pub invariant-loop-byte : goal.invariant-loop-byte
invariant-loop-byte l = l.r ≤ 72057594037927930
