-- `octets::put` meets its contract: after i turns the first i bytes are those of the string.
-- Assumes nothing.
use lib.ListN.{length, get_or}
use Rattle.octets.proofs.Strings.{Filled}
use Rattle.octets.proofs.put.Given as goal

abbrev pub invariant-loop-i : goal.invariant-loop-i
invariant-loop-i l = Filled (λ k. get_or l.s k 0) (length l.s) l.initial.out l.i l.out
