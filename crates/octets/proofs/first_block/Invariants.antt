-- `octets::first_block` meets its contract: after i turns the first i bytes are those of the slice.
-- Assumes nothing.
use lib.ListN.{get_or}
use Rattle.octets.proofs.Strings.{Filled}
use Rattle.octets.proofs.first_block.Given as goal

abbrev pub invariant-loop-i : goal.invariant-loop-i
invariant-loop-i l = Filled (λ k. get_or l.s k 0) 16 l.initial.r l.i l.r
