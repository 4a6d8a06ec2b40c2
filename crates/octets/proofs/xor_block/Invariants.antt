-- `octets::xor_block` meets its contract: after i turns the first i bytes are those of the exclusive or.
-- Assumes nothing.
use lib.Bits.{bit_xor}
use lib.ListN.{get_or}
use Rattle.octets.proofs.Strings.{Filled}
use Rattle.octets.proofs.xor_block.Given as goal

abbrev pub invariant-loop-i : goal.invariant-loop-i
invariant-loop-i l = Filled (λ k. bit_xor (get_or l.a k 0) (get_or l.b k 0)) 16 l.initial.r l.i l.r
