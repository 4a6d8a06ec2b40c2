-- `cba_sealing::pieces::mask` meets its contract: after i turns the first i bytes are masked.
-- Assumes nothing.
use Prim.Native.Nat.{◌+◌}
use lib.Bits.{bit_xor}
use lib.ListN.{length, get_or}
use Rattle.octets.proofs.Strings.{Filled}
use Rattle.cba_sealing.proofs.pieces.mask.Given as goal

abbrev pub invariant-loop-i : goal.invariant-loop-i
invariant-loop-i l = Filled (λ k. bit_xor (get_or l.s k 0) (get_or l.block (l.at + k) 0)) (length l.s) l.initial.out l.i l.out
