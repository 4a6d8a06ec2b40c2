-- `text::hex::read_hex` meets its contract.
-- Assumes nothing.
use Prim.Native.Nat.{◌/◌}
use lib.ListN.{length}
use Rattle.octets.proofs.Strings.{Filled}
use Rattle.text.proofs.HexLaws.{pair_at}
use Rattle.text.proofs.hex.read_hex.Given as goal

abbrev pub invariant-loop-i : goal.invariant-loop-i
invariant-loop-i l = Filled (pair_at l.w) (length l.w / 2) l.initial.out l.i l.out
