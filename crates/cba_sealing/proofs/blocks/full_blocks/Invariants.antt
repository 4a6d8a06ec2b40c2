-- `cba_sealing::blocks::full_blocks` meets its contract: after i turns of two blocks, 2 i blocks are done.
-- Assumes nothing.
use Prim.Native.Nat.{◌*◌}
use Rattle.cba_steps.specs.Halves.{halves_of}
use Rattle.cba_sealing.proofs.BlockLaws.{Going, sum_of}
use Rattle.cba_sealing.proofs.blocks.full_blocks.Given as goal

abbrev pub invariant-loop-i : goal.invariant-loop-i
invariant-loop-i g l =
    let E = g.D.Direction.function l.d in
    let Δ = halves_of l.initial.s.offset in
    Going E (sum_of E g.D.Direction.seals Δ l.text) Δ l.text l.initial.out l.k (2 * l.i) l.s l.out
