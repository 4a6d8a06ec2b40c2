-- `cba_sealing::blocks::full_blocks` meets its contract: after i turns of two blocks, 2 i blocks are done.
-- Assumes nothing.
use mathlib.Core.Path.{◌∙◌}
use Prim.Native.Nat.{◌+◌, ◌-◌, ◌*◌}
use native.Mathlib.Omega.{arith}
use Rattle.cba_sealing.proofs.BlockLaws.{going_none, goes_on, goes_as, goes_end, sum-none, sum-more}
use Rattle.cba_sealing.proofs.blocks.full_blocks.Goals as goal

pub loop-i-init : goal.loop-i-init
loop-i-init g c = going_none _ (c.read.ensures ∙ sum-none _ g.D.Direction.seals _ _)

pub loop-i-preserved : goal.loop-i-preserved
loop-i-preserved g c =
    let v = c.loop-i.invariant in
    let there = c.requires.out_holds_k_blocks in
    goes_as
    (goes_on v 2 (omega (arith, c.loop-i-test.true)) there c.two_blocks-s.ensures c.two_blocks-s.auto.out (sum-more g.D.Direction.seals v there 2))
    (2 * (c.loop-i.i + 1)) (omega arith)

pub returns-then-k-eq1 : goal.returns-then-k-eq1
returns-then-k-eq1 g c =
    let v = goes_as c.loop-i.invariant (c.args.k - 1) (omega (arith, c.loop-i.invariant.within, c.loop-i-test.false, c.if-k-eq1.true)) in
    let there = c.requires.out_holds_k_blocks in
    goes_end (goes_on v 1 (omega (arith, c.if-k-eq1.true)) there c.one_block.ensures c.one_block.auto.out (sum-more g.D.Direction.seals v there 1)) (omega arith)

pub returns : goal.returns
returns g c = goes_end c.loop-i.invariant (omega (arith, c.loop-i.invariant.within, c.loop-i-test.false, c.if-k-eq1.false))
