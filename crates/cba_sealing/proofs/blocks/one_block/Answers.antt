-- `cba_sealing::blocks::one_block` meets its contract.
-- Assumes nothing.
use mathlib.Core.Path.{◌≡◌, ap₂, ◌∙◌}
use lib.ListN.{length}
use borrow.Author.Rules.{rules}
use Rattle.aes_schedule.specs.Words.{block_of}
use Rattle.cba_steps.specs.Halves.{halves_of}
use Rattle.cba_sealing.specs.Calls.{through}
use Rattle.cba_sealing.proofs.BlockLaws.{passed-one, sum-one}
use Rattle.cba_sealing.proofs.blocks.one_block.Goals as goal

pub returns : goal.returns
returns g c =
    let E = g.D.Direction.function c.args.d.now in
    let Δ = halves_of c.args.s.offset in
    let S = block_of c.args.s.sum in
    let made = c.masked-after.ensures ∙ ap₂ (through E) c.doubled-offset.ensures c.words_at-before.ensures in
    let size : length c.write.result ≡ 16 = search rules in
    passed-one E _ Δ c.args.text.now c.args.out.now _ _ _ c.doubled-offset.ensures
    (c.bitxor.ensures ∙ sum-one E S Δ c.args.text.now g.D.Direction.seals _ _ c.words_at-before.ensures made c.message.ensures)
    (c.write.ensures ∙ made) size c.put.ensures
