-- `cba_sealing::blocks::two_blocks` meets its contract.
-- Assumes nothing.
use mathlib.Core.Path.{refl, ap, ap₂, ◌∙◌}
use mathlib.Core.List.{List}
use Rattle.octets.specs.Xor.{xors}
use Prim.Native.Nat.{ℕ}
use Rattle.aes_schedule.specs.Words.{block_of}
use Rattle.cba_steps.specs.Halves.{halves_of}
use Rattle.cba_mode.specs.Offsets.{F}
use Rattle.cba_sealing.specs.Calls.{through}
use Rattle.cba_sealing.proofs.BlockLaws.{passed-two, sum-two}
use Rattle.cba_sealing.proofs.blocks.two_blocks.Goals as goal

pub put_pair-requires : goal.put_pair-requires
put_pair-requires g c = c.requires.out_holds_two_blocks

pub returns : goal.returns
returns g c =
    let next2 = c.doubled-b.ensures ∙ ap (F 2 2) c.doubled-a.ensures in
    let E = g.D.Direction.function c.args.d.now in
    let Δ = halves_of c.args.s.offset in
    let S = block_of c.args.s.sum in
    let first = c.masked_pair-after.ensures.first ∙ ap₂ (through E) c.doubled-a.ensures c.words_at.ensures in
    let second = c.masked_pair-after.ensures.second ∙ ap₂ (through E) next2 c.words_at-2.ensures in
    passed-two E _ Δ c.args.text.now c.args.out.now _ _ _ _ next2
    (c.bitxor.ensures ∙ ap (λ (x : List ℕ). xors x (block_of c.message-2.result)) c.bitxor-sum.ensures
    ∙ sum-two E S Δ c.args.text.now g.D.Direction.seals _ _ _ _ c.words_at.ensures c.words_at-2.ensures first second c.message.ensures c.message-2.ensures)
    first second refl c.put_pair.ensures
