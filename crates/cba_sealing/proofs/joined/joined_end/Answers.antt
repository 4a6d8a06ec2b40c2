-- `cba_sealing::joined::joined_end` meets its contract.
-- Assumes nothing.
use mathlib.Core.Path.{◌≡◌}
use native.Mathlib.Omega.{arith}
use lib.ListN.{length, length-take, length-drop}
use Rattle.fips197.specs.Cipher.{cipher}
use Rattle.aes_schedule.specs.Words.{block_of}
use Rattle.cba_steps.specs.Halves.{halves_of}
use Rattle.cba_sealing.proofs.TailLaws.{joined_end_turn}
use Rattle.cba_sealing.proofs.joined.joined_end.Goals as goal

pub joined_block-requires : goal.joined_block-requires
joined_block-requires c = record { tag_len_bound = simp (length-take, length-drop) (omega arith); tag_in_bounds = simp (length-take, length-drop) (omega arith) }

pub slice_bounds-joined_last-end-2 : goal.slice_bounds-joined_last-end-2
slice_bounds-joined_last-end-2 c =
    let l : length c.joined_block.new.out ≡ length c.args.out.now = c.joined_block.auto.out in
    simp length-take (omega arith)

pub put-requires : goal.put-requires
put-requires c = simp (length-take, length-drop) (omega (arith, c.joined_block.auto.out, c.joined_last-c.type_inv.1.0.1))

pub returns : goal.returns
returns c =
    joined_end_turn (cipher c.args.e.now) (halves_of c.args.s.offset) (block_of c.args.s.sum) _ _ _ c.args.rest.now c.args.tag.now c.args.out.now c.joined_block.new.out
    c.joined_last-c.result c.put.new.out c.doubled-offset.ensures c.first_block-m.ensures (rw c.write.ensures at c.xor_block.ensures) c.requires.rest_holds_a_block c.requires.tag_in_bounds
    c.joined_block.ensures c.joined_block.auto.out c.joined_last-c.ensures c.joined_last-c.type_inv.1.0.1 c.put.ensures c.put.auto.out
