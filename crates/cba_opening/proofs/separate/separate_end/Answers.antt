-- `cba_opening::separate::separate_end` meets its contract.
-- Assumes nothing.
use native.Mathlib.Omega.{arith}
use lib.ListN.{length-take, length-drop}
use Rattle.fips197.specs.Cipher.{cipher, inv_cipher}
use Rattle.aes_schedule.specs.Words.{block_of}
use Rattle.cba_steps.specs.Halves.{halves_of}
use Rattle.cba_opening.proofs.AttemptLaws.{separate_end_turn}
use Rattle.cba_opening.proofs.separate.separate_end.Goals as goal

pub slice_bounds-last_block-end : goal.slice_bounds-last_block-end
slice_bounds-last_block-end c = simp length-take (omega arith)

pub last_block-requires : goal.last_block-requires
last_block-requires c = record { tag_len_bound = c.requires.tag_len_bound; last_len_bound = simp length-take (omega (arith, c.requires.rest_len_bound)); last_in_bounds = simp length-take (omega (arith, c.requires.rest_in_bounds)) }

pub slice_bounds-tag_block-end-2 : goal.slice_bounds-tag_block-end-2
slice_bounds-tag_block-end-2 c = simp length-take (omega (arith, c.last_block.auto.out, c.requires.rest_in_bounds))

pub slice_bounds-same-end-2 : goal.slice_bounds-same-end-2
slice_bounds-same-end-2 c = simp length-take (omega (arith, c.tag_block-block.type_inv.1.0.1, c.requires.tag_len_bound))

pub same-requires : goal.same-requires
same-requires c = simp (length-take, length-drop) (omega (arith, c.tag_block-block.type_inv.1.0.1, c.requires.tag_len_bound, c.requires.tag_in_bounds))

pub returns : goal.returns
returns c =
    separate_end_turn (cipher c.args.e.now) (inv_cipher c.args.e.now) c.args.tag.now (halves_of c.args.s.offset) (block_of c.args.s.sum) c.args.rest.now c.args.out.now _ c.last_block.new.out _
    c.requires.tag_in_bounds c.requires.rest_in_bounds c.last_block.ensures c.last_block.auto.out (rw c.write.ensures at c.tag_block-block.ensures) c.same.ensures
