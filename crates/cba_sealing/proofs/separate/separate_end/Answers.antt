-- `cba_sealing::separate::separate_end` meets its contract.
-- Assumes nothing.
use native.Mathlib.Omega.{arith}
use lib.ListN.{length-take, length-drop}
use Rattle.fips197.specs.Cipher.{cipher}
use Rattle.aes_schedule.specs.Words.{block_of}
use Rattle.cba_steps.specs.Halves.{halves_of}
use Rattle.cba_sealing.proofs.TailLaws.{separate_end_turn}
use Rattle.cba_sealing.proofs.separate.separate_end.Goals as goal

pub last_block-requires : goal.last_block-requires
last_block-requires c = record { tag_len_bound = c.requires.tag_len_bound; last_len_bound = c.requires.last_len_bound; last_in_bounds = omega (arith, c.requires.tag_in_bounds) }

pub slice_bounds-put-end-2 : goal.slice_bounds-put-end-2
slice_bounds-put-end-2 c = simp length-take (omega (arith, c.tag_block-block.type_inv.1.0.1, c.requires.tag_len_bound))

pub put-requires : goal.put-requires
put-requires c = simp (length-take, length-drop) (omega (arith, c.last_block.auto.out, c.requires.tag_in_bounds))

pub returns : goal.returns
returns c = separate_end_turn (cipher c.args.e.now) (halves_of c.args.s.offset) (block_of c.args.s.sum) c.args.tag.now c.args.last.now c.args.out.now _ c.tag_block-block.result c.put.new.out c.requires.tag_len_bound c.requires.tag_in_bounds c.last_block.ensures c.last_block.auto.out (rw c.write.ensures at c.tag_block-block.ensures) c.tag_block-block.type_inv.1.0.1 c.put.ensures c.put.auto.out
