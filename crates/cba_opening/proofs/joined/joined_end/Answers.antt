-- `cba_opening::joined::joined_end` meets its contract.
-- Assumes nothing.
use native.Mathlib.Omega.{arith}
use lib.ListN.{length-take, length-drop}
use Rattle.fips197.specs.Cipher.{cipher, inv_cipher}
use Rattle.aes_schedule.specs.Words.{block_of}
use Rattle.cba_steps.specs.Halves.{halves_of}
use Rattle.cba_opening.proofs.AttemptLaws.{joined_end_turn}
use Rattle.cba_opening.proofs.joined.joined_end.Goals as goal

pub slice_bounds-c-end : goal.slice_bounds-c-end
slice_bounds-c-end c = simp length-take (omega arith)

pub joined_rest-requires : goal.joined_rest-requires
joined_rest-requires c = record { tag_in_bounds = simp length-take (omega (arith, c.requires.tag_in_bounds)); c_len_bound = simp length-take (omega (arith, c.requires.rest_len_bound)); c_in_bounds = simp (length-take, length-drop) (omega (arith, c.put.auto.out, c.requires.tag_in_bounds, c.requires.rest_in_bounds)) }

pub returns : goal.returns
returns c =
    joined_end_turn (cipher c.args.e.now) (inv_cipher c.args.e.now) c.args.tag.now (halves_of c.args.s.offset) (block_of c.args.s.sum) c.args.rest.now _ c.joined_plain-m.result c.args.out.now _ c.joined_rest.new.out _
    c.requires.tag_in_bounds c.requires.rest_in_bounds c.first_block-last.ensures (rw c.write.ensures at c.joined_plain-m.ensures) c.joined_plain-m.type_inv.1.0.1 c.put.ensures c.put.auto.out c.joined_rest.ensures c.joined_rest.auto.out
