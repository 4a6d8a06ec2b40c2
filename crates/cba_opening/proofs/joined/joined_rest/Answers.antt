-- `cba_opening::joined::joined_rest` meets its contract.
-- Assumes nothing.
use mathlib.Core.Path.{ap, ◌∙◌}
use Rattle.octets.specs.Xor.{xors}
use native.Mathlib.Omega.{arith}
use lib.ListN.{length-take}
use Rattle.fips197.specs.Cipher.{cipher, inv_cipher}
use Rattle.cba_steps.specs.Halves.{halves_of}
use Rattle.cba_opening.proofs.AttemptLaws.{joined-rest-turn}
use Rattle.cba_opening.proofs.joined.joined_rest.Goals as goal

pub slice_bounds-mask-length : goal.slice_bounds-mask-length
slice_bounds-mask-length c = simp length-take (omega arith)

pub mask-requires : goal.mask-requires
mask-requires c = record { s_bound = simp length-take (omega (arith, c.requires.c_len_bound)); s_in_bounds = simp length-take (omega (arith, c.requires.tag_in_bounds, c.requires.c_in_bounds)) }

pub returns : goal.returns
returns c =
    let block = c.encrypt-block.ensures ∙ ap (cipher _) (c.xor_block.ensures ∙ ap (xors _) c.step_block.ensures) in
    joined-rest-turn (cipher c.args.e.now) (inv_cipher c.args.e.now) (halves_of c.args.offset) c.args.m c.args.c.now c.args.tag.now c.args.out.now c.encrypt-block.result _ _
    block c.encrypt-block.type_inv.1.0.1 c.requires.c_len_bound c.mask.ensures c.joined_tag.ensures
