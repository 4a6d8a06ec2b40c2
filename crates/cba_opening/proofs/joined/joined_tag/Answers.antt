-- `cba_opening::joined::joined_tag` meets its contract.
-- Assumes nothing.
use mathlib.Core.Path.{◌≡◌}
use native.Mathlib.Omega.{arith}
use lib.ListN.{length, length-take}
use Rattle.cba_opening.proofs.AttemptLaws.{joined-tag-turn}
use borrow.Author.Rules.{rules}
use Rattle.cba_opening.proofs.joined.joined_tag.Goals as goal

pub slice_bounds-same-end : goal.slice_bounds-same-end
slice_bounds-same-end c =
    let l : length c.mask.new.out ≡ 16 = search rules in
    simp length-take (omega (arith, c.requires.tag_in_bounds, c.requires.c_len_bound))

pub same-requires : goal.same-requires
same-requires c =
    let l : length c.mask.new.out ≡ 16 = search rules in
    simp length-take (omega (arith, c.requires.tag_in_bounds, c.requires.c_len_bound))

pub returns : goal.returns
returns c =
    let l : length c.args.block ≡ 16 = search rules in
    joined-tag-turn c.args.block c.args.c.now c.args.tag.now _ _ _ c.requires.tag_in_bounds (omega (arith, l, c.requires.c_len_bound)) c.mask.ensures c.same.ensures
