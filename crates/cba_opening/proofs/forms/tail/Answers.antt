-- `cba_opening::forms::tail` meets its contract: the full blocks, then the end of the form.
-- Assumes nothing.
use mathlib.Core.Path.{◌≡◌, ap, ◌∙◌}
use Prim.Native.Nat.{◌*◌}
use native.Mathlib.Omega.{arith}
use lib.ListN.{length, length-take, length-drop}
use Rattle.fips197.specs.Cipher.{cipher, inv_cipher}
use Rattle.cba_mode.specs.Open.{joined_attempt, separate_attempt}
use Rattle.cba_steps.specs.Halves.{halves_of}
use Rattle.cba_steps.specs.Endings.{blocks_of}
use Rattle.cba_opening.specs.Calls.{end_as}
use Rattle.cba_opening.proofs.AttemptLaws.{blocks-turn}
use Rattle.cba_opening.proofs.forms.tail.Goals as goal

pub open_blocks-s-requires : goal.open_blocks-s-requires
open_blocks-s-requires c = record { ciphertext_holds_k_blocks = omega (arith, c.blocks-k.ensures, c.requires.ends.within); out_holds_k_blocks = omega (arith, c.blocks-k.ensures, c.requires.ends.within, c.requires.rest_in_bounds) }

pub joined_end-requires : goal.joined_end-requires
joined_end-requires c =
    let h = rw c.in-Joined.is at c.requires.ends.closes in
    let k : c.blocks-k.result ≡ c.in-Joined.blocks = c.blocks-k.ensures ∙ ap blocks_of c.in-Joined.is in
    record { tag_in_bounds = simp (length-take, length-drop) (omega arith); rest_len_bound = simp (length-take, length-drop) (omega arith); rest_in_bounds = simp (length-take, length-drop) (omega (arith, c.requires.rest_in_bounds)) }

pub returns-in-Joined : goal.returns-in-Joined
unfolding end_as
returns-in-Joined c =
    let E = cipher c.args.e.now in
    let D = inv_cipher c.args.e.now in
    let k : c.blocks-k.result ≡ c.in-Joined.blocks = c.blocks-k.ensures ∙ ap blocks_of c.in-Joined.is in
    rw (c.in-Joined.is, ← k)
    (blocks-turn E D (joined_attempt E D (8 * length c.args.tag.now) c.args.tag.now) (length c.args.tag.now) (halves_of c.args.offset) c.args.rest.now c.args.out.now _ c.joined_end.new.out c.open_blocks-s.result c.blocks-k.result _
    (omega (arith, c.blocks-k.ensures, c.requires.ends.within)) c.requires.rest_in_bounds c.open_blocks-s.auto.out c.open_blocks-s.ensures c.joined_end.ensures c.joined_end.auto.out)

pub separate_end-requires : goal.separate_end-requires
separate_end-requires c =
    let h = rw c.in-Separate.is at c.requires.ends.closes in
    let k : c.blocks-k.result ≡ c.in-Separate.blocks = c.blocks-k.ensures ∙ ap blocks_of c.in-Separate.is in
    record { tag_len_bound = c.requires.tag_len_bound; tag_in_bounds = simp (length-take, length-drop) (omega (arith, c.blocks-k.ensures, c.requires.ends.within)); rest_len_bound = simp (length-take, length-drop) (omega arith); rest_in_bounds = simp (length-take, length-drop) (omega (arith, c.requires.rest_in_bounds)) }

pub returns-in-Separate : goal.returns-in-Separate
unfolding end_as
returns-in-Separate c =
    let E = cipher c.args.e.now in
    let D = inv_cipher c.args.e.now in
    let k : c.blocks-k.result ≡ c.in-Separate.blocks = c.blocks-k.ensures ∙ ap blocks_of c.in-Separate.is in
    rw (c.in-Separate.is, ← k)
    (blocks-turn E D (separate_attempt E D (8 * length c.args.tag.now) c.args.tag.now) (length c.args.tag.now) (halves_of c.args.offset) c.args.rest.now c.args.out.now _ c.separate_end.new.out c.open_blocks-s.result c.blocks-k.result _
    (omega (arith, c.blocks-k.ensures, c.requires.ends.within)) c.requires.rest_in_bounds c.open_blocks-s.auto.out c.open_blocks-s.ensures c.separate_end.ensures c.separate_end.auto.out)
