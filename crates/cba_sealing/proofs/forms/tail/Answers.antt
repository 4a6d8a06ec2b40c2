-- `cba_sealing::forms::tail` meets its contract: the full blocks, then the end of the form.
-- Assumes nothing.
use mathlib.Core.Path.{◌≡◌, ap, ◌∙◌}
use native.Mathlib.Omega.{arith}
use lib.ListN.{length-take, length-drop}
use Rattle.fips197.specs.Cipher.{cipher}
use Rattle.cba_sealing.specs.Calls.{tail_as}
use Rattle.cba_steps.specs.Halves.{halves_of}
use Rattle.cba_steps.specs.Endings.{blocks_of}
use Rattle.cba_sealing.proofs.TailLaws.{joined-tail-turn, separate_tail-turn}
use Rattle.cba_sealing.proofs.forms.tail.Goals as goal

pub sealed_blocks-s-requires : goal.sealed_blocks-s-requires
sealed_blocks-s-requires c = record { message_holds_k_blocks = omega (arith, c.blocks-k.ensures, c.requires.ends.within); out_holds_k_blocks = omega (arith, c.blocks-k.ensures, c.requires.ends.within, c.requires.tag_in_bounds) }

pub joined_end-requires : goal.joined_end-requires
joined_end-requires c =
    let h = rw c.in-Joined.is at c.requires.ends.closes in
    let k : c.blocks-k.result ≡ c.in-Joined.blocks = c.blocks-k.ensures ∙ ap blocks_of c.in-Joined.is in
    record { rest_holds_a_block = simp (length-take, length-drop) (omega arith); tag_len_bound = simp (length-take, length-drop) (omega arith); tag_in_bounds = simp (length-take, length-drop) (omega (arith, c.requires.tag_in_bounds)) }

pub returns-in-Joined : goal.returns-in-Joined
unfolding tail_as
returns-in-Joined c =
    let h = rw c.in-Joined.is at c.requires.ends.closes in
    let k : c.blocks-k.result ≡ c.in-Joined.blocks = c.blocks-k.ensures ∙ ap blocks_of c.in-Joined.is in
    rw (c.in-Joined.is, ← k)
    (joined-tail-turn (cipher c.args.e.now) (halves_of c.args.offset) c.args.tag.now c.args.message.now c.args.out.now _ c.joined_end.new.out _ _ c.blocks-k.result
    (omega arith) (omega arith) c.requires.tag_in_bounds c.sealed_blocks-s.auto.out c.sealed_blocks-s.ensures.offset-is c.sealed_blocks-s.ensures.sum_is c.sealed_blocks-s.ensures.written c.joined_end.ensures c.joined_end.auto.out)

pub separate_end-requires : goal.separate_end-requires
separate_end-requires c =
    let h = rw c.in-Separate.is at c.requires.ends.closes in
    let k : c.blocks-k.result ≡ c.in-Separate.blocks = c.blocks-k.ensures ∙ ap blocks_of c.in-Separate.is in
    record { tag_len_bound = c.requires.tag_len_bound; last_len_bound = simp (length-take, length-drop) (omega arith); tag_in_bounds = simp (length-take, length-drop) (omega (arith, c.requires.ends.within, c.requires.tag_in_bounds, c.blocks-k.ensures)) }

pub returns-in-Separate : goal.returns-in-Separate
unfolding tail_as
returns-in-Separate c =
    let h = rw c.in-Separate.is at c.requires.ends.closes in
    let k : c.blocks-k.result ≡ c.in-Separate.blocks = c.blocks-k.ensures ∙ ap blocks_of c.in-Separate.is in
    rw (c.in-Separate.is, ← k)
    (separate_tail-turn (cipher c.args.e.now) (halves_of c.args.offset) c.args.tag.now c.args.message.now c.args.out.now _ c.separate_end.new.out _ _ c.blocks-k.result
    (omega (arith, c.requires.ends.within, c.blocks-k.ensures)) (omega arith) c.requires.tag_in_bounds c.sealed_blocks-s.auto.out c.sealed_blocks-s.ensures.offset-is c.sealed_blocks-s.ensures.sum_is c.sealed_blocks-s.ensures.written c.separate_end.ensures c.separate_end.auto.out)
