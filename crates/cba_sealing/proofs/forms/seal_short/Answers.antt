-- `cba_sealing::forms::seal_short` meets its contract.
-- Assumes nothing.
use mathlib.Core.Path.{sym}
use native.Mathlib.Omega.{arith}
use lib.ListN.{length-take, length-drop}
use Rattle.fips197.specs.Cipher.{cipher}
use Rattle.cba_sealing.specs.Calls.{data_tag}
use Rattle.cba_sealing.proofs.PieceLaws.{tag_fits, tag_taken}
use Rattle.cba_sealing.proofs.SealForms.{short-turn}
use Rattle.cba_sealing.proofs.forms.seal_short.Goals as goal

pub cover-b-requires : goal.cover-b-requires
cover-b-requires c = record { first_len_bound = omega (arith, c.requires.no_longer_than_first, c.args.r.now.given.fits.2); first_in_bounds = omega (arith, c.requires.room) }

pub slice_bounds-short_tag-end-2 : goal.slice_bounds-short_tag-end-2
slice_bounds-short_tag-end-2 c = simp length-take (omega (arith, c.cover-b.auto.out, c.requires.room))

pub slice_bounds-put-end-2 : goal.slice_bounds-put-end-2
slice_bounds-put-end-2 c = rw c.tag_bytes.ensures (sym (tag_taken _ _ c.args.r.now.given.fits.0 c.short_tag-block.type_inv.1.0.1))

pub put-requires : goal.put-requires
put-requires c = simp (length-take, length-drop) (omega (arith, c.tag_bytes.ensures, c.cover-b.auto.out, c.requires.room))

pub returns : goal.returns
returns c =
    short-turn (cipher c.args.e.now) c.args.r.now.p.tau c.args.r.now.p.capacity c.args.r.now.nonce.now (data_tag c.args.r.now.p c.args.r.now.sum) c.args.message.now c.args.out.now _ _ _ c.short_tag-block.result c.put.new.out c.requires.no_longer_than_first
    c.cover-b.ensures.written c.cover-b.auto.out c.requires.room (tag_fits c.args.r.now.given.fits.0) c.cover-b.ensures.data_is c.cover-b.ensures.offset-is c.short_tag-block.ensures c.short_tag-block.type_inv.1.0.1
    (rw c.tag_bytes.ensures at c.put.ensures) c.put.auto.out
