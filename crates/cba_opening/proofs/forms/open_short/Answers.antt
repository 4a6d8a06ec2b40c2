-- `cba_opening::forms::open_short` meets its contract.
-- Assumes nothing.
use mathlib.Core.Path.{ap}
use Prim.Native.Nat.{ℕ, ◌-◌}
use native.Mathlib.Omega.{arith}
use lib.ListN.{length, length-take, length-drop}
use Rattle.fips197.specs.Cipher.{cipher, inv_cipher}
use Rattle.cba_sealing.specs.Calls.{data_tag}
use Rattle.cba_opening.proofs.OpenForms.{short-turn}
use Rattle.cba_opening.proofs.forms.open_short.Goals as goal

pub overflow_sub-n : goal.overflow_sub-n
overflow_sub-n c = omega (arith, c.tag_bytes-t.ensures, c.requires.least)

pub slice_bounds-first-end : goal.slice_bounds-first-end
slice_bounds-first-end c = simp length-take (omega arith)

pub cover-b-requires : goal.cover-b-requires
cover-b-requires c = record { first_len_bound = simp length-take (omega (arith, c.tag_bytes-t.ensures, c.requires.no_longer_than_first, c.args.r.now.given.fits.2)); first_in_bounds = simp length-take (omega (arith, c.tag_bytes-t.ensures, c.requires.room)) }

pub slice_bounds-same-end-2 : goal.slice_bounds-same-end-2
slice_bounds-same-end-2 c = simp length-take (omega (arith, c.short_tag-block.type_inv.1.0.1, c.tag_bytes-t.ensures, c.args.r.now.given.fits.0))

pub same-requires : goal.same-requires
same-requires c = simp (length-take, length-drop) (omega (arith, c.short_tag-block.type_inv.1.0.1, c.tag_bytes-t.ensures, c.args.r.now.given.fits.0, c.requires.least))

pub returns : goal.returns
returns c =
    short-turn (cipher c.args.e.now) (inv_cipher c.args.e.now) c.args.r.now.p.tau c.args.r.now.p.capacity c.args.r.now.nonce.now (data_tag c.args.r.now.p c.args.r.now.sum) c.args.ciphertext.now c.args.out.now c.cover-b.new.out _ _ _ _ _ _
    c.requires.no_longer_than_first (ap (λ (n : ℕ). length c.args.ciphertext.now - n) c.tag_bytes-t.ensures) c.tag_bytes-t.ensures c.cover-b.ensures.written c.cover-b.ensures.data_is c.cover-b.ensures.offset-is c.short_tag-block.ensures c.same.ensures
