-- `cba_sealing::begin::cover` meets its contract.
-- Assumes nothing.
use mathlib.Core.Path.{◌≡◌, sym, ap, ap₂, ◌∙◌}
use native.Mathlib.Omega.{arith}
use lib.ListN.{length, length-take}
use Rattle.fips197.specs.Cipher.{cipher}
use Rattle.cba_mode.specs.Offsets.{start}
use Rattle.cba_mode.specs.Seal.{R}
use Rattle.cba_sealing.specs.Calls.{data_tag}
use Rattle.cba_sealing.proofs.PieceLaws.{tag_taken}
use Rattle.cba_sealing.proofs.BeginLaws.{first_out}
use borrow.Author.Rules.{rules}
use Rattle.cba_sealing.proofs.begin.cover.Goals as goal

pub start-requires : goal.start-requires
start-requires c = rw c.first_bits.ensures (c.args.r.now.given.fits.2, c.args.r.now.given.fits.3)

pub slice_bounds-right_aligned-end : goal.slice_bounds-right_aligned-end
slice_bounds-right_aligned-end c =
    let l : length c.args.r.now.sum ≡ 16 = search rules in
    rw c.tag_bytes.ensures (sym (tag_taken _ _ c.args.r.now.given.fits.0 l))

pub right_aligned-requires : goal.right_aligned-requires
right_aligned-requires c = let l : length c.args.r.now.sum ≡ 16 = search rules in simp length-take (omega arith)

pub returns : goal.returns
unfolding R
returns c =
    let l : length c.args.r.now.sum ≡ 16 = search rules in
    let size : length c.encrypt-block.result ≡ 16 = c.encrypt-block.type_inv.1.0.1 in
    let r = c.encrypt-block.ensures ∙ ap (cipher _) c.nonce_block.ensures in
    record {
      offset-is = c.start.ensures ∙ ap₂ start r c.first_bits.ensures;
      data_is = rw c.tag_bytes.ensures at c.right_aligned.ensures;
      data_size = tag_taken _ _ c.args.r.now.given.fits.0 l;
      written = first_out (cipher c.args.e.now) c.args.r.now.p.tau c.args.r.now.p.capacity c.args.r.now.nonce.now (data_tag c.args.r.now.p c.args.r.now.sum) c.args.first.now _ c.args.out.now _ r size c.requires.first_len_bound c.mask.ensures;
    }
