-- `cba_sealing::forms::seal_long` meets its contract: C_0, then the tail in the form that the length takes.
-- Assumes nothing.
use mathlib.Core.Path.{sym}
use Prim.Native.Nat.{◌≤◌}
use native.Mathlib.Omega.{arith}
use lib.ListN.{length, length-take}
use Rattle.octets.proofs.Parts.{rest-size}
use Rattle.fips197.specs.Cipher.{cipher}
use Rattle.cba_sealing.specs.Calls.{data_tag}
use Rattle.cba_sealing.proofs.PieceLaws.{take-size, tag_fits}
use Rattle.cba_sealing.proofs.BeginLaws.{written-tag}
use Rattle.cba_sealing.proofs.SealForms.{tag-size, long-turn}
use Rattle.cba_sealing.proofs.forms.seal_long.Goals as goal

pub ending_of-end-requires : goal.ending_of-end-requires
ending_of-end-requires c = record { l_lt_n = omega (arith, c.first_bytes-l.ensures, c.requires.longer_than_first); t_bound = rw c.tag_bytes-t.ensures (tag_fits c.args.r.now.given.fits.0) }

pub slice_bounds-cover-end : goal.slice_bounds-cover-end
slice_bounds-cover-end c =
    let first_there : c.first_bytes-l.result ≤ length c.args.message.now = omega (arith, c.first_bytes-l.ensures, c.requires.longer_than_first) in
    sym (take-size _ _ first_there)

pub cover-b-requires : goal.cover-b-requires
cover-b-requires c =
    let first_there : c.first_bytes-l.result ≤ length c.args.message.now = omega (arith, c.first_bytes-l.ensures, c.requires.longer_than_first) in
    let s = take-size c.first_bytes-l.result c.args.message.now first_there in
    record { first_len_bound = omega (arith, c.args.r.now.given.fits.2); first_in_bounds = omega (arith, c.requires.longer_than_first, c.requires.room) }

pub slice_bounds-full_tag-end-2 : goal.slice_bounds-full_tag-end-2
slice_bounds-full_tag-end-2 c =
    let first_there : c.first_bytes-l.result ≤ length c.args.message.now = omega (arith, c.first_bytes-l.ensures, c.requires.longer_than_first) in
    simp length-take (omega (arith, c.cover-b.auto.out, first_there, c.requires.room))

pub full_tag-whole-requires : goal.full_tag-whole-requires
full_tag-whole-requires c = simp length-take (omega (arith, c.first_bytes-l.ensures, c.args.r.now.given.fits.2))

pub overflow_sub-t : goal.overflow_sub-t
overflow_sub-t c = omega (arith, c.tag_bytes-t.ensures, c.args.r.now.given.fits.0)

pub slice_bounds-tail-end : goal.slice_bounds-tail-end
slice_bounds-tail-end c = omega (arith, c.full_tag-whole.type_inv.1.0.1)

pub slice_bounds-tail-count-3 : goal.slice_bounds-tail-count-3
slice_bounds-tail-count-3 c =
    let first_there : c.first_bytes-l.result ≤ length c.args.message.now = omega (arith, c.first_bytes-l.ensures, c.requires.longer_than_first) in
    let out-there : c.first_bytes-l.result ≤ length c.cover-b.new.out = omega (arith, first_there, c.cover-b.auto.out, c.requires.room) in
    out-there

pub slice_bounds-tail-start-3 : goal.slice_bounds-tail-start-3
slice_bounds-tail-start-3 c =
    let first_there : c.first_bytes-l.result ≤ length c.args.message.now = omega (arith, c.first_bytes-l.ensures, c.requires.longer_than_first) in
    let out-there : c.first_bytes-l.result ≤ length c.cover-b.new.out = omega (arith, first_there, c.cover-b.auto.out, c.requires.room) in
    out-there

pub tail-requires : goal.tail-requires
tail-requires c =
    let first_there : c.first_bytes-l.result ≤ length c.args.message.now = omega (arith, c.first_bytes-l.ensures, c.requires.longer_than_first) in
    let f = tag_fits c.args.r.now.given.fits.0 in
    let s = tag-size c.full_tag-whole.result c.tag_bytes-t.result c.full_tag-whole.type_inv.1.0.1 (rw c.tag_bytes-t.ensures f) in
    record { ends = rw (s, rest-size c.args.message.now) c.ending_of-end.ensures.ends; tag_len_bound = rw (s, c.tag_bytes-t.ensures) f; tag_in_bounds = rw (s, rest-size c.args.message.now, rest-size _) (omega (arith, c.tag_bytes-t.ensures, c.cover-b.auto.out, first_there, c.requires.room)) }

pub returns : goal.returns
returns c =
    let first_there : c.first_bytes-l.result ≤ length c.args.message.now = omega (arith, c.first_bytes-l.ensures, c.requires.longer_than_first) in
    let there = first_there in
    let s = take-size c.first_bytes-l.result c.args.message.now there in
    let f = tag_fits c.args.r.now.given.fits.0 in
    let T =
    written-tag (cipher c.args.e.now) c.args.r.now.p.tau c.args.r.now.p.capacity c.args.r.now.nonce.now (data_tag c.args.r.now.p c.args.r.now.sum) _ c.args.out.now _ _ c.full_tag-whole.result c.cover-b.ensures.written c.cover-b.auto.out (omega (arith, c.requires.room))
    c.cover-b.ensures.data_is c.cover-b.ensures.data_size (omega arith) f (rw (sym s) at c.full_tag-whole.ensures) in
    long-turn (cipher c.args.e.now) c.args.r.now.p.tau c.args.r.now.p.capacity c.args.r.now.nonce.now (data_tag c.args.r.now.p c.args.r.now.sum) c.tail.new.out
    (record {
      bits = c.first_bytes-l.ensures;
      tags = c.tag_bytes-t.ensures;
      longer = there;
      room = c.requires.room;
      at_most = f;
      head = c.cover-b.ensures.written;
      kept = c.cover-b.auto.out;
      whole-size = c.full_tag-whole.type_inv.1.0.1;
      holds = T.0;
      size = T.1;
      start = c.cover-b.ensures.offset-is;
    })
    c.ending_of-end.ensures.form
    c.ending_of-end.ensures.ends
    c.tail.ensures
    c.tail.auto.out
