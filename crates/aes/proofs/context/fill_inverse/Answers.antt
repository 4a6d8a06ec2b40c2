-- `aes::context::fill_inverse` meets its contract: the round keys are written one after the other, i + 1 of them after i turns.
-- Assumes nothing.
use mathlib.Core.Path.{◌≡◌, sym, ap₂, ◌∙◌}
use mathlib.Core.List.{List, ◌++◌}
use Prim.Native.Nat.{ℕ, suc, ◌*◌}
use native.Mathlib.Numerals.{add-one}
use native.Mathlib.Omega.{arith}
use lib.ListN.{length, length-take, length-drop}
use lib.Seq.{length-take-le}
use Rattle.aes_tables.specs.Round.{inverses}
use Rattle.fips197.specs.Equivalent.{modified, key_expansion_eic}
use Rattle.aes.specs.Context.{held}
use Rattle.aes.proofs.ContextLaws.{length-inverses, blank_long, inverse-first}
use Rattle.aes.proofs.FillLaws.{Written, write_none, write_tables, write_more, written_same, write_all, first-written, inner-written, last_written}
use Rattle.std.proofs.Common.{rules}
use Rattle.aes.proofs.context.fill_inverse.Goals as goal

pub slice_bounds-put-count : goal.slice_bounds-put-count
slice_bounds-put-count c =
    let blank : length c.args.inv.now ≡ 2544 = blank_long inverses 2304 _ length-inverses c.requires in
    omega (arith, blank)

pub slice_bounds-put-start : goal.slice_bounds-put-start
slice_bounds-put-start c =
    let blank : length c.args.inv.now ≡ 2544 = blank_long inverses 2304 _ length-inverses c.requires in
    omega (arith, blank)

pub put-requires : goal.put-requires
put-requires c =
    let blank : length c.args.inv.now ≡ 2544 = blank_long inverses 2304 _ length-inverses c.requires in
    simp (length-take, length-drop) (omega (arith, blank))

pub loop-i-init : goal.loop-i-init
loop-i-init c =
    let blank : length c.args.inv.now ≡ 2544 = blank_long inverses 2304 _ length-inverses c.requires in
    let long : length c.keys-w.result.now ≡ 16 * suc c.rounds-nr.result = c.keys-w.ensures.result_len ∙ omega (arith, c.rounds-nr.ensures.rounds.0) in
    let none = write_none c.keys-w.result.now _ _ (omega (arith, c.rounds-nr.ensures.rounds.1)) c.rounds-nr.ensures.rounds.2 long blank c.requires in
    write_more none _ _ (omega arith) (first-written _ _ long) c.put.ensures c.inv-1.given.1

pub slice_bounds-inv_mix_key-end-in-loop-i : goal.slice_bounds-inv_mix_key-end-in-loop-i
slice_bounds-inv_mix_key-end-in-loop-i c = sym (length-take-le 2048 c.loop-i.inv (omega (arith, c.loop-i.invariant.long)))

pub inv_mix_key-requires : goal.inv_mix_key-requires
inv_mix_key-requires c = record { entries = inverse-first _ _ (write_tables c.loop-i.invariant); n_in_bounds = search rules }

pub loop-i-preserved : goal.loop-i-preserved
loop-i-preserved c =
    let key = c.write-m.ensures ∙ c.inv_mix_key.ensures ∙ inner-written _ _ c.loop-i.invariant.size _ c.loop-i-test.true in
    write_more c.loop-i.invariant _ _ (omega (arith, c.loop-i-test.true)) key c.put-in-loop-i.ensures c.inv-in-loop-i-1.given.1

pub returns : goal.returns
unfolding key_expansion_eic
returns c =
    let all_but_last : Written c.keys-w.result.now c.rounds-nr.result c.rounds-nr.result c.loop-i.inv = written_same c.loop-i.invariant (omega (arith, c.loop-i.auto.i-end, c.loop-i-test.false, c.loop-i.invariant.some)) in
    let v = all_but_last in
    record {
      good = c.rounds-nr.ensures.key_good;
      context =
          write_all (write_more v _ _ (omega arith) (last_written _ _ v.size) c.put-2.ensures c.inv-2-1.given.1) (add-one _)
          ∙ ap₂ (λ (w : List ℕ) (n : ℕ). inverses ++ held (modified w n)) c.keys-w.ensures.result_value c.rounds-nr.ensures.rounds.0;
    }
