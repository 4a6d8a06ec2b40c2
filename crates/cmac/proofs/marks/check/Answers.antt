-- `cmac::marks::check` meets its contract.
-- Assumes nothing.
use Rattle.std.proofs.Common.{◌≡◌, cond, arith, sym, length, take, length-take}
use Rattle.cmac_rules.specs.Marks.{CheckCall}
use Rattle.cmac_rules.specs.Theorems.{Given}
use Rattle.cmac_rules.proofs.MarkLaws.{answered-given}
use Rattle.cmac.proofs.AnswerLaws.{check-refused, compared}
use Rattle.cmac.proofs.marks.check.Goals as goal

pub returns-in_err-checks : goal.returns-in_err-checks
returns-in_err-checks c = check-refused c.args.key.now c.args.log.now c.args.mark.now _ _ c.from_residual.ensures.1 c.in_err-checks.ensures

pub code_under-t-requires : goal.code_under-t-requires
code_under-t-requires c =
    let passed : Given c.args.key.now (length c.args.log.now) (length c.args.mark.now) = answered-given _ _ _ (sym c.in_ok-checks.ensures) in
    passed.is-key

pub slice_bounds-t-end : goal.slice_bounds-t-end
slice_bounds-t-end c =
    let passed : Given c.args.key.now (length c.args.log.now) (length c.args.mark.now) = answered-given _ _ _ (sym c.in_ok-checks.ensures) in
    omega (arith, passed.most)

pub slice_bounds-same-end : goal.slice_bounds-same-end
slice_bounds-same-end c =
    let passed : Given c.args.key.now (length c.args.log.now) (length c.args.mark.now) = answered-given _ _ _ (sym c.in_ok-checks.ensures) in
    let start-size : let n = length c.args.mark.now in
    length (take n c.code_under-t.result) ≡ n = simp length-take (omega (arith, c.code_under-t.type_inv.1.0.1, passed.most)) in
    sym start-size

pub same-requires : goal.same-requires
same-requires c =
    let passed : Given c.args.key.now (length c.args.log.now) (length c.args.mark.now) = answered-given _ _ _ (sym c.in_ok-checks.ensures) in
    let start-size : let n = length c.args.mark.now in
    length (take n c.code_under-t.result) ≡ n = simp length-take (omega (arith, c.code_under-t.type_inv.1.0.1, passed.most)) in
    sym start-size

pub returns-then-not-same : goal.returns-then-not-same
returns-then-not-same c =
    let decided : CheckCall c.args.key.now c.args.log.now c.args.mark.now (cond c.same.result 0 8) = compared c.args.key.now c.args.log.now c.args.mark.now c.in_ok-checks.ensures _ c.code_under-t.ensures c.same.ensures in
    rw c.if-not-same.true at decided

pub returns : goal.returns
returns c =
    let decided : CheckCall c.args.key.now c.args.log.now c.args.mark.now (cond c.same.result 0 8) = compared c.args.key.now c.args.log.now c.args.mark.now c.in_ok-checks.ensures _ c.code_under-t.ensures c.same.ensures in
    rw c.if-not-same.false at decided
