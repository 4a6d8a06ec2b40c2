-- `cmac::marks::make` meets its contract.
-- Assumes nothing.
use Rattle.std.proofs.Common.{arith, sym, length, length-take}
use Rattle.cmac_rules.specs.Theorems.{Given}
use Rattle.cmac_rules.proofs.MarkLaws.{answered-given}
use Rattle.cmac.proofs.AnswerLaws.{make_refused, make_no-room, made}
use Rattle.cmac.proofs.marks.make.Goals as goal

pub returns-in_err-checks : goal.returns-in_err-checks
returns-in_err-checks c = make_refused c.args.key.now c.args.log.now c.args.n c.args.out.now _ _ c.from_residual.ensures.1 c.in_err-checks.ensures

pub returns-then-out-n : goal.returns-then-out-n
returns-then-out-n c = make_no-room c.args.key.now c.args.log.now c.args.n c.args.out.now c.in_ok-checks.ensures c.if-out-n.true

pub code_under-t-requires : goal.code_under-t-requires
code_under-t-requires c =
    let passed : Given c.args.key.now (length c.args.log.now) c.args.n = answered-given _ _ _ (sym c.in_ok-checks.ensures) in
    passed.is-key

pub slice_bounds-t-end : goal.slice_bounds-t-end
slice_bounds-t-end c =
    let passed : Given c.args.key.now (length c.args.log.now) c.args.n = answered-given _ _ _ (sym c.in_ok-checks.ensures) in
    omega (arith, passed.most)

pub slice_bounds-put-end : goal.slice_bounds-put-end
slice_bounds-put-end c =
    let passed : Given c.args.key.now (length c.args.log.now) c.args.n = answered-given _ _ _ (sym c.in_ok-checks.ensures) in
    simp length-take (omega (arith, c.code_under-t.type_inv.1.0.1, passed.most))

pub put-requires : goal.put-requires
put-requires c = simp length-take (omega (arith, c.if-out-n.false))

pub returns : goal.returns
returns c = made c.args.key.now c.args.log.now c.args.n c.args.out.now c.in_ok-checks.ensures _ _ c.if-out-n.false c.code_under-t.ensures c.put.ensures
