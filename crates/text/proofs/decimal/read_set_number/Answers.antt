-- `text::decimal::read_set_number` meets its contract: after i turns n is the number of the first i digits.
-- Assumes nothing.
use mathlib.Core.Path.{refl, sym, ◌∙◌}
use native.Mathlib.Omega.{arith}
use Rattle.text.proofs.DecimalLaws.{read_none, read-room, read-turn, read_all, set-digit}
use Rattle.text.proofs.decimal.read_set_number.Goals as goal

pub loop-c-init : goal.loop-c-init
loop-c-init c = read_none _

pub overflow_mul-n : goal.overflow_mul-n
overflow_mul-n c =
    let set = sym c.is_set_number.ensures ∙ c.if-not-is_set_number.false in
    omega (arith, read-room c.loop-c.invariant set c.loop-c-test.true)

pub overflow_sub-c : goal.overflow_sub-c
overflow_sub-c c =
    let set = sym c.is_set_number.ensures ∙ c.if-not-is_set_number.false in
    (set-digit _ _ set c.loop-c-test.true).0

pub overflow_add-n : goal.overflow_add-n
overflow_add-n c =
    let set = sym c.is_set_number.ensures ∙ c.if-not-is_set_number.false in
    let d = set-digit c.args.w.now c.loop-c.c-index set c.loop-c-test.true in
    let r = read-room c.loop-c.invariant set c.loop-c-test.true in
    omega (arith, c.from.ensures)

pub loop-c-preserved : goal.loop-c-preserved
loop-c-preserved c =
    let set = sym c.is_set_number.ensures ∙ c.if-not-is_set_number.false in
    rw c.from.ensures (read-turn c.loop-c.invariant set c.loop-c-test.true)

pub returns : goal.returns
returns c =
    let set = sym c.is_set_number.ensures ∙ c.if-not-is_set_number.false in
    rw (set, read_all c.loop-c.invariant c.loop-c-test.false) refl
