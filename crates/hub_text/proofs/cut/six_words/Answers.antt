-- `hub_text::cut::six_words` meets its contract.
-- Assumes nothing.
use mathlib.Core.Path.{sym, ◌∙◌}
use native.Mathlib.Omega.{arith}
use borrow.Author.Rules.{rules}
use borrow.Author.Tests.{tests}
use Rattle.hub_text.proofs.CutLaws.{left_none, left-next, left_end, more-left, none_left, too-few, too-many}
use Rattle.hub_text.proofs.cut.six_words.Goals as goal

pub returns-in_err-next-2 : goal.returns-in_err-next-2
returns-in_err-next-2 c =
    let e = c.split-words.ensures in
    let l0 = left_none _ c.args.line.now e.runs e.rest e.done e.closure (λ x b q k. search (rules, tests)) in
    let l1 = left-next l0 c.in_ok-next.field-0 c.next.new.self c.in_ok-next.ensures.steps in
    too-few c.args.line.now c.from_residual-in_err-next-2.ensures (left_end l1 c.next-2.new.self c.in_err-next-2.ensures.steps) (omega arith)

pub returns-in_err-next-3 : goal.returns-in_err-next-3
returns-in_err-next-3 c =
    let e = c.split-words.ensures in
    let l0 = left_none _ c.args.line.now e.runs e.rest e.done e.closure (λ x b q k. search (rules, tests)) in
    let l1 = left-next l0 c.in_ok-next.field-0 c.next.new.self c.in_ok-next.ensures.steps in
    let l2 = left-next l1 c.in_ok-next-2.field-0 c.next-2.new.self c.in_ok-next-2.ensures.steps in
    too-few c.args.line.now c.from_residual-in_err-next-3.ensures (left_end l2 c.next-3.new.self c.in_err-next-3.ensures.steps) (omega arith)

pub returns-in_err-next-4 : goal.returns-in_err-next-4
returns-in_err-next-4 c =
    let e = c.split-words.ensures in
    let l0 = left_none _ c.args.line.now e.runs e.rest e.done e.closure (λ x b q k. search (rules, tests)) in
    let l1 = left-next l0 c.in_ok-next.field-0 c.next.new.self c.in_ok-next.ensures.steps in
    let l2 = left-next l1 c.in_ok-next-2.field-0 c.next-2.new.self c.in_ok-next-2.ensures.steps in
    let l3 = left-next l2 c.in_ok-next-3.field-0 c.next-3.new.self c.in_ok-next-3.ensures.steps in
    too-few c.args.line.now c.from_residual-in_err-next-4.ensures (left_end l3 c.next-4.new.self c.in_err-next-4.ensures.steps) (omega arith)

pub returns-in_err-next-5 : goal.returns-in_err-next-5
returns-in_err-next-5 c =
    let e = c.split-words.ensures in
    let l0 = left_none _ c.args.line.now e.runs e.rest e.done e.closure (λ x b q k. search (rules, tests)) in
    let l1 = left-next l0 c.in_ok-next.field-0 c.next.new.self c.in_ok-next.ensures.steps in
    let l2 = left-next l1 c.in_ok-next-2.field-0 c.next-2.new.self c.in_ok-next-2.ensures.steps in
    let l3 = left-next l2 c.in_ok-next-3.field-0 c.next-3.new.self c.in_ok-next-3.ensures.steps in
    let l4 = left-next l3 c.in_ok-next-4.field-0 c.next-4.new.self c.in_ok-next-4.ensures.steps in
    too-few c.args.line.now c.from_residual-in_err-next-5.ensures (left_end l4 c.next-5.new.self c.in_err-next-5.ensures.steps) (omega arith)

pub returns-in_err-next-6 : goal.returns-in_err-next-6
returns-in_err-next-6 c =
    let e = c.split-words.ensures in
    let l0 = left_none _ c.args.line.now e.runs e.rest e.done e.closure (λ x b q k. search (rules, tests)) in
    let l1 = left-next l0 c.in_ok-next.field-0 c.next.new.self c.in_ok-next.ensures.steps in
    let l2 = left-next l1 c.in_ok-next-2.field-0 c.next-2.new.self c.in_ok-next-2.ensures.steps in
    let l3 = left-next l2 c.in_ok-next-3.field-0 c.next-3.new.self c.in_ok-next-3.ensures.steps in
    let l4 = left-next l3 c.in_ok-next-4.field-0 c.next-4.new.self c.in_ok-next-4.ensures.steps in
    let l5 = left-next l4 c.in_ok-next-5.field-0 c.next-5.new.self c.in_ok-next-5.ensures.steps in
    too-few c.args.line.now c.from_residual-in_err-next-6.ensures (left_end l5 c.next-6.new.self c.in_err-next-6.ensures.steps) (omega arith)

pub returns-then-is_some : goal.returns-then-is_some
returns-then-is_some c =
    let e = c.split-words.ensures in
    let l0 = left_none _ c.args.line.now e.runs e.rest e.done e.closure (λ x b q k. search (rules, tests)) in
    let l1 = left-next l0 c.in_ok-next.field-0 c.next.new.self c.in_ok-next.ensures.steps in
    let l2 = left-next l1 c.in_ok-next-2.field-0 c.next-2.new.self c.in_ok-next-2.ensures.steps in
    let l3 = left-next l2 c.in_ok-next-3.field-0 c.next-3.new.self c.in_ok-next-3.ensures.steps in
    let l4 = left-next l3 c.in_ok-next-4.field-0 c.next-4.new.self c.in_ok-next-4.ensures.steps in
    let l5 = left-next l4 c.in_ok-next-5.field-0 c.next-5.new.self c.in_ok-next-5.ensures.steps in
    let l6 = left-next l5 c.in_ok-next-6.field-0 c.next-6.new.self c.in_ok-next-6.ensures.steps in
    too-many c.args.line.now (more-left l6 c.next-7.result c.next-7.new.self c.next-7.ensures.steps (sym c.is_some.ensures ∙ c.if-is_some.true))

pub returns : goal.returns
returns c =
    let e = c.split-words.ensures in
    let l0 = left_none _ c.args.line.now e.runs e.rest e.done e.closure (λ x b q k. search (rules, tests)) in
    let l1 = left-next l0 c.in_ok-next.field-0 c.next.new.self c.in_ok-next.ensures.steps in
    let l2 = left-next l1 c.in_ok-next-2.field-0 c.next-2.new.self c.in_ok-next-2.ensures.steps in
    let l3 = left-next l2 c.in_ok-next-3.field-0 c.next-3.new.self c.in_ok-next-3.ensures.steps in
    let l4 = left-next l3 c.in_ok-next-4.field-0 c.next-4.new.self c.in_ok-next-4.ensures.steps in
    let l5 = left-next l4 c.in_ok-next-5.field-0 c.next-5.new.self c.in_ok-next-5.ensures.steps in
    let l6 = left-next l5 c.in_ok-next-6.field-0 c.next-6.new.self c.in_ok-next-6.ensures.steps in
    none_left l6 c.next-7.result c.next-7.new.self c.next-7.ensures.steps (sym c.is_some.ensures ∙ c.if-is_some.false)
