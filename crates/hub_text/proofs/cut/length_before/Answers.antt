-- `hub_text::cut::length_before` meets its contract.
-- Assumes nothing.
use mathlib.Core.Path.{◌∙◌}
use native.Mathlib.Omega.{arith}
use borrow.Author.Rules.{rules}
use borrow.Author.Tests.{tests}
use lib.Dec.{eqb}
use Rattle.std.proofs.lemmas.Iterator.{YieldsList-from_slice}
use Rattle.std.proofs.lemmas.Iterator.Search.{position_from_yields_List}
use Rattle.hub_text.proofs.CutLaws.{before-found, before-most}
use Rattle.hub_text.proofs.cut.length_before.Goals as goal

pub returns : goal.returns
returns c =
    let s = c.args.s.now in
    let x = c.args.x in
    let found = position_from_yields_List (λ y. eqb y x) _ _ c.position.result c.position.ensures.ran (YieldsList-from_slice s cc) (λ y b q k. search (rules, tests)) in
    let e = c.unwrap_or.ensures ∙ before-found x s _ found in
    (e, omega (arith, e, before-most x s))
