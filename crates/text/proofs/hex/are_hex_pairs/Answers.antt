-- `text::hex::are_hex_pairs` meets its contract.
-- Assumes nothing.
use mathlib.Core.Path.{◌∙◌}
use borrow.Author.Rules.{rules}
use borrow.Author.Tests.{tests, eq-eqb, ne_eqb}
use Rattle.std.proofs.lemmas.Iterator.{YieldsList-from_slice}
use Rattle.std.proofs.lemmas.Iterator.Search.{all_from_yields_List}
use Rattle.text.specs.Numerals.{is_hex_digit}
use Rattle.text.proofs.HexLaws.{all_pairs, odd_pairs}
use Rattle.text.proofs.hex.are_hex_pairs.Goals as goal

pub returns-then-w-eq0 : goal.returns-then-w-eq0
returns-then-w-eq0 c =
    all_from_yields_List is_hex_digit _ _ _ c.all.ensures.ran (YieldsList-from_slice c.args.w.now cc) (λ x b q k. search (rules, tests))
    ∙ all_pairs c.args.w.now (eq-eqb _ 0 c.if-w-eq0.true)

pub returns-else-w-eq0 : goal.returns-else-w-eq0
returns-else-w-eq0 c = rw (ne_eqb _ 0 c.if-w-eq0.false) (odd_pairs c.args.w.now c.if-w-eq0.false)
