-- `hub_text::request::read_line` meets its contract.
-- Assumes nothing.
use mathlib.Core.Path.{refl, sym, ◌∙◌}
use Rattle.hub_text.proofs.RequestLaws.{parse_other, no_act, no_set, no-values, parse-asked, words-fit}
use Rattle.hub_text.proofs.request.read_line.Goals as goal

pub returns-in_err-w : goal.returns-in_err-w
returns-in_err-w c = rw c.from_residual.ensures (parse_other c.args.line.now c.requires.0 c.in_err-w.ensures, refl)

pub returns-in_err-act : goal.returns-in_err-act
returns-in_err-act c =
    rw c.from_residual-in_err-act.ensures (no_act c.args.line.now c.requires.0 c.in_ok-w.w c.in_ok-w.ensures (sym c.in_err-act.ensures), refl)

pub returns-in_err-set : goal.returns-in_err-set
returns-in_err-set c =
    rw c.from_residual-in_err-set.ensures (no_set c.args.line.now c.requires.0 c.in_ok-w.w c.in_ok-w.ensures (sym c.in_err-set.ensures), refl)

pub returns-then-not-have_values : goal.returns-then-not-have_values
returns-then-not-have_values c =
    (no-values c.args.line.now c.requires.0 c.in_ok-w.w c.in_ok-w.ensures (sym c.have_values.ensures ∙ c.if-not-have_values.true), refl)

pub read_strings-requires-clause-fit : goal.read_strings-requires-clause-fit
read_strings-requires-clause-fit c = words-fit c.args.line.now c.requires.0 c.in_ok-w.w c.in_ok-w.ensures

pub returns : goal.returns
returns c =
    let values = sym c.have_values.ensures ∙ c.if-not-have_values.false in
    let p = parse-asked c.args.line.now c.requires.0 c.in_ok-w.w c.in_ok-w.ensures _ _ (sym c.in_ok-act.ensures) (sym c.in_ok-set.ensures) values in
    record { asked_is = p ∙ rw c.read_strings.ensures.is refl; placed = c.read_strings.ensures.placed }
