use mathlib.Core.Path.{sym, ◌∙◌}
use borrow.Author.Rules.{rules}
use Rattle.hub_run.proofs.SummaryLaws.{ending-settled, ending-pending, pending_open}
use Rattle.hub_run.proofs.state.Hub.finish.Goals as goal

pub returns-then-not-is_pending : goal.returns-then-not-is_pending
returns-then-not-is_pending c = (search rules, ending-settled c.args.self.state c.args.out.now _ _ (sym c.is_pending.ensures ∙ c.if-not-is_pending.true) c.put_summary.ensures.1)

pub end_last-at-requires-clause-line_value : goal.end_last-at-requires-clause-line_value
end_last-at-requires-clause-line_value c = pending_open c.args.self.state (sym c.is_pending.ensures ∙ c.if-not-is_pending.false)

pub returns : goal.returns
returns c =
    let w = ending-pending c.args.self c.args.out.now (sym c.is_pending.ensures ∙ c.if-not-is_pending.false) c.end_last-at.ensures.1 (search rules) c.put_summary-2.ensures.1 in
    (search rules, w)
