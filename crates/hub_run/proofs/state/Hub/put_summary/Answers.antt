use borrow.Author.Rules.{rules}
use Rattle.text.proofs.WritingLaws.{wrote-then, wrote-puts}
use Rattle.hub_run.proofs.SummaryLaws.{summary-wrong, summary-right}
use Rattle.hub_run.proofs.state.Hub.put_summary.Goals as goal

pub returns-then-self : goal.returns-then-self
returns-then-self c = (search rules, summary-wrong c.args.self.now.state c.args.out.now (rw (← c.self.view_is) c.if-self.true))

pub returns : goal.returns
returns c =
    let p = wrote-puts c.args.out.now c.new-w.ensures.start.0 c.new-w.ensures.start.1 (wrote-then c.bytes.ensures c.put_rows.ensures.wrote) in
    (search rules, summary-right c.args.self.now.state c.args.out.now _ _ (rw (← c.self.view_is) c.if-self.false) (rw (← c.self.view_is, c.count.ensures) (p.0, search (rules, p.1))))
