use borrow.Author.Rules.{rules}
use Rattle.hub_run.proofs.SummaryLaws.{rows_none, rows-turn}
use Rattle.hub_run.proofs.summary.put_rows.Goals as goal

pub loop-i-init : goal.loop-i-init
loop-i-init c = rows_none _ _ (search rules)

pub loop-i-preserved : goal.loop-i-preserved
loop-i-preserved c = rows-turn c.loop-i.invariant (search rules) (search rules) c.put_row.ensures.most c.put_row.ensures.wrote
