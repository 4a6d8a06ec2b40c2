use borrow.Author.Rules.{rules}
use Rattle.hub_run.proofs.SummaryLaws.{row-none, row-some}
use Rattle.hub_run.proofs.summary.put_row.Goals as goal

pub returns-then-count-eq0-clause-wrote : goal.returns-then-count-eq0-clause-wrote
returns-then-count-eq0-clause-wrote c = row-none _ _ c.if-count-eq0.true (search rules)

pub returns-clause-wrote : goal.returns-clause-wrote
returns-clause-wrote c = row-some _ _ c.if-count-eq0.false c.decimal.ensures.wrote c.number.ensures.wrote c.byte.ensures
