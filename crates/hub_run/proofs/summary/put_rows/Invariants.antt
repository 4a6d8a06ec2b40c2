use Rattle.hub_run.proofs.SummaryLaws.{Rows}
use Rattle.hub_run.proofs.summary.put_rows.Given as goal

abbrev pub invariant-loop-i : goal.invariant-loop-i
invariant-loop-i l = Rows l.counts l.initial.w l.i l.w
