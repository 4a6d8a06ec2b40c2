-- `hub_answer::answer::answer_line` meets its contract.
-- Assumes nothing.
use Rattle.hub_answer.proofs.AnswerLaws.{answered-ok, answered_not}
use Rattle.hub_answer.proofs.answer.answer_line.Goals as goal

pub returns-in-Ok : goal.returns-in-Ok
returns-in-Ok c = answered-ok c.args.n _ c.args.line.now _ c.args.out.now _ c.in-Ok.a c.in-Ok.ensures c.put_line.ensures

pub returns-in-Err : goal.returns-in-Err
returns-in-Err c =
    answered_not c.args.n _ _ c.args.line.now _ c.args.out.now _ c.in-Err.refusal c.in-Err.ensures c.into.ensures c.put_line-in-Err.ensures
