-- `hub_answer::answer::result_bytes` meets its contract.
-- Assumes nothing.
use borrow.Author.Rules.{rules}
use Rattle.hub_rules.proofs.AnswerLaws.{tag-most}
use Rattle.hub_answer.proofs.answer.result_bytes.Goals as goal

pub overflow_add-result : goal.overflow_add-result
overflow_add-result c =
    let m = tag-most c.args.set c.requires.sized.is-set in
    search (rules, m)
