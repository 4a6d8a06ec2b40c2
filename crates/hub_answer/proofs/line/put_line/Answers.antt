-- `hub_answer::line::put_line` meets its contract.
-- Assumes nothing.
use borrow.Author.Rules.{rules}
use Rattle.hub_answer.proofs.LineLaws.{line-written}
use Rattle.hub_answer.proofs.line.put_line.Goals as goal

pub returns : goal.returns
returns c =
    let b = c.new-w.ensures.start in
    let p = line-written c.args.n c.args.answer c.args.res.now c.args.out.now b.0 b.1 c.decimal.ensures.wrote c.number.ensures.wrote c.string.ensures.wrote c.byte.ensures in
    search (rules, p)
