-- `hub_answer::answer::reply_to` meets its contract.
-- Assumes nothing.
use Prim.Native.Nat.{◌+◌, ◌≤◌}
use borrow.Author.Rules.{rules}
use lib.ListN.{length}
use Rattle.hub_grammar.proofs.Grammar.{parse-long}
use Rattle.hub_answer.proofs.AnswerLaws.{reply_malformed, read-refused, read-sized, read-accepted, handed_on}
use Rattle.hub_answer.proofs.answer.reply_to.Goals as goal

pub returns-then-line-gt-LINE_LIMIT : goal.returns-then-line-gt-LINE_LIMIT
returns-then-line-gt-LINE_LIMIT c = reply_malformed c.args.res.now (parse-long c.args.line.now (search rules))

pub returns-in_default : goal.returns-in_default
returns-in_default c = reply_malformed c.args.res.now c.in_default.ensures.0

pub returns-in_err-call : goal.returns-in_err-call
returns-in_err-call c =
    let room : length c.read_line.new.bytes + 16 ≤ length c.args.res.now = search rules in
    handed_on c.from_residual.result c.in_err-call.field-0.0 c.from_residual.ensures.1 (read-refused c.in-Some.ensures room _ c.in_err-call.ensures)

pub result_bytes-requires-clause-sized : goal.result_bytes-requires-clause-sized
result_bytes-requires-clause-sized c =
    let room : length c.read_line.new.bytes + 16 ≤ length c.args.res.now = search rules in
    read-sized c.in-Some.ensures room c.in_ok-call.ensures

pub returns : goal.returns
returns c =
    let room : length c.read_line.new.bytes + 16 ≤ length c.args.res.now = search rules in
    read-accepted c.in-Some.ensures room c.in_ok-call.ensures c.result_bytes.ensures (search rules)
