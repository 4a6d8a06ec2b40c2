-- `plain::seal::seal_plain` meets its contract.
-- Assumes nothing.
use Rattle.std.proofs.Common.{◌≡◌, length, rules, sym}
use Rattle.plain.proofs.AnswerLaws.{seal_unknown, seal_stopped, seal_ready, seal_written}
use Rattle.plain.proofs.seal.seal_plain.Goals as goal

pub returns-in_default : goal.returns-in_default
returns-in_default c = seal_unknown c.args.set c.args.key.now c.args.nonce.now c.args.ad.now c.args.message.now c.args.out.now (cc)

pub returns-in_err-seal_checks : goal.returns-in_err-seal_checks
returns-in_err-seal_checks c =
    seal_stopped c.args.set c.in-Some.p (sym c.in-Some.ensures.case_is) c.args.key.now c.args.nonce.now c.args.ad.now c.args.message.now c.args.out.now
    _ _ c.from_residual.ensures.1 c.in_err-seal_checks.ensures

pub seal_accepted-requires : goal.seal_accepted-requires
seal_accepted-requires c =
    seal_ready c.args.set c.in-Some.p (sym c.in-Some.ensures.case_is) c.args.key.now c.args.nonce.now c.args.ad.now c.args.message.now c.args.out.now c.in_ok-seal_checks.ensures

pub returns : goal.returns
returns c =
    let kept : length c.seal_accepted.new.out ≡ length c.args.out.now = search rules in
    seal_written c.args.set c.in-Some.p (sym c.in-Some.ensures.case_is) c.args.key.now c.args.nonce.now c.args.ad.now c.args.message.now c.args.out.now _
    c.in_ok-seal_checks.ensures c.seal_accepted.ensures kept
