-- `plain::open::open_plain` meets its contract.
-- Assumes nothing.
use Rattle.std.proofs.Common.{◌≡◌, length, rules, sym}
use Rattle.plain.proofs.AnswerLaws.{open_unknown, open_stopped, open_ready, open_decided}
use Rattle.plain.proofs.open.open_plain.Goals as goal

pub returns-in_default : goal.returns-in_default
returns-in_default c = open_unknown c.args.set c.args.key.now c.args.nonce.now c.args.ad.now c.args.ciphertext.now c.args.out.now (cc)

pub returns-in_err-open_checks : goal.returns-in_err-open_checks
returns-in_err-open_checks c =
    open_stopped c.args.set c.in-Some.p (sym c.in-Some.ensures.case_is) c.args.key.now c.args.nonce.now c.args.ad.now c.args.ciphertext.now c.args.out.now
    _ _ c.from_residual.ensures.1 c.in_err-open_checks.ensures

pub open_accepted-requires : goal.open_accepted-requires
open_accepted-requires c =
    open_ready c.args.set c.in-Some.p (sym c.in-Some.ensures.case_is) c.args.key.now c.args.nonce.now c.args.ad.now c.args.ciphertext.now c.args.out.now c.in_ok-open_checks.ensures

pub returns-then-not-open_accepted : goal.returns-then-not-open_accepted
returns-then-not-open_accepted c =
    let kept : length c.open_accepted.new.out ≡ length c.args.out.now = search rules in
    rw c.if-not-open_accepted.true at
    (open_decided c.args.set c.in-Some.p (sym c.in-Some.ensures.case_is) c.args.key.now c.args.nonce.now c.args.ad.now c.args.ciphertext.now c.args.out.now _ _
    c.in_ok-open_checks.ensures c.open_accepted.ensures kept)

pub returns : goal.returns
returns c =
    let kept : length c.open_accepted.new.out ≡ length c.args.out.now = search rules in
    rw c.if-not-open_accepted.false at
    (open_decided c.args.set c.in-Some.p (sym c.in-Some.ensures.case_is) c.args.key.now c.args.nonce.now c.args.ad.now c.args.ciphertext.now c.args.out.now _ _
    c.in_ok-open_checks.ensures c.open_accepted.ensures kept)
