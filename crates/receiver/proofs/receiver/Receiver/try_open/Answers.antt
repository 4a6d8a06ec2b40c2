-- `receiver::receiver::Receiver::try_open` meets its contract.
-- Assumes nothing.
use Rattle.std.proofs.Common.{◌≡◌, length, arith, rules, refl, sym, ap, ◌∙◌}
use Rattle.answers.proofs.RefusalLaws.{refusal_not_zero}
use Rattle.plain.proofs.SetLaws.{key-part}
use Rattle.window_rules.specs.Window.{is_repeat}
use Rattle.receiver.specs.Values.{window_of, value_of}
use Rattle.receiver.proofs.CallLaws.{handed_back, next_is, unknown-refused, lengths-refused, repeat_refused, call-false, call-true}
use Rattle.receiver.proofs.receiver.Receiver.try_open.Goals as goal

pub returns-in_default : goal.returns-in_default
returns-in_default c = unknown-refused (value_of c.args.self.now) c.args.nonce.now c.args.ad.now c.args.ciphertext.now c.args.out.now (sym c.lookup.ensures.case_is ∙ c.in_default.is)

pub returns-in_err-counter : goal.returns-in_err-counter
returns-in_err-counter c =
    handed_back _ _ c.from_residual.ensures.1
    (lengths-refused (value_of c.args.self.now) c.in-Some.p (sym c.in-Some.ensures.case_is) c.args.nonce.now c.args.ad.now c.args.ciphertext.now c.args.out.now c.in_err-counter.ensures.answer_value (refusal_not_zero _))

pub returns-then-is_repeat : goal.returns-then-is_repeat
returns-then-is_repeat c =
    let again = c.is_repeat.ensures ∙ ap (is_repeat (window_of c.args.self.now.window)) c.in_ok-counter.ensures.counter_value in
    repeat_refused (value_of c.args.self.now) c.in-Some.p (sym c.in-Some.ensures.case_is) c.args.nonce.now c.args.ad.now c.args.ciphertext.now c.args.out.now c.in_ok-counter.ensures.answer_value refl
    (sym again ∙ c.if-is_repeat.true)

pub shared_ref_as_front-open_plain : goal.shared_ref_as_front-open_plain
shared_ref_as_front-open_plain c =
    let at_length : length c.args.self.now.key ≡ 32 = search rules in
    omega (arith, at_length, (key-part c.args.self.now.set c.in-Some.p _ c.args.self.now.key (sym c.in-Some.ensures.case_is) c.key_bytes-n.ensures at_length).0)

pub returns-in_err-open_plain : goal.returns-in_err-open_plain
returns-in_err-open_plain c =
    let at_length : length c.args.self.now.key ≡ 32 = search rules in
    let again = c.is_repeat.ensures ∙ ap (is_repeat (window_of c.args.self.now.window)) c.in_ok-counter.ensures.counter_value in
    handed_back _ _ c.from_residual-in_err-open_plain.ensures.1
    (call-false (value_of c.args.self.now) c.in-Some.p (sym c.in-Some.ensures.case_is) c.args.nonce.now c.args.ad.now c.args.ciphertext.now c.args.out.now c.in_ok-counter.ensures.answer_value at_length refl
    (sym again ∙ c.if-is_repeat.false) _ c.key_bytes-n.ensures _ _ c.in_err-open_plain.ensures (refusal_not_zero _))

pub returns : goal.returns
returns c =
    let at_length : length c.args.self.now.key ≡ 32 = search rules in
    let again = c.is_repeat.ensures ∙ ap (is_repeat (window_of c.args.self.now.window)) c.in_ok-counter.ensures.counter_value in
    call-true (value_of c.args.self.now) c.in-Some.p (sym c.in-Some.ensures.case_is) c.args.nonce.now c.args.ad.now c.args.ciphertext.now c.args.out.now c.in_ok-counter.ensures.answer_value at_length refl
    (sym again ∙ c.if-is_repeat.false) _ c.key_bytes-n.ensures _ _ c.in_ok-open_plain.ensures _ refl (next_is (value_of c.args.self.now) c.recorded.ensures c.in_ok-counter.ensures.counter_value)
