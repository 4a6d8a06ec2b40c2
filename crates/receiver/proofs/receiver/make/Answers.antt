-- `receiver::receiver::make` meets its contract.
-- Assumes nothing.
use Rattle.std.proofs.Common.{sym, ◌∙◌}
use Rattle.answers.proofs.RefusalLaws.{refusal_not_zero}
use Rattle.plain.proofs.SetLaws.{key-limit}
use Rattle.receiver_rules.specs.Receiver.{make_rows, make_answer}
use Rattle.receiver_rules.proofs.ReceiverLaws.{made_so, made_none}
use Rattle.receiver.proofs.receiver.make.Goals as goal

pub begin-receiver-requires : goal.begin-receiver-requires
unfolding make_rows
begin-receiver-requires c = key-limit c.args.set _ (sym c.in-Ok.ensures)

pub returns-in-Ok-clause-answer_value : goal.returns-in-Ok-clause-answer_value
unfolding make_rows make_answer
returns-in-Ok-clause-answer_value c = c.set_key_checks-answer.ensures

pub returns-in-Ok-clause-receiver_value : goal.returns-in-Ok-clause-receiver_value
unfolding make_rows make_answer
returns-in-Ok-clause-receiver_value c = c.begin-receiver.ensures ∙ sym (made_so c.args.set c.args.key.now c.args.prefix (sym c.in-Ok.ensures))

pub returns-in-Err-clause-answer_value : goal.returns-in-Err-clause-answer_value
unfolding make_rows make_answer
returns-in-Err-clause-answer_value c = c.set_key_checks-answer.ensures

pub returns-in-Err-clause-receiver_value : goal.returns-in-Err-clause-receiver_value
unfolding make_rows make_answer
returns-in-Err-clause-receiver_value c =
    c.default-receiver.ensures ∙ sym (made_none c.args.set c.args.key.now c.args.prefix (λ z. refusal_not_zero _ (c.in-Err.ensures ∙ z)))
