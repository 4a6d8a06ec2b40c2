-- `ledger::known::Known::seal_by_name` meets its contract.
-- Assumes nothing.
use Rattle.std.proofs.Common.{ℕ, Bool, List, [], ◌∷◌, length, refl, sym, ap, subst, ◌∙◌}
use Rattle.answers.specs.Rows.{answer}
use Rattle.answers.proofs.RefusalLaws.{refusal_not_zero}
use Rattle.ledger_rules.specs.Ledger.{bad_name, source_row, seal_charge, ledger_answer, LedgerCall}
use Rattle.ledger_rules.specs.Ledger.Source.{named}
use Rattle.ledger_rules.proofs.LedgerLaws.{ledger_refused}
use Rattle.ledger.specs.declared.ledger.Ledger as code
use Rattle.ledger.specs.Values.{value_of}
use Rattle.ledger.proofs.CallLaws.{handed_back, from-source}
use Rattle.ledger.proofs.known.Known.seal_by_name.Goals as goal

pub returns-in_err-whole : goal.returns-in_err-whole
unfolding source_row seal_charge
returns-in_err-whole c =
    handed_back (λ (a : ℕ) (l' : code.Ledger). LedgerCall (value_of c.args.self.now.ledger.now) c.args.nonce.now (named c.args.name) c.args.message.now c.args.out.now a (value_of l') c.args.out.now) _ _ c.from_residual.ensures.1
    (ledger_refused (value_of c.args.self.now.ledger.now) c.args.nonce.now (named c.args.name) c.args.message.now c.args.out.now _ (c.in_err-whole.ensures.answer_value ∙ from-source (value_of c.args.self.now.ledger.now) _ c.args.self.now.is_known c.args.nonce.now _ _ _ (named c.args.name) _ (c.name_check-source.ensures ∙ ap (λ (b : Bool). answer (bad_name b ∷ [])) c.is_kept.ensures) refl) (refusal_not_zero _))

pub seal_named-requires : goal.seal_named-requires
unfolding source_row seal_charge
seal_named-requires c =
    ap (λ (n : List ℕ). ledger_answer (value_of c.args.self.now.ledger.now) n (named c.args.name) (length c.args.message.now) (length c.args.out.now)) c.in_ok-whole.ensures.nonce_value
    ∙ sym (c.in_ok-whole.ensures.answer_value ∙ from-source (value_of c.args.self.now.ledger.now) _ c.args.self.now.is_known c.args.nonce.now _ _ _ (named c.args.name) _ (c.name_check-source.ensures ∙ ap (λ (b : Bool). answer (bad_name b ∷ [])) c.is_kept.ensures) refl)

pub returns : goal.returns
returns c =
    subst (λ (n : List ℕ). LedgerCall (value_of c.args.self.now.ledger.now) n (named c.args.name) c.args.message.now c.args.out.now 0 (value_of c.seal_named.result) c.seal_named.new.out) c.in_ok-whole.ensures.nonce_value c.seal_named.ensures
