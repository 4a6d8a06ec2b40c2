-- `ledger::known::Known::seal` meets its contract.
-- Assumes nothing.
use Rattle.std.proofs.Common.{ℕ, List, arith, refl, sym, ap₂, subst, ◌∙◌}
use Rattle.answers.specs.Refusals.{number_of_refusal}
use Rattle.answers.proofs.RefusalLaws.{refusal_not_zero}
use Rattle.cba_rules.specs.Refusals.{SealCall}
use Rattle.plain.proofs.SetLaws.{is_known, its_key, key-part}
use Rattle.cba_rules.proofs.SetLaws.{key-most}
use Rattle.ledger_rules.specs.Ledger.{source_row, seal_charge, charged, LedgerCall}
use Rattle.ledger_rules.specs.Ledger.Source.{given}
use Rattle.ledger_rules.proofs.LedgerLaws.{ledger_accepted, ledger_refused, total-word}
use Rattle.ledger.specs.declared.ledger.Ledger as code
use Rattle.ledger.specs.Values.{value_of}
use Rattle.ledger.proofs.CallLaws.{handed_back, from-source, accepted-call}
use Rattle.ledger.proofs.known.Known.seal.Goals as goal

pub returns-in_err-whole : goal.returns-in_err-whole
unfolding source_row seal_charge
returns-in_err-whole c =
    handed_back (λ (a : ℕ) (l' : code.Ledger). LedgerCall (value_of c.args.self.now.ledger.now) c.args.nonce.now (given c.args.ad.now) c.args.message.now c.args.out.now a (value_of l') c.args.out.now) _ _ c.from_residual.ensures.1
    (ledger_refused (value_of c.args.self.now.ledger.now) c.args.nonce.now (given c.args.ad.now) c.args.message.now c.args.out.now _
    (c.in_err-whole.ensures.answer_value ∙ from-source (value_of c.args.self.now.ledger.now) _ c.args.self.now.is_known c.args.nonce.now _ _ _ (given c.args.ad.now) _ c.ad_check.ensures refl) (refusal_not_zero _))

pub key_part-requires : goal.key_part-requires
key_part-requires c =
    omega (arith, c.key_bytes-n.ensures ∙ its_key c.args.self.now.ledger.now.set c.args.self.now.p c.args.self.now.is_known, key-most c.args.self.now.ledger.now.set (is_known c.args.self.now.ledger.now.set c.args.self.now.p c.args.self.now.is_known))

pub returns-in_err-seal_plain : goal.returns-in_err-seal_plain
unfolding source_row seal_charge
returns-in_err-seal_plain c =
    let at_length = c.key_part.ensures.key_len in
    let z = sym (c.in_ok-whole.ensures.answer_value ∙ from-source (value_of c.args.self.now.ledger.now) _ c.args.self.now.is_known c.args.nonce.now _ _ _ (given c.args.ad.now) _ c.ad_check.ensures refl) in
    let call =
    accepted-call (value_of c.args.self.now.ledger.now) c.args.self.now.p _ c.args.self.now.is_known c.key_bytes-n.ensures c.args.nonce.now c.args.ad.now c.args.message.now c.args.out.now _ _ _
    (key-part c.args.self.now.ledger.now.set c.args.self.now.p _ c.args.self.now.ledger.now.key c.args.self.now.is_known c.key_bytes-n.ensures at_length).0 z (subst (λ (k : List ℕ). SealCall c.args.self.now.ledger.now.set k c.args.nonce.now c.args.ad.now c.args.message.now c.args.out.now (number_of_refusal c.in_err-seal_plain.field-0.0) c.seal_plain.new.out) c.key_part.ensures.part_value c.in_err-seal_plain.ensures) refl in
    absurd (refusal_not_zero _ (call.answer-is ∙ z))

pub next-requires : goal.next-requires
unfolding source_row seal_charge
next-requires c =
    let z = sym (c.in_ok-whole.ensures.answer_value ∙ from-source (value_of c.args.self.now.ledger.now) _ c.args.self.now.is_known c.args.nonce.now _ _ _ (given c.args.ad.now) _ c.ad_check.ensures refl) in
    let a = ledger_accepted (value_of c.args.self.now.ledger.now) c.args.nonce.now _ _ _ z in
    omega (arith, total-word (value_of c.args.self.now.ledger.now) _ a.not-spent a.is-set, c.charge.ensures)

pub returns : goal.returns
unfolding source_row seal_charge
returns c =
    let at_length = c.key_part.ensures.key_len in
    let z = sym (c.in_ok-whole.ensures.answer_value ∙ from-source (value_of c.args.self.now.ledger.now) _ c.args.self.now.is_known c.args.nonce.now _ _ _ (given c.args.ad.now) _ c.ad_check.ensures refl) in
    accepted-call (value_of c.args.self.now.ledger.now) c.args.self.now.p _ c.args.self.now.is_known c.key_bytes-n.ensures c.args.nonce.now c.args.ad.now c.args.message.now c.args.out.now _ _ _
    (key-part c.args.self.now.ledger.now.set c.args.self.now.p _ c.args.self.now.ledger.now.key c.args.self.now.is_known c.key_bytes-n.ensures at_length).0 z (subst (λ (k : List ℕ). SealCall c.args.self.now.ledger.now.set k c.args.nonce.now c.args.ad.now c.args.message.now c.args.out.now 0 c.seal_plain.new.out) c.key_part.ensures.part_value c.in_ok-seal_plain.ensures)
    (c.next.ensures ∙ ap₂ (λ (n : List ℕ) (x : ℕ). charged (value_of c.args.self.now.ledger.now) n x) c.in_ok-whole.ensures.nonce_value c.charge.ensures)
