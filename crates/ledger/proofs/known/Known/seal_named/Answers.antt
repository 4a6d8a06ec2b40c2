-- `ledger::known::Known::seal_named` meets its contract.
-- Assumes nothing.
use Rattle.std.proofs.Common.{◌≡◌, List, ℕ, length, arith, rules, ap, subst, ◌∙◌}
use Rattle.fips197.specs.Schedule.{is_key}
use Rattle.cba_sealing.specs.Calls.{Enc}
use Rattle.plain.proofs.SetLaws.{is_known, its_key, key-part}
use Rattle.cba_rules.proofs.SetLaws.{key-most}
use Rattle.ledger_rules.specs.Ledger.{Heading, seal_charge, charged}
use Rattle.ledger_rules.proofs.LedgerLaws.{ledger_accepted, total-word}
use Rattle.ledger.specs.Values.{value_of}
use Rattle.ledger.proofs.CallLaws.{part-key, named-call, named-seals}
use Rattle.ledger.proofs.HeadingLaws.{named-name}
use Rattle.ledger.proofs.known.Known.seal_named.Goals as goal

pub heading-requires : goal.heading-requires
heading-requires c = named-name (value_of c.args.self.now.ledger.now) c.args.nonce.now c.args.name _ _ c.requires

pub key_part-requires : goal.key_part-requires
key_part-requires c =
    omega (arith, c.key_bytes-n.ensures ∙ its_key c.args.self.now.ledger.now.set c.args.self.now.p c.args.self.now.is_known, key-most c.args.self.now.ledger.now.set (is_known c.args.self.now.ledger.now.set c.args.self.now.p c.args.self.now.is_known))

pub seal_with-requires : goal.seal_with-requires
seal_with-requires c =
    let at_length = c.key_part.ensures.key_len in
    record {
      key_value = ap is_key c.key_part.ensures.part_value ∙ part-key (value_of c.args.self.now.ledger.now) c.args.self.now.p _ c.args.self.now.is_known c.key_bytes-n.ensures (key-part c.args.self.now.ledger.now.set c.args.self.now.p _ c.args.self.now.ledger.now.key c.args.self.now.is_known c.key_bytes-n.ensures at_length).1;
      seals = named-seals (value_of c.args.self.now.ledger.now) c.args.self.now.p c.args.nonce.now c.args.name c.args.message.now c.args.out.now c.args.self.now.is_known c.requires;
    }

pub next-requires : goal.next-requires
unfolding seal_charge
next-requires c =
    let a = ledger_accepted (value_of c.args.self.now.ledger.now) c.args.nonce.now _ _ _ c.requires in
    omega (arith, total-word (value_of c.args.self.now.ledger.now) _ a.not-spent a.is-set, c.charge.ensures)

pub returns : goal.returns
returns c =
    let same : length c.seal_with.new.out ≡ length c.args.out.now = search rules in
    named-call (value_of c.args.self.now.ledger.now) c.args.self.now.p _ c.args.self.now.is_known c.key_bytes-n.ensures c.args.nonce.now c.args.name c.args.message.now c.args.out.now _ _ _ c.requires
    (ap (λ (h : Heading). h.sum) c.heading.ensures)
    (subst (λ (k : List ℕ). Enc k c.args.self.now.p c.args.nonce.now c.heading.result.sum c.args.message.now c.args.out.now c.seal_with.new.out) c.key_part.ensures.part_value c.seal_with.ensures) same (c.next.ensures ∙ ap (λ (x : ℕ). charged (value_of c.args.self.now.ledger.now) c.args.nonce.now x) c.charge.ensures)
