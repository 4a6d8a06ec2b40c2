-- `ledger::known::Known::kept` meets its contract.
-- Assumes nothing.
use Rattle.std.proofs.Common.{List, ℕ, arith, ap, ◌∙◌}
use Rattle.fips197.specs.Schedule.{is_key}
use Rattle.fips197.specs.Cipher.{cipher}
use Rattle.cba_mode.specs.Data.{data_hash}
use Rattle.plain.proofs.SetLaws.{is_known, its_key, key-part}
use Rattle.cba_rules.proofs.SetLaws.{key-most}
use Rattle.ledger_rules.proofs.LedgerLaws.{total-word, keep_accepted}
use Rattle.ledger.specs.Values.{value_of}
use Rattle.ledger.proofs.CallLaws.{part-key}
use Rattle.ledger.proofs.HeadingLaws.{its_name, kept-call}
use Rattle.ledger.proofs.known.Known.kept.Goals as goal

pub key_part-requires : goal.key_part-requires
key_part-requires c =
    omega (arith, c.key_bytes-n.ensures ∙ its_key c.args.self.now.ledger.now.set c.args.self.now.p c.args.self.now.is_known, key-most c.args.self.now.ledger.now.set (is_known c.args.self.now.ledger.now.set c.args.self.now.p c.args.self.now.is_known))

pub sum_of-sum-requires : goal.sum_of-sum-requires
sum_of-sum-requires c =
    let at_length = c.key_part.ensures.key_len in
    record {
      key_value = ap is_key c.key_part.ensures.part_value ∙ part-key (value_of c.args.self.now.ledger.now) c.args.self.now.p _ c.args.self.now.is_known c.key_bytes-n.ensures (key-part c.args.self.now.ledger.now.set c.args.self.now.p _ c.args.self.now.ledger.now.key c.args.self.now.is_known c.key_bytes-n.ensures at_length).1;
      ad_len_bound = (keep_accepted (value_of c.args.self.now.ledger.now) c.args.name _ c.requires).data_limit;
    }

pub with_sum-requires : goal.with_sum-requires
with_sum-requires c =
    let a = keep_accepted (value_of c.args.self.now.ledger.now) c.args.name _ c.requires in
    (its_name c.args.name a.is_name, omega (arith, total-word (value_of c.args.self.now.ledger.now) _ a.not-spent a.is-set, c.charge.ensures))

pub returns : goal.returns
returns c = kept-call (value_of c.args.self.now.ledger.now) c.args.name c.args.ad.now c.args.self.now.p _ _ c.args.self.now.is_known c.key_bytes-n.ensures c.requires (c.sum_of-sum.ensures ∙ ap (λ (k : List ℕ). data_hash (cipher k) c.args.self.now.p.tau c.args.self.now.p.capacity c.args.ad.now) c.key_part.ensures.part_value) c.charge.ensures c.with_sum.ensures
