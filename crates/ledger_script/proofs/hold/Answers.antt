use Rattle.std.proofs.Common.{ℕ, min, ap, ◌∙◌}
use Rattle.ledger_script.proofs.RecordLaws.{held_so}
use Rattle.ledger_script.proofs.hold.Goals as goal

pub returns : goal.returns
returns g c = held_so c.args.l c.args.r.now.bytes _ (c.min-i.ensures ∙ ap (λ (x : ℕ). min x 7) c.byte.ensures) c.flag.ensures c.part.ensures
