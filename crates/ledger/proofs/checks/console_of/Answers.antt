-- `ledger::checks::console_of` meets its contract.
-- Assumes nothing.
use Rattle.std.proofs.Common.{◌≡◌, length, rules, ◌∙◌}
use Rattle.ledger.proofs.CheckLaws.{console_start}
use Rattle.ledger.proofs.checks.console_of.Goals as goal

pub returns : goal.returns
returns c =
    let whole : length c.args.nonce.now ≡ 12 = search rules in
    c.from_be_bytes.ensures ∙ console_start c.args.nonce.now whole
