-- `ledger::checks::is_not_above` meets its contract.
-- Assumes nothing.
use Rattle.std.proofs.Common.{◌≡◌, ℕ, ◌<◌, length, get_or, rules, arith, sym, ◌∙◌}
use Rattle.octets.proofs.Strings.{bytes_of}
use Rattle.ledger.proofs.CheckLaws.{in_order}
use Rattle.ledger.proofs.checks.is_not_above.Goals as goal

-- the order of both is given, so that a comparison the other way round is refused for what it says and not for its form
pub returns : goal.returns
returns c =
    let n : length c.args.nonce.now ≡ 12 = search rules in
    let l : length c.args.last.now ≡ 12 = search rules in
    let small : (i : ℕ) → get_or c.args.nonce.now i 0 < 256 = search rules in
    let its_small : (i : ℕ) → get_or c.args.last.now i 0 < 256 = search rules in
    grind
    (arith, c.le.ensures, in_order c.args.nonce.now c.args.last.now (n ∙ sym l) (bytes_of _ small) (bytes_of _ its_small), in_order c.args.last.now c.args.nonce.now (l ∙ sym n) (bytes_of _ its_small) (bytes_of _ small))
