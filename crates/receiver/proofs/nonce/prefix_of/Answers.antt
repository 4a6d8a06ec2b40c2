-- `receiver::nonce::prefix_of` meets its contract.
-- Assumes nothing.
use Rattle.std.proofs.Common.{◌≡◌, length, rules, ap, ◌∙◌}
use Rattle.octets.specs.Numbers.{number}
use Rattle.receiver_rules.specs.Receiver.{prefix_of}
use Rattle.receiver.proofs.NonceLaws.{of_four}
use Rattle.receiver.proofs.nonce.prefix_of.Goals as goal

pub returns : goal.returns
unfolding prefix_of
returns c =
    let whole : length c.copy_from_slice.new.self ≡ 4 = search rules in
    c.from_be_bytes.ensures ∙ of_four _ whole ∙ ap number c.copy_from_slice.ensures.after
