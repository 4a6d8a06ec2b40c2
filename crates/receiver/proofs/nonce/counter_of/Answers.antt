-- `receiver::nonce::counter_of` meets its contract.
-- Assumes nothing.
use Rattle.std.proofs.Common.{◌≡◌, length, drop, length-drop, arith, rules, ap, ◌∙◌}
use lib.Seq.{take_all}
use Rattle.octets.specs.Numbers.{number}
use Rattle.receiver_rules.specs.Receiver.{counter_of}
use Rattle.receiver.proofs.NonceLaws.{of_eight}
use Rattle.receiver.proofs.nonce.counter_of.Goals as goal

pub returns : goal.returns
unfolding counter_of
returns c =
    let whole : length c.copy_from_slice.new.self ≡ 8 = search rules in
    let nonce : length c.args.nonce.now ≡ 12 = search rules in
    c.from_be_bytes.ensures ∙ of_eight _ whole ∙ ap number (c.copy_from_slice.ensures.after ∙ take_all 8 (drop 4 c.args.nonce.now) (simp length-drop (omega (arith, nonce))))
