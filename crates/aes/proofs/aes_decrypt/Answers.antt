-- `aes::aes_decrypt` meets its contract, by those of the functions that it calls.
-- Assumes nothing.
use mathlib.Core.Path.{◌≡◌, sym, ◌∙◌}
use mathlib.Core.Bool.{true}
use Rattle.fips197.specs.Schedule.{is_key}
use Rattle.fips197.specs.Cipher.{inv_cipher}
use Rattle.aes.proofs.ContextLaws.{answer-good, answer_bad, answered-good, answered_bad}
use Rattle.aes.proofs.aes_decrypt.Goals as goal

pub new-e-requires : goal.new-e-requires
new-e-requires c =
    let good : is_key c.args.key.now ≡ true = sym c.is_key.ensures ∙ c.if-is_key.true in
    record { key_value = good; ctx_value = c.blank-ctx.ensures }

pub returns-then-is_key : goal.returns-then-is_key
returns-then-is_key c =
    let good : is_key c.args.key.now ≡ true = sym c.is_key.ensures ∙ c.if-is_key.true in
    let h = good in
    record { value = answer-good _ h; block_after = rw (← c.new-e.ensures, ← c.new-d.ensures) (c.decrypt.ensures) ∙ sym (answered-good inv_cipher _ _ h) }

pub returns : goal.returns
returns c =
    let h = sym c.is_key.ensures ∙ c.if-is_key.false in
    record { value = answer_bad _ h; block_after = sym (answered_bad inv_cipher _ _ h) }
