-- `aes::context::Decryption::decipher` meets its contract: EqInvCipher is InvCipher.
-- Assumes nothing.
use mathlib.Core.Path.{refl, ap, ◌∙◌}
use mathlib.Core.List.{List}
use Prim.Native.Nat.{ℕ, ◌-◌}
use Rattle.std.proofs.Common.{rules}
use Rattle.fips197.specs.Steps.{inv_sub_bytes, inv_shift_rows, add_round_key}
use Rattle.fips197.specs.Cipher.{key_rounds}
use Rattle.fips197.specs.Equivalent.{eq_rounds, key_expansion_eic}
use Rattle.fips197.proofs.Equivalent.{deciphered}
use Rattle.aes.proofs.context.Decryption.decipher.Goals as goal

pub returns : goal.returns
returns g c =
    let key = c.args.self.now in
    let r = c.rounds-nr.ensures in
    let last : List ℕ → List ℕ = λ x. add_round_key (key_expansion_eic key) 0 (inv_shift_rows (inv_sub_bytes x)) in
    let before : List ℕ → ℕ → List ℕ = λ s n. eq_rounds (key_expansion_eic key) (key_rounds key) (n - 1) s in
    g.met.B.Blocks.then _ last _
    (λ s t u p q. deciphered _ _ s u (key_rounds key) r.key_bytes r.key_good refl refl (q ∙ ap last (p ∙ ap (before s) r.rounds.0)))
    _ _ _ c.full_inv_rounds-k.ensures (c.each.ensures last (λ k r e. search rules))
