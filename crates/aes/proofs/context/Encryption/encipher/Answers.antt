-- `aes::context::Encryption::encipher` meets its contract, by those of the functions that it calls.
-- Assumes nothing.
use mathlib.Core.Path.{refl, ap, ◌∙◌}
use mathlib.Core.List.{List}
use Prim.Native.Nat.{ℕ}
use Rattle.std.proofs.Common.{rules}
use Rattle.fips197.specs.Steps.{sub_bytes, shift_rows, add_round_key}
use Rattle.fips197.specs.Schedule.{key_expansion}
use Rattle.fips197.proofs.CipherLaws.{cipher-at}
use Rattle.aes.proofs.context.Encryption.encipher.Goals as goal

pub returns : goal.returns
returns g c =
    let last : List ℕ → List ℕ = λ x. add_round_key (key_expansion c.args.self.now) c.rounds-nr.result (shift_rows (sub_bytes x)) in
    g.met.B.Blocks.then _ last _ (λ s t u p q. cipher-at _ _ s u _ refl c.rounds-nr.ensures.rounds.0 (q ∙ ap last p))
    _ _ _ c.full_rounds-k.ensures (c.each.ensures last (λ k r e. search rules))
