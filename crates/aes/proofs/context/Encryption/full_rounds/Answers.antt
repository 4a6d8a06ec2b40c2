-- `aes::context::Encryption::full_rounds` meets its contract: after i turns the States are those after i rounds.
-- Assumes nothing.
use Rattle.std.proofs.Common.{rules}
use Rattle.fips197.specs.Cipher.{full_round, rounds}
use Rattle.fips197.proofs.CipherLaws.{rounds-more}
use Rattle.aes.proofs.context.Encryption.full_rounds.Goals as goal

pub loop-i-init : goal.loop-i-init
unfolding rounds
loop-i-init g c = c.each-k.ensures (rounds _ 0) (λ k r e. search rules)

pub loop-i-preserved : goal.loop-i-preserved
loop-i-preserved g c =
    g.met.B.Blocks.then _ _ _ (λ s t u. rounds-more _ s t u _) _ _ _ c.loop-i.invariant
    (c.each-k-in-loop-i.ensures (full_round _ _) (λ k r e. search rules))
