-- `aes::context::Decryption::full_inv_rounds` meets its contract: after i turns the States are those after i rounds.
-- Assumes nothing.
use Rattle.std.proofs.Common.{rules}
use Rattle.fips197.specs.Equivalent.{eq_full_round, eq_rounds}
use Rattle.fips197.proofs.EquivalentLaws.{eq_rounds-more}
use Rattle.aes.proofs.context.Decryption.full_inv_rounds.Goals as goal

pub loop-i-init : goal.loop-i-init
unfolding eq_rounds
loop-i-init g c = c.each-k.ensures (eq_rounds _ _ 0) (λ k r e. search rules)

pub loop-i-preserved : goal.loop-i-preserved
loop-i-preserved g c =
    g.met.B.Blocks.then _ _ _ (λ s t u. eq_rounds-more _ s _ t u _) _ _ _ c.loop-i.invariant
    (c.each-k-in-loop-i.ensures (eq_full_round _ _) (λ k r e. search rules))
