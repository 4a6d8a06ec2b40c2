-- `cba_steps::associated::data_hash` meets its contract: L, its offset, and the walk from zeros.
-- Assumes nothing.
use mathlib.Core.Path.{ap, ◌∙◌}
use mathlib.Core.List.{List}
use Prim.Native.Nat.{ℕ}
use native.Mathlib.Omega.{arith}
use lib.ListN.{replicate}
use Rattle.fips197.specs.Cipher.{cipher}
use Rattle.cba_mode.specs.Offsets.{start}
use Rattle.cba_mode.specs.Data.{data_sum, L, data_hash}
use Rattle.cba_steps.proofs.associated.data_hash.Goals as goal

pub walk-requires : goal.walk-requires
walk-requires c = omega (arith, c.requires)

pub returns : goal.returns
unfolding data_hash L
returns c =
    c.walk.ensures
    ∙ ap (λ (Δ : List ℕ). data_sum (cipher c.args.e.now) (replicate 16 0) Δ c.args.ad.now)
    (c.start-h.ensures ∙ ap (λ (l : List ℕ). start l 0) c.encrypt-l.ensures)
