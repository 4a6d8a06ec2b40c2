-- The code's ledgers as values: a key put over zeros.
-- Assumes nothing.
use mathlib.Core.Path.{◌≡◌, ap, ◌∙◌}
use mathlib.Core.List.{List, ◌++◌}
use Prim.Native.Nat.{ℕ, ◌-◌}
use lib.ListN.{length, drop, replicate}
use Rattle.octets.proofs.Strings.{drop-replicate}

-- a key written over zeros has zeros after it
pub fresh-key : {put : List ℕ} (key : List ℕ) → put ≡ key ++ drop (length key) (replicate 32 0) → put ≡ key ++ replicate (32 - length key) 0
fresh-key key e = e ∙ ap (λ (z : List ℕ). key ++ z) (drop-replicate (length key) 32 0)
