-- Two blocks, each by itself.
-- Assumes nothing.
use Rattle.std.specs.Prelude.{◌≡◌, List, ℕ}
use Rattle.octets.specs.Xor.{xors}
use Rattle.aes_schedule.specs.Words.{block_of}
use Rattle.aes.specs.declared.pairs.Pair.{Pair}

-- f of each of the two
pub record Both (f : List ℕ → List ℕ) (p r : Pair) : Type 0 where
  pub first : block_of r.x ≡ f (block_of p.x)
  pub second : block_of r.y ≡ f (block_of p.y)

-- the exclusive or of two pairs, block by block
pub record Sums (p q r : Pair) : Type 0 where
  pub first : block_of r.x ≡ xors (block_of p.x) (block_of q.x)
  pub second : block_of r.y ≡ xors (block_of p.y) (block_of q.y)
