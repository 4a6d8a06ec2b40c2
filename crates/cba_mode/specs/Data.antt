-- H of document 002: the associated data's tag T_A, over any block cipher E.
-- Assumes nothing.
use Rattle.std.specs.Prelude.{cond, List, ◌∷◌, ℕ, zero, suc, ◌*◌, ◌/◌, eqb, length, take, drop, replicate}
use Rattle.octets.specs.Xor.{xors}
use Rattle.octets.specs.Blocks.{block}
use Rattle.cba_mode.specs.Sets.{tag_bytes}
use Rattle.cba_mode.specs.Offsets.{F, start, offset, pad}

module _ (E : List ℕ → List ℕ) where
  -- S after the first n full blocks, from s, the offset being Δ before them: for each, Δ becomes F_{2,2}(Δ), and E(A_i ⊕ Δ) is added
  unfoldable pub block_sum : List ℕ → List ℕ → List ℕ → ℕ → List ℕ
  block_sum s Δ A zero = s
  block_sum s Δ A (suc i) = xors (block_sum s Δ A i) (E (xors (block 16 A i) (offset Δ (suc i))))

  -- a nonempty rest under 16 bytes: Δ becomes F_{3,3}(Δ), and E(pad(A_a) ⊕ Δ) is added
  unfoldable pub with_rest : List ℕ → List ℕ → List ℕ → List ℕ
  with_rest s Δ rest = cond (eqb (length rest) 0) s (xors s (E (xors (pad rest) (F 3 3 Δ))))

  -- S after all of A
  unfoldable pub data_sum : List ℕ → List ℕ → List ℕ → List ℕ
  data_sum s Δ A = let n = length A / 16 in with_rest (block_sum s Δ A n) (offset Δ n) (drop (16 * n) A)

  module _ (τ b : ℕ) where
    -- L = E([τ]_8 [b]_8 0^{112})
    unfoldable pub L : List ℕ
    L = E (τ ∷ b ∷ replicate 14 0)

    -- the sum from zeros, the offset being start(L, 0)
    unfoldable pub data_hash : List ℕ → List ℕ
    data_hash A = data_sum (replicate 16 0) (start L 0) A

    -- T_A = MSB_τ(S)
    unfoldable pub tag_of_data : List ℕ → List ℕ
    tag_of_data A = take (tag_bytes τ) (data_hash A)
