-- The walk over the associated data: a call on what follows the first full block.
-- Assumes nothing.
use mathlib.Core.Path.{◌≡◌, refl, sym, ap, ap₂, ◌∙◌}
use mathlib.Core.List.{List}
use Prim.Native.Nat.{ℕ, zero, suc, ◌-◌, ◌*◌, ◌/◌, ◌<◌, ◌≤◌}
use native.Mathlib.Nat.{mul-suc, add_comm}
use native.Mathlib.Omega.{arith}
use mathlib.Core.Bool.{true, false}
use lib.Dec.{eqb}
use lib.ListN.{length, take, drop, length-drop}
use lib.Seq.{take_all, drop-drop}
use Rattle.octets.specs.Xor.{xors}
use Rattle.octets.proofs.Blocks.{block-suc}
use Rattle.cba_mode.specs.Offsets.{F, offset, pad}
use Rattle.cba_mode.specs.Data.{block_sum, with_rest, data_sum}
use Rattle.cba_mode.proofs.OffsetLaws.{offset-front}

module _ (E : List ℕ → List ℕ) where
  -- the sum after the first block
  abbrev pub after_the_first : List ℕ → List ℕ → List ℕ → List ℕ
  after_the_first s Δ A = xors s (E (xors (take 16 A) (F 2 2 Δ)))

  block_sum-front : (s Δ A : List ℕ) (m : ℕ) → block_sum E s Δ A (suc m) ≡ block_sum E (after_the_first s Δ A) (F 2 2 Δ) (drop 16 A) m
  unfolding block_sum offset
  block_sum-front s Δ A zero = refl
  block_sum-front s Δ A (suc m) =
      ap₂ xors (block_sum-front s Δ A m) (ap E (ap₂ xors (block-suc 16 A m) (offset-front Δ (suc m))))

  -- under 16 bytes there is a rest alone
  pub data_sum-rest : (s Δ A : List ℕ) → length A < 16 → with_rest E s Δ A ≡ data_sum E s Δ A
  unfolding data_sum block_sum offset
  data_sum-rest s Δ A h =
      ap (λ (n : ℕ). with_rest E (block_sum E s Δ A n) (offset Δ n) (drop (16 * n) A)) {x = 0} {y = length A / 16} (omega arith)

  -- else the walk goes on after the first block
  pub data_sum-step : (s Δ A : List ℕ) → 16 ≤ length A → data_sum E (after_the_first s Δ A) (F 2 2 Δ) (drop 16 A) ≡ data_sum E s Δ A
  unfolding data_sum
  data_sum-step s Δ A h =
      let m = length (drop 16 A) / 16 in
      let e : suc m ≡ length A / 16 = omega (arith, length-drop 16 A) in
      sym
      (ap (λ (n : ℕ). with_rest E (block_sum E s Δ A n) (offset Δ n) (drop (16 * n) A)) (sym e)
      ∙ ap₂ (λ (x y : List ℕ). with_rest E x y (drop (16 * suc m) A)) (block_sum-front s Δ A m) (offset-front Δ m)
      ∙ ap (with_rest E (block_sum E (after_the_first s Δ A) (F 2 2 Δ) (drop 16 A) m) (offset (F 2 2 Δ) m))
      (ap (λ (n : ℕ). drop n A) (mul-suc 16 m ∙ add_comm (16 * m) 16) ∙ sym (drop-drop (16 * m) 16 A)))

  -- a rest that is empty, and one that is not
  pub with_rest-none : (s Δ A : List ℕ) → eqb (length A) 0 ≡ true → s ≡ with_rest E s Δ A
  unfolding with_rest
  with_rest-none s Δ A h = rw h

  pub with_rest-some : (s Δ A : List ℕ) → eqb (length A) 0 ≡ false → xors s (E (xors (pad A) (F 3 3 Δ))) ≡ with_rest E s Δ A
  unfolding with_rest
  with_rest-some s Δ A h = rw h

  -- one call of the walk
  pub walk_turn : (s Δ A : List ℕ) (more next first r : List ℕ) → 16 ≤ length A → next ≡ F 2 2 Δ → first ≡ take 16 A →
      more ≡ xors s (E (xors first next)) → r ≡ data_sum E more next (take (length A - 16) (drop 16 A)) → r ≡ data_sum E s Δ A
  walk_turn s Δ A more next first r h n f m e =
      e ∙ ap (data_sum E more next) (take_all (length A - 16) (drop 16 A) (simp length-drop (omega arith)))
      ∙ ap₂ (λ (x y : List ℕ). data_sum E x y (drop 16 A)) (m ∙ ap₂ (λ (x y : List ℕ). xors s (E (xors x y))) f n) n
      ∙ data_sum-step s Δ A h

  pub rest-turn : (s Δ A : List ℕ) (p d r : List ℕ) → eqb (length A) 0 ≡ false → p ≡ pad A → d ≡ F 3 3 Δ → r ≡ xors s (E (xors p d)) → r ≡ with_rest E s Δ A
  rest-turn s Δ A p d r h a b e = e ∙ ap₂ (λ (x y : List ℕ). xors s (E (xors x y))) a b ∙ with_rest-some s Δ A h
