-- The code of a message: the chain over its blocks, the last block, and both put together.
-- Assumes nothing.
use mathlib.Core.Path.{◌≡◌, refl, sym, ap, ap₂, ◌∙◌}
use mathlib.Core.List.{List, ◌∷◌, ◌++◌}
use Prim.Native.Nat.{ℕ, suc, ◌+◌, ◌-◌, ◌*◌, ◌<◌, ◌≤◌, zero-le}
use native.Mathlib.Nat.{le_antisymm}
use native.Mathlib.Numerals.{add-one}
use native.Mathlib.Omega.{arith}
use borrow.Author.Tests.{eq-eqb, ne_eqb}
use lib.ListN.{length, take, drop, replicate, length-replicate, replicate-append-replicate}
use lib.Seq.{take_all, take_at, take-append-add}
use Rattle.octets.specs.Xor.{xors}
use Rattle.octets.proofs.Parts.{to_end}
use Rattle.fips197.specs.Cipher.{cipher}
use Rattle.cba_mode.specs.Offsets.{pad}
use Rattle.cmac_rules.specs.Cmac.{padding, blocks, K1, K2, chain, last_block, CMAC, cmac}

-- ---- the chain, one block a turn

-- x is X after i of n blocks of M
pub record Chained (E : List ℕ → List ℕ) (M : List ℕ) (n i : ℕ) (x : List ℕ) : Type 0 where
  pub within : i ≤ n
  pub so_far : x ≡ chain E M i

module _ (E : List ℕ → List ℕ) (M : List ℕ) (n : ℕ) where
  pub chained_none : Chained E M n 0 (replicate 16 0)
  unfolding chain
  chained_none = record { within = zero-le; so_far = refl }

  -- m is what was read at its place, and y what E made of it
  pub chained_turn : {i : ℕ} {x : List ℕ} (m y z : List ℕ) → Chained E M n i x → i < n →
      m ≡ take 16 (take (length M - 16 * i) (drop (16 * i) M)) → y ≡ xors x m → z ≡ E y → Chained E M n (i + 1) z
  unfolding chain
  chained_turn {i} {x} m y z c h e f g =
      record {
        within = omega arith;
        so_far = rw add-one (g ∙ ap E (f ∙ ap₂ xors c.so_far (e ∙ ap (take 16) (to_end M (16 * i)))));
      }

  pub chained_all : {i : ℕ} {x : List ℕ} → Chained E M n i x → n ≤ i → x ≡ chain E M n
  chained_all c h = c.so_far ∙ ap (chain E M) (le_antisymm c.within h)

-- ---- the last block

-- a part of under 16 bytes, padded as CBA pads
padded : (x : List ℕ) → length x < 16 → pad x ≡ padding x
unfolding pad padding
padded x h =
    let n = 15 - length x in
    let e : 16 ≡ length x + suc n = omega arith in
    ap (λ (k : ℕ). take k (x ++ (0x80 ∷ replicate 15 0))) e
    ∙ take-append-add x (0x80 ∷ replicate 15 0) (suc n)
    ∙ ap (λ (s : List ℕ). x ++ (0x80 ∷ s))
    (ap (λ (k : ℕ). take n (replicate k 0)) {x = 15} {y = n + length x} (omega arith)
    ∙ ap (take n) (sym (replicate-append-replicate n (length x) 0)) ∙ take_at (replicate n 0) (replicate (length x) 0) n (length-replicate n 0))

module _ (E : List ℕ → List ℕ) (x r : List ℕ) where
  pub last-full : (m k : List ℕ) → length x ≡ 16 → m ≡ take 16 x → k ≡ K1 E → r ≡ xors m k → r ≡ last_block E x
  unfolding last_block
  last-full m k h e f g = rw (eq-eqb (length x) 16 h) (g ∙ ap₂ xors (e ∙ take_all 16 x (omega arith)) f)

  pub last-padded : (m k : List ℕ) → length x ≤ 16 → (length x ≡ 16 → ⊥) → m ≡ pad x → k ≡ K2 E → r ≡ xors m k → r ≡ last_block E x
  unfolding last_block
  last-padded m k l h e f g = rw (ne_eqb (length x) 16 h) (g ∙ ap₂ xors (e ∙ padded x (omega arith)) f)

-- ---- the code

pub code_is : (key M : List ℕ) (n : ℕ) (last x y r : List ℕ) → n ≡ blocks (length M) - 1 → x ≡ chain (cipher key) M n →
    last ≡ last_block (cipher key) (take (length M - 16 * n) (drop (16 * n) M)) → y ≡ xors last x → r ≡ cipher key y → r ≡ cmac key M
unfolding cmac CMAC
code_is key M n last x y r e c l f g =
    g ∙ ap (cipher key)
    (f ∙ ap₂ xors (l ∙ ap (last_block (cipher key)) (to_end M (16 * n))) c
    ∙ ap (λ (k : ℕ). xors (last_block (cipher key) (drop (16 * k) M)) (chain (cipher key) M k)) e)
