-- What sealing is made of: a tag of the front of a block, a string at the end of one.
-- Assumes nothing.
use mathlib.Core.Path.{◌≡◌, refl, ap, ◌∙◌}
use mathlib.Core.List.{List, ◌∷◌, ◌++◌}
use Prim.Native.Nat.{ℕ, zero, suc, ◌-◌, ◌<◌, ◌≤◌}
use native.Mathlib.Omega.{arith}
use lib.ListN.{length, take, drop, replicate, length-take}
use Rattle.octets.proofs.Parts.{put_end}
use Rattle.cba_mode.specs.Sets.{tag_bytes}
use Rattle.cba_mode.specs.Offsets.{leading}

-- a part from the front that is there
pub take-size : (n : ℕ) (s : List ℕ) → n ≤ length s → length (take n s) ≡ n
take-size n s h = length-take n s ∙ omega arith

-- a tag is shorter than a block
pub tag_fits : {τ : ℕ} → τ < 128 → tag_bytes τ ≤ 16
tag_fits h = omega arith

pub tag_taken : (τ : ℕ) (e : List ℕ) → τ < 128 → length e ≡ 16 → length (take (tag_bytes τ) e) ≡ tag_bytes τ
tag_taken τ e h l = take-size (tag_bytes τ) e (omega arith)

take-replicate : (k n x : ℕ) → k ≤ n → take k (replicate n x) ≡ replicate k x
take-replicate zero n x h = refl
take-replicate (suc k) zero x h = absurd (omega arith)
take-replicate (suc k) (suc n) x h = ap (λ (s : List ℕ). x ∷ s) (take-replicate k n x (omega arith))

-- zeros before a string, by putting it at the end of zeros
pub right_put : (s last : List ℕ) → length s ≤ 16 →
    last ≡ s ++ drop (length s) (take (16 - (16 - length s)) (drop (16 - length s) (replicate 16 0))) →
    take (16 - length s) (replicate 16 0) ++ (last ++ drop (16 - (16 - length s)) (drop (16 - length s) (replicate 16 0))) ≡ leading 16 s
unfolding leading
right_put s last h e =
    put_end (replicate 16 0) (16 - length s) s last (omega arith) e
    ∙ ap (λ (z : List ℕ). z ++ s) (take-replicate (16 - length s) 16 0 (omega arith))
