-- C_0 and T, from R and T_A.
-- Assumes nothing.
use mathlib.Core.Path.{◌≡◌, refl, sym, ap, ap₂, ◌∙◌}
use mathlib.Core.List.{List, ◌++◌, append_assoc}
use Prim.Native.Nat.{ℕ, ◌+◌, ◌-◌, ◌≤◌}
use native.Mathlib.Omega.{arith}
use lib.ListN.{length, take, drop, replicate, length-append, length-drop, length-replicate, replicate-append-replicate}
use lib.Seq.{take_all, take_at}
use Rattle.octets.specs.Xor.{xors}
use Rattle.octets.proofs.Xor.{append_xors, xors-self, length-xors}
use Rattle.cba_mode.specs.Sets.{tag_bytes}
use Rattle.cba_mode.specs.Offsets.{leading, last_bytes}
use Rattle.cba_mode.specs.Seal.{R, masked, T}
use Rattle.octets.proofs.Parts.{size_of}

-- zeros before a string, in two steps
leading-twice : (n t : ℕ) (C : List ℕ) → length C ≤ t → t ≤ n → leading n C ≡ replicate (n - t) 0 ++ leading t C
unfolding leading
leading-twice n t C h k =
    let e : n - t + (t - length C) ≡ n - length C = omega arith in
    ap (λ (z : List ℕ). z ++ C) (sym (replicate-append-replicate (n - t) (t - length C) 0 ∙ ap (λ (m : ℕ). replicate m 0) e))
    ∙ append_assoc (replicate (n - t) 0) (replicate (t - length C) 0) C

length-leading : (n : ℕ) (C : List ℕ) → length C ≤ n → length (leading n C) ≡ n
unfolding leading
length-leading n C h = simp (length-append, length-replicate) (omega arith)

leading_at : (t : ℕ) (s : List ℕ) → length s ≡ t → leading 16 s ≡ replicate (16 - t) 0 ++ s
unfolding leading
leading_at t s q = ap (λ (n : ℕ). replicate (16 - n) 0 ++ s) q

-- the sum of two strings with zeros before them
leading-xors : (t : ℕ) (A C : List ℕ) → length A ≡ t → length C ≤ t → t ≤ 16 → xors (leading 16 A) (leading 16 C) ≡ leading 16 (xors A (leading t C))
leading-xors t A C e h k =
    let z : List ℕ = replicate (16 - t) 0 in
    let l : length (xors A (leading t C)) ≡ t = length-xors A (leading t C) ∙ omega (arith, length-leading t C h) in
    let a : leading 16 A ≡ z ++ A = leading_at t A e in
    let c : leading 16 (xors A (leading t C)) ≡ z ++ xors A (leading t C) = leading_at t (xors A (leading t C)) l in
    ap₂ xors a (leading-twice 16 t C h k) ∙ append_xors z z A (leading t C) refl
    ∙ ap (λ (x : List ℕ). x ++ xors A (leading t C)) (xors-self z ∙ ap (λ (m : ℕ). replicate m 0) (length-replicate (16 - t) 0)) ∙ sym c

module _ (E : List ℕ → List ℕ) (τ b : ℕ) (N Ta : List ℕ) where
  -- C_0 by the mask
  pub masked-is : (m r : List ℕ) → r ≡ R E τ b N → length r ≡ 16 → length m ≤ 16 → xors m (take (length m) (drop (16 - length m) r)) ≡ masked E τ b N m
  unfolding masked last_bytes
  masked-is m r e l h =
      ap (xors m)
      (take_all (length m) (drop (16 - length m) r) (simp length-drop (omega arith)) ∙ ap₂ (λ (n : ℕ) (x : List ℕ). drop (n - length m) x) (sym l) e
      ∙ ap (λ (x : List ℕ). drop (length x - length m) (R E τ b N)) e)

  -- what is left in out
  pub first_out : (m r d out : List ℕ) → r ≡ R E τ b N → length r ≡ 16 → length m ≤ 16 →
      out ≡ xors m (take (length m) (drop (16 - length m) r)) ++ drop (length m) d → out ≡ masked E τ b N m ++ drop (length m) d
  first_out m r d out e l h w = w ∙ ap (λ (x : List ℕ). x ++ drop (length m) d) (masked-is m r e l h)

  pub first_taken : (m d out : List ℕ) → out ≡ masked E τ b N m ++ drop (length m) d → length out ≡ length d → length m ≤ length d → take (length m) out ≡ masked E τ b N m
  first_taken m d out w l h = ap (take (length m)) w ∙ take_at (masked E τ b N m) (drop (length m) d) (length m) (size_of d (masked E τ b N m) out (length m) w l h)

  -- T with zeros before it, and that T has t bytes
  pub first-tag : (C ta t : List ℕ) → ta ≡ leading 16 Ta → length Ta ≡ tag_bytes τ → length C ≤ tag_bytes τ → tag_bytes τ ≤ 16 →
      t ≡ xors ta (leading 16 C) → (t ≡ leading 16 (T τ Ta C)) × (length (T τ Ta C) ≡ tag_bytes τ)
  unfolding T
  first-tag C ta t ed la h ht et = (
    et ∙ ap (λ (x : List ℕ). xors x (leading 16 C)) ed ∙ leading-xors (tag_bytes τ) Ta C la h ht,
    length-xors Ta (leading (tag_bytes τ) C) ∙ omega (arith, length-leading (tag_bytes τ) C h),
  )

  -- the same where C_0 is read off what was written
  pub written-tag : (m d out ta t : List ℕ) → out ≡ masked E τ b N m ++ drop (length m) d → length out ≡ length d → length m ≤ length d →
      ta ≡ leading 16 Ta → length Ta ≡ tag_bytes τ → length m ≤ tag_bytes τ → tag_bytes τ ≤ 16 →
      t ≡ xors ta (leading 16 (take (length m) out)) → (t ≡ leading 16 (T τ Ta (masked E τ b N m))) × (length (T τ Ta (masked E τ b N m)) ≡ tag_bytes τ)
  written-tag m d out ta t w l h ed la hm ht et =
      let s : length (masked E τ b N m) ≡ length m = size_of d (masked E τ b N m) out (length m) w l h in
      first-tag (masked E τ b N m) ta t ed la (omega arith) ht (et ∙ ap (λ (x : List ℕ). xors ta (leading 16 x)) (first_taken m d out w l h))
