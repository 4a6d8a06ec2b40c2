-- What the joined and the separate form write after C_0, put together from their parts.
-- Assumes nothing.
use mathlib.Core.Path.{◌≡◌, refl, sym, ap, ap₂, ◌∙◌}
use mathlib.Core.List.{List, ◌++◌}
use Prim.Native.Nat.{ℕ, suc, ◌+◌, ◌-◌, ◌*◌, ◌<◌, ◌≤◌}
use native.Mathlib.Nat.{mul-suc}
use native.Mathlib.Omega.{arith}
use lib.ListN.{length, take, drop, length-append, length-take, length-drop}
use lib.Seq.{take_all, take_at, take-add, drop-drop}
use Rattle.octets.specs.Xor.{xors}
use Rattle.octets.specs.Blocks.{block}
use Rattle.octets.proofs.Xor.{xors-comm, append_xors}
use Rattle.octets.specs.Strings.{over}
use Rattle.cba_mode.specs.Sets.{tag_bytes}
use Rattle.cba_mode.specs.Offsets.{F, offset, leading}
use Rattle.cba_mode.specs.Seal.{checksum, cipher_blocks, joined_block, joined_last, joined_end, joined_tail, last_block, separate_tag, separate_tail}
use Rattle.cba_sealing.specs.Calls.{tag_block}
use Rattle.octets.proofs.Parts.{then, to_end, size_of}

module _ (E : List ℕ → List ℕ) where
  -- M_m and T masked one after the other
  joined-parts : (e last tag : List ℕ) → length last + length tag ≤ length e →
      xors last (take (length last) e) ++ xors tag (take (length tag) (drop (length last) e)) ≡ xors (take (length (last ++ tag)) e) (last ++ tag)
  joined-parts e last tag h =
      let l : length last ≡ length (take (length last) e) = simp length-take (omega arith) in
      sym (append_xors last (take (length last) e) tag (take (length tag) (drop (length last) e)) l)
      ∙ ap (xors (last ++ tag)) (sym (take-add (length last) (length tag) e) ∙ ap (λ (n : ℕ). take n e) (sym (length-append last tag)))
      ∙ xors-comm (last ++ tag) (take (length (last ++ tag)) e)

  pub joined-block-turn : (Δ m last tag d e out w : List ℕ) → e ≡ E (xors m Δ) → length e ≡ 16 →
      length last + length tag ≤ 16 → length last + length tag ≤ length d →
      out ≡ xors last (take (length last) e) ++ drop (length last) d → length out ≡ length d →
      w ≡ xors tag (take (length tag) (drop (length last) e)) ++ drop (length tag) (take (length out - length last) (drop (length last) out)) →
      length w ≡ length (take (length out - length last) (drop (length last) out)) →
      take (length last) out ++ (w ++ drop (length out - length last) (drop (length last) out))
      ≡ joined_block E Δ m (last ++ tag) ++ drop (length last + length tag) d
  unfolding joined_block
  joined-block-turn Δ m last tag d e out w ee le h hd eo lo ew lw =
      then d (xors last (take (length last) e)) out (xors tag (take (length tag) (drop (length last) e))) w (length last) (length tag) eo lo hd ew lw
      ∙ ap (λ (x : List ℕ). x ++ drop (length last + length tag) d)
      (joined-parts e last tag (omega arith) ∙ ap (λ (x : List ℕ). xors (take (length (last ++ tag)) x) (last ++ tag)) ee)

  pub joined_end_turn : (Δₖ S₀ Δ S m rest tag d out c w : List ℕ) → let n = length rest - 16 + length tag in
      Δ ≡ F 2 2 Δₖ → m ≡ take 16 rest → S ≡ xors S₀ m → 16 ≤ length rest → length rest + length tag ≤ length d →
      out ≡ joined_block E Δ m (take (length rest - 16) (drop 16 rest) ++ tag) ++ drop (length (take (length rest - 16) (drop 16 rest)) + length tag) d →
      length out ≡ length d → c ≡ joined_last E Δ S (take n out) → length c ≡ 16 →
      w ≡ c ++ drop (length c) (take (length out - n) (drop n out)) → length w ≡ length (take (length out - n) (drop n out)) →
      take n out ++ (w ++ drop (length out - n) (drop n out))
      ≡ joined_end E (F 2 2 Δₖ) (xors S₀ (take 16 rest)) (take 16 rest) (drop 16 rest ++ tag) ++ drop (length rest + length tag) d
  unfolding joined_end
  joined_end_turn Δₖ S₀ Δ S m rest tag d out c w eΔ em eS h hd eo lo ec lc ew lw =
      let n = length rest - 16 + length tag in
      let C₁ = joined_block E Δ m (drop 16 rest ++ tag) in
      let eo' : out ≡ C₁ ++ drop n d =
      eo ∙ ap (λ (x : List ℕ). joined_block E Δ m (x ++ tag) ++ drop (length x + length tag) d) (to_end rest 16)
      ∙ ap (λ (k : ℕ). C₁ ++ drop (k + length tag) d) (length-drop 16 rest) in
      let first : take n out ≡ C₁ = rw eo' (take_at C₁ (drop n d) n (size_of d C₁ out n eo' lo (omega arith))) in
      let all : n + 16 ≡ length rest + length tag = omega arith in
      let same : joined_end E Δ S m (drop 16 rest ++ tag) ≡ joined_end E (F 2 2 Δₖ) (xors S₀ (take 16 rest)) (take 16 rest) (drop 16 rest ++ tag) = rw (eS, em, eΔ) refl in
      then d C₁ out c w n 16 eo' lo (omega arith) (ew ∙ ap (λ (k : ℕ). c ++ drop k (take (length out - n) (drop n out))) lc) lw
      ∙ ap₂ (λ (x : List ℕ) (k : ℕ). (C₁ ++ x) ++ drop k d) (ec ∙ ap (joined_last E Δ S) first) all
      ∙ ap (λ (x : List ℕ). x ++ drop (length rest + length tag) d) same

  pub joined-tail-turn : (Δ tag M' d out w Δₖ S : List ℕ) (k : ℕ) → let rest = take (length M' - 16 * k) (drop (16 * k) M') in
      16 * suc k < length M' → length M' ≤ 16 * suc (suc k) → length M' + length tag ≤ length d → length out ≡ length d →
      Δₖ ≡ offset Δ k → S ≡ checksum M' k → out ≡ cipher_blocks E Δ M' k ++ drop (16 * k) d →
      w ≡ joined_end E (F 2 2 Δₖ) (xors S (take 16 rest)) (take 16 rest) (drop 16 rest ++ tag)
      ++ drop (length rest + length tag) (take (length out - 16 * k) (drop (16 * k) out)) →
      length w ≡ length (take (length out - 16 * k) (drop (16 * k) out)) →
      take (16 * k) out ++ (w ++ drop (length out - 16 * k) (drop (16 * k) out)) ≡ joined_tail E Δ tag M' k ++ drop (length M' + length tag) d
  unfolding joined_tail offset checksum
  joined-tail-turn Δ tag M' d out w Δₖ S k h₁ h₂ hd lo eΔ eS eo ew lw =
      let rest = take (length M' - 16 * k) (drop (16 * k) M') in
      let er : rest ≡ drop (16 * k) M' = to_end M' (16 * k) in
      let lr : length rest ≡ length M' - 16 * k = ap length er ∙ length-drop (16 * k) M' in
      let el : drop 16 rest ≡ block 16 M' (suc k) =
      ap (drop 16) er ∙ drop-drop 16 (16 * k) M' ∙ ap (λ (n : ℕ). drop n M') (sym (mul-suc 16 k))
      ∙ sym (take_all 16 (drop (16 * suc k) M') (simp length-drop (omega arith))) in
      let all : 16 * k + (length rest + length tag) ≡ length M' + length tag = omega (arith, lr) in
      let em : take 16 rest ≡ block 16 M' k = ap (take 16) er in
      then d (cipher_blocks E Δ M' k) out (joined_end E (F 2 2 Δₖ) (xors S (take 16 rest)) (take 16 rest) (drop 16 rest ++ tag)) w (16 * k) (length rest + length tag)
      eo lo (omega (arith, lr)) ew lw
      ∙ ap₂ (λ (x : List ℕ) (n : ℕ). (cipher_blocks E Δ M' k ++ x) ++ drop n d) (rw (eΔ, eS, em, el) refl) all

  -- ---- the separate form

  pub last-block-turn : (Δ tag last d e out : List ℕ) → e ≡ E (xors (leading 16 tag) (F 2 4 Δ)) → out ≡ xors last (take (length last) e) ++ drop (length last) d →
      out ≡ last_block E Δ tag last ++ drop (length last) d
  unfolding last_block
  last-block-turn Δ tag last d e out ee eo = eo ∙ ap (λ (x : List ℕ). xors last (take (length last) x) ++ drop (length last) d) ee

  pub separate_end_turn : (Δ S tag last d out e w : List ℕ) → length tag ≤ 16 → length last + length tag ≤ length d →
      out ≡ last_block E Δ tag last ++ drop (length last) d → length out ≡ length d → e ≡ tag_block E Δ tag S last → length e ≡ 16 →
      w ≡ over (take (length tag) e) (take (length out - length last) (drop (length last) out)) →
      length w ≡ length (take (length out - length last) (drop (length last) out)) →
      take (length last) out ++ (w ++ drop (length out - length last) (drop (length last) out))
      ≡ (last_block E Δ tag last ++ take (length tag) (tag_block E Δ tag S last)) ++ drop (length last + length tag) d
  separate_end_turn Δ S tag last d out e w t hd eo lo ee le ew lw =
      let l : length (take (length tag) e) ≡ length tag = simp length-take (omega arith) in
      then d (last_block E Δ tag last) out (take (length tag) e) w (length last) (length tag) eo lo hd
      (ew ∙ ap (λ (k : ℕ). take (length tag) e ++ drop k (take (length out - length last) (drop (length last) out))) l) lw
      ∙ ap (λ (x : List ℕ). (last_block E Δ tag last ++ take (length tag) x) ++ drop (length last + length tag) d) ee

  pub separate_tail-turn : (Δ tag M' d out w Δₖ S : List ℕ) (k : ℕ) → let rest = take (length M' - 16 * k) (drop (16 * k) M') in
      16 * k < length M' → length M' ≤ 16 * suc k → length M' + length tag ≤ length d → length out ≡ length d →
      Δₖ ≡ offset Δ k → S ≡ checksum M' k → out ≡ cipher_blocks E Δ M' k ++ drop (16 * k) d →
      w ≡ (last_block E Δₖ tag rest ++ take (length tag) (tag_block E Δₖ tag S rest)) ++ drop (length rest + length tag) (take (length out - 16 * k) (drop (16 * k) out)) →
      length w ≡ length (take (length out - 16 * k) (drop (16 * k) out)) →
      take (16 * k) out ++ (w ++ drop (length out - 16 * k) (drop (16 * k) out)) ≡ separate_tail E (8 * length tag) Δ tag M' k ++ drop (length M' + length tag) d
  unfolding separate_tail separate_tag
  separate_tail-turn Δ tag M' d out w Δₖ S k h₁ h₂ hd lo eΔ eS eo ew lw =
      let rest = take (length M' - 16 * k) (drop (16 * k) M') in
      let lr : length rest ≡ length M' - 16 * k = ap length (to_end M' (16 * k)) ∙ length-drop (16 * k) M' in
      let er : rest ≡ block 16 M' k = to_end M' (16 * k) ∙ sym (take_all 16 (drop (16 * k) M') (simp length-drop (omega arith))) in
      let all : 16 * k + (length rest + length tag) ≡ length M' + length tag = omega (arith, lr) in
      let size : length tag ≡ tag_bytes (8 * length tag) = omega arith in
      let last : List ℕ → ℕ → List ℕ = λ x n. last_block E Δₖ tag x ++ take n (tag_block E Δₖ tag S x) in
      then d (cipher_blocks E Δ M' k) out (last rest (length tag)) w (16 * k) (length rest + length tag) eo lo (omega (arith, lr)) ew lw
      ∙ ap₂ (λ (x : List ℕ) (n : ℕ). (cipher_blocks E Δ M' k ++ x) ++ drop n d) (ap₂ last er size ∙ rw (eΔ, eS) refl) all
