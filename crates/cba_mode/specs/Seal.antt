-- ENC of document 002, over any block cipher E, any τ and b. All but its first step, T_A ← H(K, A), is a sealing with T_A, any string of
-- t bytes.
-- Assumes nothing.
use Rattle.std.specs.Prelude.{cond, List, [], ◌∷◌, ◌++◌, ℕ, zero, suc, ◌-◌, ◌/◌, ltb, length, take, drop, replicate}
use Rattle.octets.specs.Xor.{xors}
use Rattle.octets.specs.Blocks.{block}
use Rattle.cba_mode.specs.Sets.{tag_bytes, ell}
use Rattle.cba_mode.specs.Offsets.{F, start, offset, pad, leading, last_bytes}
use Rattle.cba_mode.specs.Data.{tag_of_data}
use Rattle.cba_mode.specs.Forms.{Form, full_blocks, seal_form}
use Rattle.cba_mode.specs.Forms.Form.{short, joined, separate}

-- M_1 ⊕ .. ⊕ M_i, the blocks of M'
unfoldable pub checksum : List ℕ → ℕ → List ℕ
checksum M' zero = replicate 16 0
checksum M' (suc i) = xors (checksum M' i) (block 16 M' i)

-- T = T_A ⊕ 0^{τ−ℓ} C_0
unfoldable pub T : ℕ → List ℕ → List ℕ → List ℕ
T τ Ta C₀ = xors Ta (leading (tag_bytes τ) C₀)

-- F_{3,5} where M_m has under n bits, F_{5,3} where it has n, of F_{2,4}(Δ)
unfoldable pub last_offset : List ℕ → ℕ → List ℕ
last_offset Δ n = cond (ltb n 16) (F 3 5 (F 2 4 Δ)) (F 5 3 (F 2 4 Δ))

module _ (E : List ℕ → List ℕ) where
  -- C_1 .. C_i: Δ becomes F_{2,2}(Δ), C_i = E(M_i ⊕ Δ) ⊕ Δ
  unfoldable pub cipher_blocks : List ℕ → List ℕ → ℕ → List ℕ
  cipher_blocks Δ M' zero = []
  cipher_blocks Δ M' (suc i) = cipher_blocks Δ M' i ++ xors (E (xors (block 16 M' i) (offset Δ (suc i)))) (offset Δ (suc i))

  -- C_{m−1} = MSB_{|M_m|+τ}(E(M_{m−1} ⊕ Δ)) ⊕ M_m T
  unfoldable pub joined_block : List ℕ → List ℕ → List ℕ → List ℕ
  joined_block Δ M₁ MmT = xors (take (length MmT) (E (xors M₁ Δ))) MmT

  -- C_m = S ⊕ E(pad(C_{m−1}) ⊕ F_{3,3}(Δ))
  unfoldable pub joined_last : List ℕ → List ℕ → List ℕ → List ℕ
  joined_last Δ S C₁ = xors S (E (xors (pad C₁) (F 3 3 Δ)))

  -- C_{m−1} C_m, from M_{m−1} and M_m T
  unfoldable pub joined_end : List ℕ → List ℕ → List ℕ → List ℕ → List ℕ
  joined_end Δ S M₁ MmT = let C₁ = joined_block Δ M₁ MmT in C₁ ++ joined_last Δ S C₁

  -- C_1 .. C_m of the joined form, from M' with k + 1 full blocks before the last
  unfoldable pub joined_tail : List ℕ → List ℕ → List ℕ → ℕ → List ℕ
  joined_tail Δ Tag M' k =
      cipher_blocks Δ M' k ++ joined_end (offset Δ (suc k)) (checksum M' (suc k)) (block 16 M' k) (block 16 M' (suc k) ++ Tag)

  -- C_m = M_m ⊕ MSB_{|M_m|}(E(0^{n−τ} T ⊕ F_{2,4}(Δ))), which is also M_m from C_m
  unfoldable pub last_block : List ℕ → List ℕ → List ℕ → List ℕ
  last_block Δ Tag Mm = xors Mm (take (length Mm) (E (xors (leading 16 Tag) (F 2 4 Δ))))

  module _ (τ : ℕ) where
    -- C_{m+1} = MSB_τ(E(S ⊕ 0^{n−τ} T ⊕ Δ)), with S = M_1 ⊕ .. ⊕ M_{m−1} ⊕ pad(M_m)
    unfoldable pub separate_tag : List ℕ → List ℕ → List ℕ → List ℕ → List ℕ
    separate_tag Δ Tag S Mm = take (tag_bytes τ) (E (xors (xors (xors S (pad Mm)) (leading 16 Tag)) (last_offset Δ (length Mm))))

    -- C_1 .. C_m C_{m+1} of the separate form, from M' with k full blocks before the last
    unfoldable pub separate_tail : List ℕ → List ℕ → List ℕ → ℕ → List ℕ
    separate_tail Δ Tag M' k =
        let Mm = block 16 M' k in
        cipher_blocks Δ M' k ++ (last_block (offset Δ k) Tag Mm ++ separate_tag (offset Δ k) Tag (checksum M' k) Mm)

  module _ (τ b : ℕ) where
    -- R = E(0^{16} [τ]_8 [b]_8 N)
    unfoldable pub R : List ℕ → List ℕ
    R N = E (0 ∷ 0 ∷ τ ∷ b ∷ N)

    -- the first offset of a message
    abbrev pub Δ₀ : List ℕ → List ℕ
    Δ₀ N = start (R N) (ell τ b)

    -- C_0 = M_0 ⊕ LSB_{|M_0|}(R), which is also M_0 from C_0
    unfoldable pub masked : List ℕ → List ℕ → List ℕ
    masked N M₀ = xors M₀ (last_bytes (length M₀) (R N))

    -- C_1 = MSB_τ(E(0^{n−τ} T_A ⊕ pad(C_0) ⊕ F_{3,3}(Δ)))
    unfoldable pub short_tag : List ℕ → List ℕ → List ℕ → List ℕ
    short_tag N Ta C₀ = take (tag_bytes τ) (E (xors (xors (leading 16 Ta) (pad C₀)) (F 3 3 (Δ₀ N))))

    -- the sealing in each form
    unfoldable pub seal_as : Form → List ℕ → List ℕ → List ℕ → List ℕ
    seal_as short N Ta M = let C₀ = masked N M in C₀ ++ short_tag N Ta C₀
    seal_as joined N Ta M =
        let l = ell τ b / 8 in
        let C₀ = masked N (take l M) in
        C₀ ++ joined_tail (Δ₀ N) (T τ Ta C₀) (drop l M) (full_blocks l (length M) - 1)
    seal_as separate N Ta M =
        let l = ell τ b / 8 in
        let C₀ = masked N (take l M) in
        C₀ ++ separate_tail τ (Δ₀ N) (T τ Ta C₀) (drop l M) (full_blocks l (length M))

    -- ENC after its first step
    unfoldable pub seal_with : List ℕ → List ℕ → List ℕ → List ℕ
    seal_with N Ta M = seal_as (seal_form (ell τ b / 8) (tag_bytes τ) (length M)) N Ta M

    -- ENC(K, N, A, M): T_A is H(K, A)
    abbrev pub ENC : List ℕ → List ℕ → List ℕ → List ℕ
    ENC N A M = seal_with N (tag_of_data E τ b A) M
