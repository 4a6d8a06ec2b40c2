-- Lengths and bytes: T_A has t bytes, an offset is a block, a sealing is t bytes longer than its message. The rows of Reference are
-- checked before these laws.
-- Assumes nothing.
use mathlib.Core.Path.{◌≡◌, refl, sym, subst, ◌∙◌}
use mathlib.Core.Bool.{Bool, true, false, cond}
use mathlib.Core.List.{List, ◌++◌}
use Prim.Native.Nat.{ℕ, zero, suc, ◌+◌, ◌-◌, ◌*◌, ◌/◌, ◌<◌, ◌≤◌}
use native.Mathlib.Omega.{arith}
use lib.Dec.{eqb, ltb}
use lib.ListN.{length, take, drop, replicate, length-replicate, length-take, length-drop}
use Rattle.octets.specs.Strings.{Bytes, Octets}
use Rattle.octets.specs.Xor.{xors}
use Rattle.octets.specs.Blocks.{block}
use Rattle.octets.proofs.Strings.{bytes_take, bytes_drop, bytes-replicate}
use Rattle.octets.proofs.Blocks.{length-block}
use Rattle.cba_mode.specs.Sets.{tag_bytes, ell}
use Rattle.cba_mode.specs.Offsets.{F, leading, last_bytes}
use Rattle.cba_mode.specs.Data.{block_sum, with_rest, data_sum, data_hash, tag_of_data}
use Rattle.cba_mode.specs.Seal.{checksum, cipher_blocks, R, Δ₀, masked, short_tag, T, joined_block, joined_last, joined_end, joined_tail, last_block, last_offset, separate_tag, separate_tail, seal_as, seal_with}
use Rattle.cba_mode.specs.Forms.{Form, full_blocks, last_length}
use Rattle.cba_mode.specs.Forms.Form.{short, joined, separate}
use Rattle.cba_mode.proofs.Reference
use Rattle.cba_mode.proofs.FormLaws.{by_form, seal_short, seal_joined, seal_long, seal_single}
use Rattle.cba_mode.proofs.OffsetLaws.{xors-octets, append_octets, take-octets, drop-octets, F-octets, start-octets, offset-octets, pad-octets}

-- ---- strings

pub zeros-octets : (n : ℕ) → Octets n (replicate n 0)
zeros-octets n = record { size = length-replicate n 0; small = bytes-replicate n 0 (omega arith) }

either_octets : (x : Bool) {s t : List ℕ} → Octets 16 s → Octets 16 t → Octets 16 (cond x s t)
either_octets true p q = p
either_octets false p q = q

pub block-octets : (s : List ℕ) (i : ℕ) → Bytes s → 16 * suc i ≤ length s → Octets 16 (block 16 s i)
block-octets s i b h = record { size = length-block 16 s i h; small = bytes_take 16 (drop (16 * i) s) (bytes_drop (16 * i) s b) }

pub leading-octets : (n : ℕ) {k : ℕ} {A : List ℕ} → Octets k A → k ≤ n → Octets n (leading n A)
unfolding leading
leading-octets n {k} {A} o h =
    let p = append_octets (zeros-octets (n - length A)) o in
    record { size = p.size ∙ omega (arith, o.size); small = p.small }

pub last_bytes-octets : (k : ℕ) {n : ℕ} {A : List ℕ} → Octets n A → k ≤ n → Octets k (last_bytes k A)
unfolding last_bytes
last_bytes-octets k {n} {A} o h =
    let p = drop-octets (length A - k) n o in
    record { size = p.size ∙ omega (arith, o.size); small = p.small }

pub checksum-octets : (M : List ℕ) (i : ℕ) → Bytes M → 16 * i ≤ length M → Octets 16 (checksum M i)
unfolding checksum
checksum-octets M zero b h = zeros-octets 16
checksum-octets M (suc i) b h = xors-octets 16 (checksum-octets M i b (omega arith)) (block-octets M i b h)

-- ---- over a block cipher

module _ (E : List ℕ → List ℕ) (E-octets : (x : List ℕ) → Octets 16 x → Octets 16 (E x)) where
  -- E of a block plus an offset
  pub whitened : {x Δ : List ℕ} → Octets 16 x → Octets 16 Δ → Octets 16 (E (xors x Δ))
  whitened {x} {Δ} p q = E-octets (xors x Δ) (xors-octets 16 p q)

  block_sum-octets : (s Δ A : List ℕ) (n : ℕ) → Octets 16 s → Octets 16 Δ → Bytes A → 16 * n ≤ length A → Octets 16 (block_sum E s Δ A n)
  unfolding block_sum
  block_sum-octets s Δ A zero p q b h = p
  block_sum-octets s Δ A (suc n) p q b h =
      xors-octets 16 (block_sum-octets s Δ A n p q b (omega arith)) (whitened (block-octets A n b h) (offset-octets (suc n) q))

  with_rest-octets : (s Δ A : List ℕ) → Octets 16 s → Octets 16 Δ → Bytes A → Octets 16 (with_rest E s Δ A)
  unfolding with_rest
  with_rest-octets s Δ A p q b =
      either_octets (eqb (length A) 0) p (xors-octets 16 p (whitened (pad-octets A b) (F-octets 3 3 q)))

  pub data_sum-octets : (s Δ A : List ℕ) → Octets 16 s → Octets 16 Δ → Bytes A → Octets 16 (data_sum E s Δ A)
  unfolding data_sum
  data_sum-octets s Δ A p q b =
      with_rest-octets _ _ (drop (16 * (length A / 16)) A) (block_sum-octets s Δ A (length A / 16) p q b (omega arith)) (offset-octets (length A / 16) q) (bytes_drop (16 * (length A / 16)) A b)

  pub cipher_blocks-octets : (Δ M : List ℕ) (k : ℕ) → Octets 16 Δ → Bytes M → 16 * k ≤ length M → Octets (16 * k) (cipher_blocks E Δ M k)
  unfolding cipher_blocks
  cipher_blocks-octets Δ M zero q b h = record { size = refl; small = tt }
  cipher_blocks-octets Δ M (suc k) q b h =
      let p =
      append_octets (cipher_blocks-octets Δ M k q b (omega arith))
      (xors-octets 16 (whitened (block-octets M k b h) (offset-octets (suc k) q)) (offset-octets (suc k) q)) in
      record { size = p.size ∙ omega arith; small = p.small }

  module _ (τ b : ℕ) (τ-byte : τ < 256) (b_byte : b < 256) (t-most : tag_bytes τ ≤ 16) where
    -- T_A has t bytes
    pub tag_of_data-octets : (A : List ℕ) → Bytes A → Octets (tag_bytes τ) (tag_of_data E τ b A)
    unfolding tag_of_data data_hash
    tag_of_data-octets A h = take-octets (tag_bytes τ) 16 (data_sum-octets _ _ A (zeros-octets 16) (start-octets _ 0) h) t-most

    module _ (N Ta : List ℕ) (n : Octets 12 N) (a : Octets (tag_bytes τ) Ta) where
      pub R-octets : Octets 16 (R E τ b N)
      unfolding R
      R-octets = E-octets _ (record { size = omega (arith, n.size); small = (omega arith, (omega arith, (omega arith, (omega arith, n.small)))) })

      pub Δ₀-octets : Octets 16 (Δ₀ E τ b N)
      Δ₀-octets = start-octets _ (ell τ b)

      pub masked-octets : {k : ℕ} {M : List ℕ} → Octets k M → k ≤ 16 → Octets k (masked E τ b N M)
      unfolding masked
      masked-octets {k} {M} o h =
          xors-octets k o (subst (λ (j : ℕ). Octets k (last_bytes j (R E τ b N))) (sym o.size) (last_bytes-octets k R-octets h))

      -- E of a sum of three, and its first t bytes
      pub tag-octets : {x y Δ : List ℕ} → Octets 16 x → Octets 16 y → Octets 16 Δ → Octets (tag_bytes τ) (take (tag_bytes τ) (E (xors (xors x y) Δ)))
      tag-octets p q r = take-octets (tag_bytes τ) 16 (whitened (xors-octets 16 p q) r) t-most

      pub short_tag-octets : (C : List ℕ) → Bytes C → Octets (tag_bytes τ) (short_tag E τ b N Ta C)
      unfolding short_tag
      short_tag-octets C c = tag-octets (leading-octets 16 a t-most) (pad-octets C c) (F-octets 3 3 Δ₀-octets)

      pub T-octets : {k : ℕ} {C : List ℕ} → Octets k C → k ≤ tag_bytes τ → Octets (tag_bytes τ) (T τ Ta C)
      unfolding T
      T-octets o h = xors-octets (tag_bytes τ) a (leading-octets (tag_bytes τ) o h)

      -- a last block of r bytes
      block-rest : (M : List ℕ) (i r : ℕ) → Bytes M → length M ≡ 16 * i + r → r ≤ 16 → Octets r (block 16 M i)
      block-rest M i r c h k =
          record {
            size = length-take 16 (drop (16 * i) M) ∙ omega (arith, length-drop (16 * i) M);
            small = bytes_take 16 (drop (16 * i) M) (bytes_drop (16 * i) M c);
          }

      pub joined_block-octets : {m : ℕ} {Δ M X : List ℕ} → Octets 16 Δ → Octets 16 M → Octets m X → m ≤ 16 → Octets m (joined_block E Δ M X)
      unfolding joined_block
      joined_block-octets {m} {Δ} {M} {X} p q o h =
          xors-octets m (subst (λ (j : ℕ). Octets m (take j (E (xors M Δ)))) (sym o.size) (take-octets m 16 (whitened q p) h)) o

      joined_tail-octets : (Tag M : List ℕ) (k r : ℕ) → Octets (tag_bytes τ) Tag → Bytes M → length M ≡ 16 * suc k + r → r + tag_bytes τ ≤ 16 →
          Octets (length M + tag_bytes τ) (joined_tail E (Δ₀ E τ b N) Tag M k)
      unfolding joined_tail joined_end joined_last
      joined_tail-octets Tag M k r o c h m =
          let Δ = offset-octets (suc k) Δ₀-octets in
          let C₁ = joined_block-octets Δ (block-octets M k c (omega arith)) (append_octets (block-rest M (suc k) r c h (omega arith)) o) m in
          let Cm = xors-octets 16 (checksum-octets M (suc k) c (omega arith)) (whitened (pad-octets _ C₁.small) (F-octets 3 3 Δ)) in
          let p = append_octets (cipher_blocks-octets (Δ₀ E τ b N) M k Δ₀-octets c (omega arith)) (append_octets C₁ Cm) in
          record { size = p.size ∙ omega arith; small = p.small }

      pub last_offset-octets : {Δ : List ℕ} (n : ℕ) → Octets 16 Δ → Octets 16 (last_offset Δ n)
      unfolding last_offset
      last_offset-octets n o = either_octets (ltb n 16) (F-octets _ _ (F-octets 2 4 o)) (F-octets _ _ (F-octets 2 4 o))

      pub last_block-octets : {m : ℕ} {Δ Tag M : List ℕ} → Octets 16 Δ → Octets (tag_bytes τ) Tag → Octets m M → m ≤ 16 → Octets m (last_block E Δ Tag M)
      unfolding last_block
      last_block-octets {m} {Δ} {Tag} {M} p q o h =
          xors-octets m o
          (subst (λ (j : ℕ). Octets m (take j (E (xors (leading 16 Tag) (F 2 4 Δ))))) (sym o.size)
          (take-octets m 16 (whitened (leading-octets 16 q t-most) (F-octets 2 4 p)) h))

      separate_tail-octets : (Tag M : List ℕ) (k r : ℕ) → Octets (tag_bytes τ) Tag → Bytes M → length M ≡ 16 * k + r → r ≤ 16 →
          Octets (length M + tag_bytes τ) (separate_tail E τ (Δ₀ E τ b N) Tag M k)
      unfolding separate_tail separate_tag
      separate_tail-octets Tag M k r o c h m =
          let Δ = offset-octets k Δ₀-octets in
          let Mm = block-rest M k r c h m in
          let Cm = last_block-octets Δ o Mm m in
          let tag =
          tag-octets (xors-octets 16 (checksum-octets M k c (omega arith)) (pad-octets _ Mm.small)) (leading-octets 16 o t-most)
          (last_offset-octets (length (block 16 M k)) Δ) in
          let p = append_octets (cipher_blocks-octets (Δ₀ E τ b N) M k Δ₀-octets c (omega arith)) (append_octets Cm tag) in
          record { size = p.size ∙ omega arith; small = p.small }

      -- ---- the whole sealing, by the form that the length takes

      module _ (M : List ℕ) (c : Bytes M) where
        l : ℕ
        l = ell τ b / 8

        seal_as-short : length M ≤ l → Octets (length M + tag_bytes τ) (seal_as E τ b short N Ta M)
        unfolding seal_as l
        seal_as-short h =
            let C₀ = masked-octets {k = length M} {M = M} (record { size = refl; small = c }) (omega arith) in
            append_octets C₀ (short_tag-octets _ C₀.small)

        -- C_0 has ℓ bits, and T is made from it
        C₀-octets : l ≤ length M → Octets l (masked E τ b N (take l M))
        unfolding l
        C₀-octets h = masked-octets (take-octets l (length M) (record { size = refl; small = c }) h) (omega arith)

        with_C₀ : {X : List ℕ} → l ≤ length M → Octets (length (drop l M) + tag_bytes τ) X → Octets (length M + tag_bytes τ) (masked E τ b N (take l M) ++ X)
        with_C₀ h o =
            let p = append_octets (C₀-octets h) o in
            record { size = p.size ∙ omega (arith, length-drop l M); small = p.small }

        T₀-octets : l ≤ length M → Octets (tag_bytes τ) (T τ Ta (masked E τ b N (take l M)))
        unfolding l
        T₀-octets h = T-octets (C₀-octets h) (omega arith)

        seal_as-joined : l < length M → last_length l (length M) + tag_bytes τ ≤ 16 → 1 ≤ full_blocks l (length M) → Octets (length M + tag_bytes τ) (seal_as E τ b joined N Ta M)
        unfolding seal_as l
        seal_as-joined k p q =
            with_C₀ (omega arith)
            (joined_tail-octets _ (drop l M) (full_blocks l (length M) - 1) (last_length l (length M)) (T₀-octets (omega arith)) (bytes_drop l M c) (omega (arith, length-drop l M)) p)

        seal_as_separate : l < length M → Octets (length M + tag_bytes τ) (seal_as E τ b separate N Ta M)
        unfolding seal_as l
        seal_as_separate k =
            with_C₀ (omega arith)
            (separate_tail-octets _ (drop l M) (full_blocks l (length M)) (last_length l (length M)) (T₀-octets (omega arith)) (bytes_drop l M c) (omega (arith, length-drop l M)) (omega arith))

        -- a sealing is a string of t bytes more than the message
        pub seal_with-octets : Octets (length M + tag_bytes τ) (seal_with E τ b N Ta M)
        unfolding seal_with l
        seal_with-octets =
            by_form l (tag_bytes τ) (length M)
            (λ k. in_form (seal_short l (tag_bytes τ) (length M) k) (seal_as-short k))
            (λ k p q. in_form (seal_joined l (tag_bytes τ) (length M) k p q) (seal_as-joined k p q))
            (λ k p. in_form (seal_long l (tag_bytes τ) (length M) k p) (seal_as_separate k))
            (λ k p q. in_form (seal_single l (tag_bytes τ) (length M) k p q) (seal_as_separate k))
          where
            in_form : {f g : Form} → f ≡ g → Octets (length M + tag_bytes τ) (seal_as E τ b g N Ta M) → Octets (length M + tag_bytes τ) (seal_as E τ b f N Ta M)
            in_form e o = subst (λ (f : Form). Octets (length M + tag_bytes τ) (seal_as E τ b f N Ta M)) (sym e) o
