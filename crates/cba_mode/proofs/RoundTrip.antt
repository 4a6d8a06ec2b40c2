-- Opening undoes sealing, and sealing is the only way in: over any block cipher with its inverse, any τ and b that fit, any T_A.
-- Assumes nothing.
use mathlib.Core.Path.{◌≡◌, refl, sym, ap, ap₂, subst, ◌∙◌}
use mathlib.Core.Bool.{Bool, true, false, cond}
use mathlib.Core.List.{List, ◌++◌}
use Prim.Native.Nat.{ℕ, suc, ◌+◌, ◌-◌, ◌*◌, ◌/◌, ◌<◌, ◌≤◌}
use native.Mathlib.Nat.{mul-suc}
use native.Mathlib.Omega.{arith}
use borrow.Author.Tests.{le-ltb, ltb-false}
use lib.Dec.{ltb}
use lib.Dec as dec
use lib.ListN.{length, take, drop, take-append-drop, length-take, length-drop}
use lib.Seq.{take_all, take_at, drop_at, drop-drop}
use Rattle.octets.specs.Strings.{Bytes, Octets}
use Rattle.octets.specs.Xor.{xors}
use Rattle.octets.specs.Blocks.{block}
use Rattle.octets.proofs.Xor.{xors-comm, xors-assoc, xors-cancel, length-xors}
use Rattle.cba_mode.specs.Sets.{Fits, ell, tag_bytes}
use Rattle.cba_mode.specs.Forms.{Form, full_blocks, last_length, seal_form, open_form}
use Rattle.cba_mode.specs.Forms.Form.{short, joined, separate}
use Rattle.cba_mode.specs.Offsets.{F, offset, pad, last_bytes, but_last}
use Rattle.cba_mode.specs.Data.{tag_of_data}
use Rattle.cba_mode.specs.Seal.{checksum, cipher_blocks, R, Δ₀, masked, short_tag, T, joined_block, joined_last, joined_end, joined_tail, last_block, separate_tag, separate_tail, seal_as, seal_with}
use Rattle.cba_mode.specs.Open.{is_false, message_of, Attempt, verified, check, after, joined_plain, joined_rest, joined_attempt, separate_attempt, from_blocks, attempt, open_with}
use Rattle.cba_mode.specs.Open.Opened.{opened, refused}
use Rattle.cba_mode.specs.RoundTrip.{BlockCipher, RoundTrip}
use Rattle.cba_mode.proofs.FormLaws.{by_form, seal_short, seal_joined, seal_long, seal_single, same-form}
use Rattle.cba_mode.proofs.OffsetLaws.{xors-octets, append_octets, take-octets, F-octets, offset-octets, pad-octets, F-six}
use Rattle.cba_mode.proofs.SealLaws.{leading-octets, last_bytes-octets, whitened, R-octets, Δ₀-octets, masked-octets, short_tag-octets, T-octets, last_offset-octets, last_block-octets, tag-octets, tag_of_data-octets, seal_with-octets}
use Rattle.cba_mode.proofs.Undoing.{Undoes, undoes-same, tags-same, same-tags, xors-undo, but_last-at, last_bytes-at, but_last-last_bytes, but_last-octets, behind, tail-undoes, first-undoes, tagged_undoes}

-- a string under the first bytes of a block, twice
cover_twice : {n : ℕ} (s q : List ℕ) → Octets n s → Octets 16 q → n ≤ 16 → xors (xors s (take (length s) q)) (take (length (xors s (take (length s) q))) q) ≡ s
cover_twice {n} s q o p h =
    let l : length (take (length s) q) ≡ length s = simp length-take (omega (arith, o.size, p.size)) in
    let e : length (xors s (take (length s) q)) ≡ length s = length-xors s (take (length s) q) ∙ omega (arith, l) in
    ap (λ (j : ℕ). xors (xors s (take (length s) q)) (take j q)) e ∙ xors-undo s (take (length s) q) (omega (arith, l))

-- S and a block added, twice
mix-twice : (s x p : List ℕ) → Octets 16 s → Octets 16 x → Octets 16 p → xors (xors s (xors (xors s x) p)) p ≡ x
mix-twice s x p os ox op =
    ap (λ (y : List ℕ). xors (xors s y) p) (xors-assoc s x p)
    ∙ ap (λ (y : List ℕ). xors y p) (xors-cancel s (xors x p) (omega (arith, (xors-octets 16 ox op).size, os.size)))
    ∙ xors-undo x p (omega (arith, ox.size, op.size))

-- ---- a decision

pub refused-opens : {M : List ℕ} → refused ≡ opened M → ⊥
unfolding is_false
refused-opens e = subst dec.T (ap is_false e) tt

-- an attempt opens where it is verified, and nowhere else
pub check-opens : (a : Attempt) → verified a ≡ true → check a ≡ opened a.message
unfolding check
check-opens a h = rw h refl

pub opens-check : (a : Attempt) (M : List ℕ) → check a ≡ opened M → (verified a ≡ true) × (a.message ≡ M)
unfolding check message_of
opens-check a M e = go (verified a) refl e
  where
    go : (x : Bool) → verified a ≡ x → cond x (opened a.message) refused ≡ opened M → (verified a ≡ true) × (a.message ≡ M)
    go true h e = (h, ap message_of e)
    go false h e = absurd (refused-opens e)

-- ---- numbers

-- what opening counts before the last block and the tag of the separate form
long-count : (k r t : ℕ) → r ≤ 16 → t ≤ 16 → 16 < r + t → (16 * k + r + t - 1) / 16 - 1 ≡ k
long-count k r t g h i = omega arith

single_count : (k r t : ℕ) → k < 1 → 1 ≤ r → r + t ≤ 16 → (16 * k + r + t - 1) / 16 - 1 ≡ k
single_count k r t g h i = omega arith

module _ (E D : List ℕ → List ℕ) (v : BlockCipher E D) (τ b : ℕ) (f : Fits τ b) (N Ta : List ℕ) (oN : Octets 12 N) (oTa : Octets (tag_bytes τ) Ta) where
  abbrev t : ℕ
  t = tag_bytes τ

  abbrev l : ℕ
  l = ell τ b / 8

  τ-byte : τ < 256
  τ-byte = omega (arith, f.0)

  b_byte : b < 256
  b_byte = omega (arith, f.1)

  t-most : t ≤ 16
  t-most = omega (arith, f.0)

  -- ---- the last block of the separate form, and the short form

  masked-sized : {n : ℕ} (x : List ℕ) → n ≤ 16 → Octets n x → Octets n (masked E τ b N x)
  masked-sized x h o = masked-octets E v.E-block τ b τ-byte b_byte t-most N Ta oN oTa o h

  masked-twice : {n : ℕ} (x : List ℕ) → n ≤ 16 → Octets n x → masked E τ b N (masked E τ b N x) ≡ x
  unfolding masked
  masked-twice {n} x h o =
      let r = R-octets E v.E-block τ b τ-byte b_byte t-most N Ta oN oTa in
      let w = last_bytes-octets n r h in
      let e : length x ≡ n = o.size in
      ap (λ (j : ℕ). xors (masked E τ b N x) (last_bytes j (R E τ b N))) (masked-sized x h o).size
      ∙ ap (λ (j : ℕ). xors (xors x (last_bytes j (R E τ b N))) (last_bytes n (R E τ b N))) e
      ∙ xors-undo x (last_bytes n (R E τ b N)) (omega (arith, w.size, e))

  short-undoes : (n : ℕ) → n ≤ l → Undoes n t (seal_as E τ b short N Ta) (attempt E D τ b short N Ta)
  unfolding seal_as attempt
  short-undoes n h =
      undoes-same (λ M o. refl)
      (λ C o. ap (λ (c : List ℕ). record { message = masked E τ b N (but_last t C); tag = last_bytes t C; tag' = short_tag E τ b N Ta c }) (sym (masked-twice (but_last t C) (omega arith) (but_last-octets t n o))))
      (tagged_undoes (masked E τ b N) (λ M. short_tag E τ b N Ta (masked E τ b N M)) n t (λ x o. masked-sized x (omega arith) o) (λ x o. masked-twice x (omega arith) o)
      (λ x o. short_tag-octets E v.E-block τ b τ-byte b_byte t-most N Ta oN oTa (masked E τ b N x) (masked-sized x (omega arith) o).small))

  module _ (Tag Δ S : List ℕ) (oT : Octets t Tag) (oΔ : Octets 16 Δ) (oS : Octets 16 S) where
    last_block-sized : {n : ℕ} (x : List ℕ) → n ≤ 16 → Octets n x → Octets n (last_block E Δ Tag x)
    last_block-sized x h o = last_block-octets E v.E-block τ b τ-byte b_byte t-most N Ta oN oTa oΔ oT o h

    last_block-twice : {n : ℕ} (x : List ℕ) → n ≤ 16 → Octets n x → last_block E Δ Tag (last_block E Δ Tag x) ≡ x
    unfolding last_block
    last_block-twice x h o = cover_twice x _ o (whitened E v.E-block (leading-octets 16 oT t-most) (F-octets 2 4 oΔ)) h

    separate_undoes : (n : ℕ) → n ≤ 16 → Undoes n t (λ m. last_block E Δ Tag m ++ separate_tag E τ Δ Tag S m) (separate_attempt E D τ Tag Δ S)
    unfolding separate_attempt separate_tag
    separate_undoes n h =
        tagged_undoes (last_block E Δ Tag) (separate_tag E τ Δ Tag S) n t (λ x o. last_block-sized x h o) (λ x o. last_block-twice x h o)
        (λ x o.
        tag-octets E v.E-block τ b τ-byte b_byte t-most N Ta oN oTa (xors-octets 16 oS (pad-octets x o.small)) (leading-octets 16 oT t-most)
        (last_offset-octets E v.E-block τ b τ-byte b_byte t-most N Ta oN oTa (length x) oΔ))

    -- ---- the last two blocks of the joined form

    -- the block that M_{m−1} and S are added to
    P-octets : (c : List ℕ) → Bytes c → Octets 16 (E (xors (pad c) (F 6 6 Δ)))
    P-octets c h = whitened E v.E-block (pad-octets c h) (F-octets 6 6 oΔ)

    Q-octets : (m : List ℕ) → Octets 16 m → Octets 16 (E (xors m (F 2 2 Δ)))
    Q-octets m o = whitened E v.E-block o (F-octets 2 2 oΔ)

    -- C_{m−1} C_m from M_{m−1} and M_m T, in the terms of opening
    joined_block-is : (m y : List ℕ) → joined_block E (F 2 2 Δ) m y ≡ xors y (take (length y) (E (xors m (F 2 2 Δ))))
    unfolding joined_block
    joined_block-is m y = xors-comm _ y

    joined_last-is : (m c : List ℕ) → joined_last E (F 2 2 Δ) (xors S m) c ≡ xors (xors S m) (E (xors (pad c) (F 6 6 Δ)))
    unfolding joined_last
    joined_last-is m c = ap (λ (δ : List ℕ). xors (xors S m) (E (xors (pad c) δ))) (sym (F-six oΔ))

    module _ (r : ℕ) (h : r + t ≤ 16) where
      rest-sized : (m y : List ℕ) → Octets 16 m → Octets (r + t) y → Octets (r + t) (xors y (take (length y) (E (xors m (F 2 2 Δ)))))
      rest-sized m y om oy =
          xors-octets (r + t) oy (subst (λ (j : ℕ). Octets (r + t) (take j (E (xors m (F 2 2 Δ))))) (sym oy.size) (take-octets (r + t) 16 (Q-octets m om) h))

      block-sized : (m y : List ℕ) → Octets 16 m → Octets (r + t) y → Octets (r + t) (joined_block E (F 2 2 Δ) m y)
      block-sized m y om oy = subst (Octets (r + t)) (sym (joined_block-is m y)) (rest-sized m y om oy)

      last-sized : (m c : List ℕ) → Octets 16 m → Octets (r + t) c → Octets 16 (joined_last E (F 2 2 Δ) (xors S m) c)
      last-sized m c om oc = subst (Octets 16) (sym (joined_last-is m c)) (xors-octets 16 (xors-octets 16 oS om) (P-octets c oc.small))

      plain-sized : (c z : List ℕ) → Octets (r + t) c → Octets 16 z → Octets 16 (joined_plain E D Δ S c z)
      unfolding joined_plain
      plain-sized c z oc oz = xors-octets 16 (xors-octets 16 oz oS) (whitened E v.E-block (pad-octets c oc.small) (F-octets _ _ oΔ))

      plain_there : (m y : List ℕ) → Octets 16 m → Octets (r + t) y → let c = joined_block E (F 2 2 Δ) m y in
          joined_plain E D Δ S c (joined_last E (F 2 2 Δ) (xors S m) c) ≡ m
      unfolding joined_plain
      plain_there m y om oy =
          let c = joined_block E (F 2 2 Δ) m y in
          let p = E (xors (pad c) (F 6 6 Δ)) in
          ap (λ (z : List ℕ). xors z p) (xors-comm _ S ∙ ap (xors S) (joined_last-is m c))
          ∙ mix-twice S m p oS om (P-octets c (block-sized m y om oy).small)

      rest_there : (m y : List ℕ) → Octets 16 m → Octets (r + t) y → joined_rest E D Δ (joined_block E (F 2 2 Δ) m y) m ≡ y
      unfolding joined_rest
      rest_there m y om oy =
          ap (λ (c : List ℕ). xors c (take (length c) (E (xors m (F 2 2 Δ))))) (joined_block-is m y) ∙ cover_twice y (E (xors m (F 2 2 Δ))) oy (Q-octets m om) h

      block_back : (m c : List ℕ) → Octets 16 m → Octets (r + t) c → joined_block E (F 2 2 Δ) m (joined_rest E D Δ c m) ≡ c
      unfolding joined_rest
      block_back m c om oc = joined_block-is m _ ∙ cover_twice c (E (xors m (F 2 2 Δ))) oc (Q-octets m om) h

      last-back : (c z : List ℕ) → Octets (r + t) c → Octets 16 z → joined_last E (F 2 2 Δ) (xors S (joined_plain E D Δ S c z)) c ≡ z
      unfolding joined_plain
      last-back c z oc oz =
          let p = E (xors (pad c) (F 6 6 Δ)) in
          joined_last-is _ c ∙ ap (λ (x : List ℕ). xors (xors S (xors x p)) p) (xors-comm z S) ∙ mix-twice S z p oS oz (P-octets c oc.small)

      -- the attempt by its blocks
      abbrev made : List ℕ → List ℕ → Attempt
      made m y = record { message = m ++ but_last t y; tag = last_bytes t y; tag' = Tag }

      abbrev joined_end_of : List ℕ → List ℕ
      joined_end_of m = joined_end E (F 2 2 Δ) (xors S (take 16 m)) (take 16 m) (drop 16 m ++ Tag)

      module _ (m : List ℕ) (o : Octets (16 + r) m) where
        M₁-octets : Octets 16 (take 16 m)
        M₁-octets = take-octets 16 (16 + r) o (omega arith)

        Y-octets : Octets (r + t) (drop 16 m ++ Tag)
        Y-octets = append_octets (behind 16 r o) oT

        abbrev C₁ : List ℕ
        C₁ = joined_block E (F 2 2 Δ) (take 16 m) (drop 16 m ++ Tag)

        abbrev Cm : List ℕ
        Cm = joined_last E (F 2 2 Δ) (xors S (take 16 m)) C₁

        C₁-octets : Octets (r + t) C₁
        C₁-octets = block-sized (take 16 m) (drop 16 m ++ Tag) M₁-octets Y-octets

        Cm-octets : Octets 16 Cm
        Cm-octets = last-sized (take 16 m) C₁ M₁-octets C₁-octets

        end_sized : Octets (16 + r + t) (joined_end_of m)
        unfolding joined_end
        end_sized = let p = append_octets C₁-octets Cm-octets in record { size = p.size ∙ omega arith; small = p.small }

        made_there : joined_attempt E D τ Tag Δ S (joined_end_of m) ≡ made (take 16 m) (drop 16 m ++ Tag)
        unfolding joined_attempt joined_end
        made_there =
            let e₁ : but_last 16 (C₁ ++ Cm) ≡ C₁ = but_last-at 16 C₁ Cm Cm-octets.size in
            let e₂ : last_bytes 16 (C₁ ++ Cm) ≡ Cm = last_bytes-at 16 C₁ Cm Cm-octets.size in
            let w : joined_plain E D Δ S (but_last 16 (C₁ ++ Cm)) (last_bytes 16 (C₁ ++ Cm)) ≡ take 16 m =
            ap₂ (joined_plain E D Δ S) e₁ e₂ ∙ plain_there (take 16 m) (drop 16 m ++ Tag) M₁-octets Y-octets in
            ap₂ made w (ap₂ (joined_rest E D Δ) e₁ w ∙ rest_there (take 16 m) (drop 16 m ++ Tag) M₁-octets Y-octets)

      module _ (c : List ℕ) (o : Octets (16 + r + t) c) where
        abbrev c₁ : List ℕ
        c₁ = but_last 16 c

        abbrev m₁ : List ℕ
        m₁ = joined_plain E D Δ S c₁ (last_bytes 16 c)

        abbrev y : List ℕ
        y = joined_rest E D Δ c₁ m₁

        c₁-octets : Octets (r + t) c₁
        c₁-octets = but_last-octets 16 (r + t) (record { size = o.size ∙ omega arith; small = o.small })

        z_octets : Octets 16 (last_bytes 16 c)
        z_octets = last_bytes-octets 16 o (omega arith)

        m₁-octets : Octets 16 m₁
        m₁-octets = plain-sized c₁ (last_bytes 16 c) c₁-octets z_octets

        y-octets : Octets (r + t) y
        unfolding joined_rest
        y-octets = rest-sized m₁ c₁ m₁-octets c₁-octets

        end_again : verified (made m₁ y) ≡ true → joined_end_of (m₁ ++ but_last t y) ≡ c
        unfolding joined_end
        end_again v =
            ap₂ (λ (x w : List ℕ). joined_end E (F 2 2 Δ) (xors S x) x w) (take_at m₁ (but_last t y) 16 m₁-octets.size)
            (ap₂ ◌++◌ (drop_at m₁ (but_last t y) 16 m₁-octets.size) (sym (tags-same (made m₁ y) v)) ∙ but_last-last_bytes t y)
            ∙ ap (λ (x : List ℕ). x ++ joined_last E (F 2 2 Δ) (xors S m₁) x) (block_back m₁ c₁ m₁-octets c₁-octets)
            ∙ ap (λ (x : List ℕ). c₁ ++ x) (last-back c₁ (last_bytes 16 c) c₁-octets z_octets)
            ∙ but_last-last_bytes 16 c

      joined-undoes : Undoes (16 + r) t joined_end_of (joined_attempt E D τ Tag Δ S)
      unfolding joined_attempt
      joined-undoes =
          record {
            sealed = end_sized;
            message-back = λ m o. ap (λ (a : Attempt). a.message) (made_there m o) ∙ ap (λ (x : List ℕ). take 16 m ++ x) (but_last-at t (drop 16 m) Tag oT.size) ∙ take-append-drop 16 m;
            verified-back = λ m o. ap verified (made_there m o) ∙ same-tags (made (take 16 m) (drop 16 m ++ Tag)) (last_bytes-at t (drop 16 m) Tag oT.size);
            message-octets = λ c o. append_octets (m₁-octets c o) (but_last-octets t r (y-octets c o));
            sealing-back = end_again;
          }

  -- ---- the forms

  abbrev Δ : List ℕ
  Δ = Δ₀ E τ b N

  oΔ : Octets 16 Δ
  oΔ = Δ₀-octets E v.E-block τ b τ-byte b_byte t-most N Ta oN oTa

  tag-sized : (C₀ : List ℕ) → Octets l C₀ → Octets t (T τ Ta C₀)
  tag-sized C₀ o = T-octets E v.E-block τ b τ-byte b_byte t-most N Ta oN oTa o (omega arith)

  -- C_0, the full blocks and an end
  form-undoes : (end : List ℕ → List ℕ → List ℕ → List ℕ → List ℕ) (try : List ℕ → List ℕ → List ℕ → List ℕ → Attempt) (n k : ℕ) →
      ((Tag Δ S : List ℕ) → Octets t Tag → Octets 16 Δ → Octets 16 S → Undoes n t (end Tag Δ S) (try Tag Δ S)) →
      Undoes (l + (16 * k + n)) t
      (λ M. let C₀ = masked E τ b N (take l M) in C₀ ++ (cipher_blocks E Δ (drop l M) k ++ end (T τ Ta C₀) (offset Δ k) (checksum (drop l M) k) (drop (16 * k) (drop l M))))
      (λ C. after (masked E τ b N (take l C)) (from_blocks E D (try (T τ Ta (take l C))) Δ (drop l C) k))
  form-undoes end try n k u =
      first-undoes (masked E τ b N) (λ C₀ M. cipher_blocks E Δ M k ++ end (T τ Ta C₀) (offset Δ k) (checksum M k) (drop (16 * k) M))
      (λ C₀ C. from_blocks E D (try (T τ Ta C₀)) Δ C k) l (16 * k + n) t (λ x o. masked-sized x (omega arith) o) (λ x o. masked-twice x (omega arith) o)
      (λ C₀ o. tail-undoes E D v (end (T τ Ta C₀)) (try (T τ Ta C₀)) Δ oΔ n t k (λ S oS. u (T τ Ta C₀) (offset Δ k) S (tag-sized C₀ o) (offset-octets k oΔ) oS))

  -- the tails as the paper writes them
  joined-tail-is : (Tag M : List ℕ) (k r : ℕ) → length M ≡ 16 * k + (16 + r) → r ≤ 16 → let rest = drop (16 * k) M in
      joined_tail E Δ Tag M k ≡ cipher_blocks E Δ M k ++ joined_end E (F 2 2 (offset Δ k)) (xors (checksum M k) (take 16 rest)) (take 16 rest) (drop 16 rest ++ Tag)
  unfolding joined_tail offset checksum
  joined-tail-is Tag M k r e h =
      let w : block 16 M (suc k) ≡ drop 16 (drop (16 * k) M) =
      take_all 16 (drop (16 * suc k) M) (simp length-drop (omega arith)) ∙ ap (λ (n : ℕ). drop n M) (mul-suc 16 k) ∙ sym (drop-drop 16 (16 * k) M) in
      ap (λ (x : List ℕ). cipher_blocks E Δ M k ++ joined_end E (F 2 2 (offset Δ k)) (xors (checksum M k) (block 16 M k)) (block 16 M k) (x ++ Tag)) w

  joined-form : (k r : ℕ) → 1 ≤ r → r + t ≤ 16 → Undoes (l + (16 * k + (16 + r))) t (seal_as E τ b joined N Ta) (attempt E D τ b joined N Ta)
  unfolding seal_as attempt
  joined-form k r g h =
      undoes-same
      (λ M o.
      let C₀ = masked E τ b N (take l M) in
      ap (λ (j : ℕ). C₀ ++ joined_tail E Δ (T τ Ta C₀) (drop l M) j) {x = full_blocks l (length M) - 1} {y = k} (omega (arith, o.size))
      ∙ ap (λ (x : List ℕ). C₀ ++ x) (joined-tail-is (T τ Ta C₀) (drop l M) k r (simp length-drop (omega (arith, o.size))) (omega arith)))
      (λ C o.
      ap (λ (j : ℕ). after (masked E τ b N (take l C)) (from_blocks E D (joined_attempt E D τ (T τ Ta (take l C))) Δ (drop l C) j)) {x = full_blocks l (length C) - 1} {y = k} (omega (arith, o.size)))
      (form-undoes (λ Tag δ S m. joined_end E (F 2 2 δ) (xors S (take 16 m)) (take 16 m) (drop 16 m ++ Tag)) (joined_attempt E D τ) (16 + r) k
      (λ Tag δ S oT oδ oS. joined-undoes Tag δ S oT oδ oS r h))

  -- the last block is the one before the tag, or the only one
  separate_form : (k r : ℕ) → 1 ≤ r → r ≤ 16 → (16 * k + r + t - 1) / 16 - 1 ≡ k → Undoes (l + (16 * k + r)) t (seal_as E τ b separate N Ta) (attempt E D τ b separate N Ta)
  unfolding seal_as attempt separate_tail
  separate_form k r g h e =
      undoes-same
      (λ M o.
      let C₀ = masked E τ b N (take l M) in
      ap (λ (j : ℕ). C₀ ++ separate_tail E τ Δ (T τ Ta C₀) (drop l M) j) {x = full_blocks l (length M)} {y = k} (omega (arith, o.size))
      ∙ ap (λ (x : List ℕ). C₀ ++ (cipher_blocks E Δ (drop l M) k ++ (last_block E (offset Δ k) (T τ Ta C₀) x ++ separate_tag E τ (offset Δ k) (T τ Ta C₀) (checksum (drop l M) k) x)))
      (take_all 16 (drop (16 * k) (drop l M)) (simp length-drop (omega (arith, o.size)))))
      (λ C o.
      let w : length C - l - 1 ≡ 16 * k + r + t - 1 = omega (arith, o.size) in
      ap (λ (j : ℕ). after (masked E τ b N (take l C)) (from_blocks E D (separate_attempt E D τ (T τ Ta (take l C))) Δ (drop l C) j)) (ap (λ (j : ℕ). j / 16 - 1) w ∙ e))
      (form-undoes (λ Tag δ S m. last_block E δ Tag m ++ separate_tag E τ δ Tag S m) (separate_attempt E D τ) r k
      (λ Tag δ S oT oδ oS. separate_undoes Tag δ S oT oδ oS r h))

  abbrev form : ℕ → Form
  form n = seal_form l t n

  -- every length
  seal_undoes : (n : ℕ) → Undoes n t (seal_as E τ b (form n) N Ta) (attempt E D τ b (form n) N Ta)
  seal_undoes n =
      by_form l t n
      (λ k. in_form (seal_short l t n k) refl (short-undoes n k))
      (λ k p q. in_form (seal_joined l t n k p q) (omega arith) (joined-form (full_blocks l n - 1) (last_length l n) (omega arith) p))
      (λ k p. in_form (seal_long l t n k p) (omega arith) (separate_form (full_blocks l n) (last_length l n) (omega arith) (omega arith) (long-count (full_blocks l n) (last_length l n) t (omega arith) t-most p)))
      (λ k p q. in_form (seal_single l t n k p q) (omega arith) (separate_form (full_blocks l n) (last_length l n) (omega arith) (omega arith) (single_count (full_blocks l n) (last_length l n) t q (omega arith) p)))
    where
      in_form : {g : Form} {m : ℕ} → form n ≡ g → m ≡ n → Undoes m t (seal_as E τ b g N Ta) (attempt E D τ b g N Ta) → Undoes n t (seal_as E τ b (form n) N Ta) (attempt E D τ b (form n) N Ta)
      in_form {g} {m} e d u = subst (λ (h : Form). Undoes n t (seal_as E τ b h N Ta) (attempt E D τ b h N Ta)) (sym e) (subst (λ (j : ℕ). Undoes j t (seal_as E τ b g N Ta) (attempt E D τ b g N Ta)) d u)

  -- opening a string of n + t bytes
  dec_is : (n : ℕ) (C : List ℕ) → length C ≡ n + t → open_with E D τ b N Ta C ≡ check (attempt E D τ b (form n) N Ta C)
  unfolding open_with
  dec_is n C e =
      rw (le-ltb (length C) t (omega (arith, e)))
      (ap (λ (g : Form). check (attempt E D τ b g N Ta C)) (ap (open_form l t) e ∙ same-form l t n t-most))

  enc_sized : (M : List ℕ) → Bytes M → Octets (length M + t) (seal_with E τ b N Ta M)
  enc_sized M h = seal_with-octets E v.E-block τ b τ-byte b_byte t-most N Ta oN oTa M h

  dec_enc : (M : List ℕ) → Bytes M → open_with E D τ b N Ta (seal_with E τ b N Ta M) ≡ opened M
  unfolding seal_with
  dec_enc M h =
      let o : Octets (length M) M = record { size = refl; small = h } in
      let u = seal_undoes (length M) in
      dec_is (length M) (seal_with E τ b N Ta M) (enc_sized M h).size ∙ check-opens _ (u.verified-back M o) ∙ ap opened (u.message-back M o)

  -- a string that opens has room for its tag
  dec_long : (C M : List ℕ) → open_with E D τ b N Ta C ≡ opened M → t ≤ length C
  unfolding open_with
  dec_long C M e = go (ltb (length C) t) refl e
    where
      go : (x : Bool) → ltb (length C) t ≡ x → cond x refused (check (attempt E D τ b (open_form l t (length C)) N Ta C)) ≡ opened M → t ≤ length C
      go true h e = absurd (refused-opens e)
      go false h e = ltb-false (length C) t h

  enc_dec : (C M : List ℕ) → Bytes C → open_with E D τ b N Ta C ≡ opened M → Bytes M × (seal_with E τ b N Ta M ≡ C)
  unfolding seal_with
  enc_dec C M h e =
      let n = length C - t in
      let long = dec_long C M e in
      let o : Octets (n + t) C = record { size = omega arith; small = h } in
      let a = attempt E D τ b (form n) N Ta C in
      let d = opens-check a M (sym (dec_is n C o.size) ∙ e) in
      let u = seal_undoes n in
      let m : Octets n M = subst (Octets n) d.1 (u.message-octets C o) in
      (m.small, ap (λ (j : ℕ). seal_as E τ b (form j) N Ta M) m.size ∙ ap (seal_as E τ b (form n) N Ta) (sym d.1) ∙ u.sealing-back C o d.0)

  pub round_trip : RoundTrip E D τ b N Ta
  round_trip = record { longer = enc_sized; opens = dec_enc; only = enc_dec }

-- with the T_A of associated data, which is what ENC and DEC have
pub data_trip : (E D : List ℕ → List ℕ) → BlockCipher E D → (τ b : ℕ) → Fits τ b → (N A : List ℕ) → Octets 12 N → Bytes A → RoundTrip E D τ b N (tag_of_data E τ b A)
data_trip E D v τ b f N A oN oA =
    round_trip E D v τ b f N (tag_of_data E τ b A) oN (tag_of_data-octets E v.E-block τ b (omega (arith, f.0)) (omega (arith, f.1)) (omega (arith, f.0)) A oA)
