-- The forms of sealing, put together from C_0 and what follows it.
-- Assumes nothing.
use mathlib.Core.Path.{◌≡◌, refl, sym, ap, ap₂, subst, ◌∙◌}
use mathlib.Core.List.{List, ◌++◌}
use Prim.Native.Nat.{ℕ, suc, ◌+◌, ◌-◌, ◌*◌, ◌/◌, ◌<◌, ◌≤◌}
use native.Mathlib.Omega.{arith}
use lib.ListN.{length, take, drop, length-take, length-drop, replicate, length-replicate}
use lib.Seq.{take_all, drop_at}
use Rattle.octets.specs.Xor.{xors}
use Rattle.octets.specs.Blocks.{block}
use Rattle.octets.proofs.Parts.{then, to_end}
use Rattle.cba_mode.specs.Sets.{tag_bytes, ell}
use Rattle.cba_mode.specs.Forms.{Form, full_blocks, seal_form}
use Rattle.cba_mode.specs.Forms.Form.{short}
use Rattle.cba_mode.specs.Offsets.{F, offset, pad, leading}
use Rattle.cba_mode.specs.Seal.{Δ₀, masked, short_tag, T, checksum, cipher_blocks, joined_tail, last_block, separate_tag, separate_tail, seal_as, seal_with}
use Rattle.cba_mode.proofs.FormLaws.{seal_short}
use Rattle.cba_steps.specs.declared.endings.Ending.{Ending}
use Rattle.cba_steps.specs.declared.endings.Ending.TheVariants.{Joined, Separate}
use Rattle.cba_steps.specs.Endings.{form_of, Ends}
use Rattle.cba_sealing.specs.Calls.{tag_block, tail_as}
use Rattle.cba_sealing.proofs.BeginLaws.{first_taken}

-- T as the tails are lent it: the last t bytes of a block
pub tag-size : (whole : List ℕ) (t : ℕ) → length whole ≡ 16 → t ≤ 16 → length (take (16 - (16 - t)) (drop (16 - t) whole)) ≡ t
tag-size whole t w h = simp (length-take, length-drop) (omega arith)

-- the number of full blocks before the end
joined-count : (k m t : ℕ) → 16 * suc k < m → m + t ≤ 16 * suc (suc k) → k ≡ (m - 1) / 16 - 1
joined-count k m t g h = omega arith

separate_count : (k m : ℕ) → 16 * k < m → m ≤ 16 * suc k → k ≡ (m - 1) / 16
separate_count k m g h = omega arith

-- the separate form needs τ for its tag's length alone
tag_alone : (E : List ℕ → List ℕ) (σ τ : ℕ) (Δ Tag M' : List ℕ) (k : ℕ) → tag_bytes σ ≡ tag_bytes τ → separate_tail E σ Δ Tag M' k ≡ separate_tail E τ Δ Tag M' k
unfolding separate_tail separate_tag
tag_alone E σ τ Δ Tag M' k e =
    ap (λ (n : ℕ). cipher_blocks E Δ M' k ++ (last_block E (offset Δ k) Tag (block 16 M' k) ++ take n (tag_block E (offset Δ k) Tag (checksum M' k) (block 16 M' k)))) e

-- Before the tail of a message or ciphertext m goes over d, n bytes in all: its first l bytes do already, whole is T with zeros
-- before it, which is over C_0, and l and t are ℓ and τ in bytes.
pub record Headed (E : List ℕ → List ℕ) (τ b : ℕ) (N Ta C₀ m d out whole Δ : List ℕ) (n l t : ℕ) : Type 0 where
  pub bits : l ≡ ell τ b / 8
  pub tags : t ≡ tag_bytes τ
  pub longer : l ≤ length m
  pub room : n ≤ length d
  pub at_most : tag_bytes τ ≤ 16
  pub head : out ≡ masked E τ b N (take l m) ++ drop (length (take l m)) d
  pub kept : length out ≡ length d
  pub whole-size : length whole ≡ 16
  pub holds : whole ≡ leading 16 (T τ Ta C₀)
  pub size : length (T τ Ta C₀) ≡ tag_bytes τ
  pub start : Δ ≡ Δ₀ E τ b N

module _ (E : List ℕ → List ℕ) (τ b : ℕ) (N Ta : List ℕ) where
  -- a sealing is in the form that the length takes
  form-is : (f : Form) (M : List ℕ) {l t : ℕ} → l ≡ ell τ b / 8 → t ≡ tag_bytes τ → seal_form l t (length M) ≡ f → seal_as E τ b f N Ta M ≡ seal_with E τ b N Ta M
  unfolding seal_with
  form-is f M el et e = ap (λ (g : Form). seal_as E τ b g N Ta M) (sym e ∙ ap₂ (λ (x y : ℕ). seal_form x y (length M)) el et)

  pub short-turn : (m d out ta off e w : List ℕ) → length m ≤ ell τ b / 8 → out ≡ masked E τ b N m ++ drop (length m) d → length out ≡ length d → length m + tag_bytes τ ≤ length d → tag_bytes τ ≤ 16 →
      ta ≡ leading 16 Ta → off ≡ Δ₀ E τ b N → e ≡ E (xors (xors ta (pad (take (length m) out))) (F 3 3 off)) → length e ≡ 16 →
      w ≡ take (tag_bytes τ) e ++ drop (length (take (tag_bytes τ) e)) (take (length out - length m) (drop (length m) out)) →
      length w ≡ length (take (length out - length m) (drop (length m) out)) →
      take (length m) out ++ (w ++ drop (length out - length m) (drop (length m) out)) ≡ seal_with E τ b N Ta m ++ drop (length m + tag_bytes τ) d
  unfolding seal_as short_tag
  short-turn m d out ta off e w hm eo lo hd ht eta eoff ee le ew lw =
      let l : length (take (tag_bytes τ) e) ≡ tag_bytes τ = simp length-take (omega arith) in
      let x : e ≡ E (xors (xors (leading 16 Ta) (pad (masked E τ b N m))) (F 3 3 (Δ₀ E τ b N))) =
      ee ∙ ap E (ap₂ xors (ap₂ xors eta (ap pad (first_taken E τ b N Ta m d out eo lo (omega arith)))) (ap (F 3 3) eoff)) in
      then d (masked E τ b N m) out (take (tag_bytes τ) e) w (length m) (tag_bytes τ) eo lo hd
      (ew ∙ ap (λ (k : ℕ). take (tag_bytes τ) e ++ drop k (take (length out - length m) (drop (length m) out))) l) lw
      ∙ ap (λ (y : List ℕ). (masked E τ b N m ++ take (tag_bytes τ) y) ++ drop (length m + tag_bytes τ) d) x
      ∙ ap (λ (y : List ℕ). y ++ drop (length m + tag_bytes τ) d) (form-is short m refl refl (seal_short _ _ _ hm))

  -- T without the zeros before it
  pub tag_end : (t Tag : List ℕ) (n : ℕ) → t ≡ leading 16 Tag → length Tag ≡ n → n ≤ 16 → length t ≡ 16 → take (16 - (16 - n)) (drop (16 - n) t) ≡ Tag
  unfolding leading
  tag_end t Tag n e l h lt =
      let z : List ℕ = replicate (16 - n) 0 in
      let w : t ≡ z ++ Tag = e ∙ ap (λ (k : ℕ). replicate (16 - k) 0 ++ Tag) l in
      take_all (16 - (16 - n)) (drop (16 - n) t) (simp length-drop (omega arith)) ∙ ap (drop (16 - n)) w ∙ drop_at z Tag (16 - n) (length-replicate (16 - n) 0)

  -- what follows C_0, by a writer of it that is lent the rest of out: G is the joined or the separate tail
  tail-turn : (G : List ℕ → List ℕ → List ℕ → List ℕ) {m d out whole Δ : List ℕ} {l t : ℕ} (w : List ℕ) → Headed E τ b N Ta (masked E τ b N (take l m)) m d out whole Δ (length m + tag_bytes τ) l t →
      w ≡ G Δ (take (16 - (16 - t)) (drop (16 - t) whole)) (take (length m - l) (drop l m))
      ++ drop (length (take (length m - l) (drop l m)) + tag_bytes τ) (take (length out - l) (drop l out)) →
      length w ≡ length (take (length out - l) (drop l out)) →
      take l out ++ (w ++ drop (length out - l) (drop l out))
      ≡ (let L = ell τ b / 8 in masked E τ b N (take L m) ++ G (Δ₀ E τ b N) (T τ Ta (masked E τ b N (take L m))) (drop L m)) ++ drop (length m + tag_bytes τ) d
  tail-turn G {m} {d} {out} {whole} {Δ} {l} {t} w v e le =
      let C = masked E τ b N (take l m) in
      let tag = take (16 - (16 - t)) (drop (16 - t) whole) in
      let rest = take (length m - l) (drop l m) in
      let n : length (take l m) ≡ l = simp length-take (omega arith) in
      let er : rest ≡ drop l m = to_end m l in
      let lr : length rest ≡ length m - l = ap length er ∙ length-drop l m in
      let eT : tag ≡ T τ Ta C = tag_end whole (T τ Ta C) t v.holds (v.size ∙ sym v.tags) (omega arith) v.whole-size in
      let all : l + (length rest + tag_bytes τ) ≡ length m + tag_bytes τ = omega (arith, lr) in
      let same : G Δ tag rest ≡ G (Δ₀ E τ b N) (T τ Ta C) (drop l m) = rw (v.start, eT, er) refl in
      then d C out (G Δ tag rest) w l (length rest + tag_bytes τ) (v.head ∙ ap (λ (k : ℕ). C ++ drop k d) n) v.kept (omega (arith, lr)) e le
      ∙ ap₂ (λ (x : List ℕ) (k : ℕ). (C ++ x) ++ drop k d) same all
      ∙ ap (λ (k : ℕ). (masked E τ b N (take k m) ++ G (Δ₀ E τ b N) (T τ Ta (masked E τ b N (take k m))) (drop k m)) ++ drop (length m + tag_bytes τ) d) v.bits

  -- the tail by its ending is that of the form
  tail-form : (e : Ending) (M : List ℕ) → (let L = ell τ b / 8 in let C = masked E τ b N (take L M) in
      Ends e (tag_bytes τ) (length M - L) → length (T τ Ta C) ≡ tag_bytes τ →
      C ++ tail_as e E (Δ₀ E τ b N) (T τ Ta C) (drop L M) ≡ seal_as E τ b (form_of e) N Ta M)
  unfolding seal_as tail_as
  tail-form (Joined k) M h s =
      let L = ell τ b / 8 in
      let C = masked E τ b N (take L M) in
      ap (λ (i : ℕ). C ++ joined_tail E (Δ₀ E τ b N) (T τ Ta C) (drop L M) i) (joined-count k (length M - L) (tag_bytes τ) h.closes.0 h.closes.1)
  tail-form (Separate k) M h s =
      let L = ell τ b / 8 in
      let C = masked E τ b N (take L M) in
      ap (λ (i : ℕ). C ++ separate_tail E (8 * length (T τ Ta C)) (Δ₀ E τ b N) (T τ Ta C) (drop L M) i) (separate_count k (length M - L) h.within h.closes)
      ∙ ap (λ (x : List ℕ). C ++ x) (tag_alone E _ τ (Δ₀ E τ b N) (T τ Ta C) (drop L M) (full_blocks L (length M)) (omega (arith, s)))

  pub long-turn : {M d out whole Δ : List ℕ} {l t : ℕ} {end : Ending} (w : List ℕ) → Headed E τ b N Ta (masked E τ b N (take l M)) M d out whole Δ (length M + tag_bytes τ) l t →
      seal_form l t (length M) ≡ form_of end → Ends end t (length M - l) →
      (let tag = take (16 - (16 - t)) (drop (16 - t) whole) in
      let rest = take (length M - l) (drop l M) in
      w ≡ tail_as end E Δ tag rest ++ drop (length rest + length tag) (take (length out - l) (drop l out))) →
      length w ≡ length (take (length out - l) (drop l out)) →
      take l out ++ (w ++ drop (length out - l) (drop l out)) ≡ seal_with E τ b N Ta M ++ drop (length M + tag_bytes τ) d
  long-turn {M} {d} {out} {whole} {Δ} {l} {t} {end} w v f ends e le =
      let L = ell τ b / 8 in
      let tag = take (16 - (16 - t)) (drop (16 - t) whole) in
      let rest = take (length M - l) (drop l M) in
      let size : length tag ≡ tag_bytes τ = tag-size whole t v.whole-size (omega (arith, v.tags, v.at_most)) ∙ v.tags in
      let at-L : Ends end (tag_bytes τ) (length M - L) = subst (λ (x : ℕ). Ends end x (length M - L)) v.tags (subst (λ (x : ℕ). Ends end t (length M - x)) v.bits ends) in
      let sized : length (T τ Ta (masked E τ b N (take L M))) ≡ tag_bytes τ = subst (λ (x : ℕ). length (T τ Ta (masked E τ b N (take x M))) ≡ tag_bytes τ) v.bits v.size in
      tail-turn (λ Δ Tag M'. tail_as end E Δ Tag M') w v
      (e ∙ ap (λ (n : ℕ). tail_as end E Δ tag rest ++ drop (length rest + n) (take (length out - l) (drop l out))) size) le
      ∙ ap (λ (x : List ℕ). x ++ drop (length M + tag_bytes τ) d) (tail-form end M at-L sized ∙ form-is (form_of end) M v.bits v.tags f)
