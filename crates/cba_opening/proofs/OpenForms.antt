-- The forms of opening, put together from M_0 and what follows it.
-- Assumes nothing.
use mathlib.Core.Path.{◌≡◌, refl, sym, ap, ap₂, subst, ◌∙◌}
use mathlib.Core.Bool.{Bool, true, false, cond}
use Rattle.cba_steps.specs.declared.endings.Ending.{Ending}
use Rattle.cba_steps.specs.declared.endings.Ending.TheVariants.{Joined, Separate}
use mathlib.Core.List.{List, ◌++◌}
use Prim.Native.Nat.{ℕ, ◌+◌, ◌-◌, ◌*◌, ◌/◌, ◌≤◌}
use native.Mathlib.Omega.{arith}
use lib.ListN.{length, take, drop, replicate, length-take}
use lib.Seq.{drop_at, length-take-le}
use borrow.Author.Tests.{le-ltb}
use Rattle.octets.specs.Strings.{eqs}
use Rattle.octets.specs.Xor.{xors}
use Rattle.octets.proofs.Parts.{to_end, size_of}
use Rattle.cba_mode.specs.Sets.{tag_bytes, ell}
use Rattle.cba_mode.specs.Forms.{Form, full_blocks, seal_form, open_form}
use Rattle.cba_mode.specs.Forms.Form.{short}
use Rattle.cba_mode.specs.Offsets.{F, pad, leading, last_bytes, but_last}
use Rattle.cba_mode.specs.Seal.{Δ₀, masked, short_tag, T, last_block, separate_tag}
use Rattle.cba_mode.specs.Open.{Opened, Attempt, Tried, Answered, verified, check, is_false, message_of, after, from_blocks, joined_plain, joined_rest, joined_attempt, separate_attempt, attempt, open_with}
use Rattle.cba_mode.proofs.FormLaws.{open_short, same-form}
use Rattle.cba_steps.specs.Endings.{form_of, blocks_of, Ends}
use Rattle.cba_sealing.specs.Calls.{tag_block}
use Rattle.cba_sealing.proofs.SealForms.{Headed, tag-size, tag_end}
use Rattle.cba_opening.specs.Calls.{end_as}
use Rattle.cba_opening.proofs.AttemptLaws.{after_turn, rest_end}

-- what has room for the message of n bytes with a tag of t has room for its first l
pub first-room : (l t n d o : ℕ) → l + t ≤ n → n ≤ d + t → o ≡ d → l ≤ o
first-room l t n d o g h e = omega arith

-- what follows C_0 without its tag, and what is without its tag after C_0
pub ends-after : (n l : ℕ) {e : Ending} {t : ℕ} → Ends e t (n - t - l) → Ends e t (n - l - t)
ends-after n l {e} {t} h = subst (λ (m : ℕ). Ends e t m) {x = n - t - l} {y = n - l - t} (omega arith) h

-- an end needs τ for the tag's length alone
joined_alone : (E D : List ℕ → List ℕ) (σ τ : ℕ) → tag_bytes σ ≡ tag_bytes τ → joined_attempt E D σ ≡ joined_attempt E D τ
unfolding joined_attempt
joined_alone E D σ τ e =
    let end : ℕ → List ℕ → List ℕ → List ℕ → List ℕ → Attempt = λ n Tag Δ S C'.
    let C₁ = but_last 16 C' in
    let M₁ = joined_plain E D Δ S C₁ (last_bytes 16 C') in
    let MmT = joined_rest E D Δ C₁ M₁ in
    record { message = M₁ ++ but_last n MmT; tag = last_bytes n MmT; tag' = Tag } in
    ap end e

separate_alone : (E D : List ℕ → List ℕ) (σ τ : ℕ) → tag_bytes σ ≡ tag_bytes τ → separate_attempt E D σ ≡ separate_attempt E D τ
unfolding separate_attempt separate_tag
separate_alone E D σ τ e =
    let end : ℕ → List ℕ → List ℕ → List ℕ → List ℕ → Attempt = λ n Tag Δ S C'.
    let Mm = last_block E Δ Tag (but_last n C') in
    record { message = Mm; tag = last_bytes n C'; tag' = take n (tag_block E Δ Tag S Mm) } in
    ap end e

module _ (E D : List ℕ → List ℕ) (τ b : ℕ) (N Ta : List ℕ) where
  -- the attempt in the form that the length takes
  formed : (f : Form) (C d out : List ℕ) (n : ℕ) (r : Bool) → open_form (ell τ b / 8) (tag_bytes τ) (length C) ≡ f →
      Tried (attempt E D τ b f N Ta C) n r d out → Tried (attempt E D τ b (open_form (ell τ b / 8) (tag_bytes τ) (length C)) N Ta C) n r d out
  formed f C d out n r e t = rw e t

  pub short-turn : (C d out ta off e : List ℕ) (n t : ℕ) (r : Bool) → length C ≤ ell τ b / 8 + tag_bytes τ → n ≡ length C - tag_bytes τ → t ≡ tag_bytes τ →
      out ≡ masked E τ b N (take n C) ++ drop (length (take n C)) d → ta ≡ leading 16 Ta → off ≡ Δ₀ E τ b N →
      e ≡ E (xors (xors ta (pad (take n C))) (F 3 3 off)) → r ≡ eqs (take (length C - n) (drop n C)) (take t e) →
      Tried (attempt E D τ b (open_form (ell τ b / 8) (tag_bytes τ) (length C)) N Ta C) (length C - tag_bytes τ) r d out
  unfolding attempt verified but_last last_bytes short_tag
  short-turn C d out ta off e n t r h en et eo eta eoff ee er =
      let l : length (take n C) ≡ n = simp length-take (omega arith) in
      formed short C d out (length C - tag_bytes τ) r (open_short _ _ _ h)
      (rw (← en, ← et, ← eta, ← eoff)
      (er ∙ ap₂ eqs (to_end C n) (ap (take t) ee), eo ∙ ap (λ (k : ℕ). masked E τ b N (take n C) ++ drop k d) l))

  -- the tail by its ending is that of the form
  tail-form : (e : Ending) (C : List ℕ) → (let L = ell τ b / 8 in let Tag = T τ Ta (take L C) in
      Ends e (tag_bytes τ) (length C - tag_bytes τ - L) → length Tag ≡ tag_bytes τ →
      after (masked E τ b N (take L C)) (from_blocks E D (end_as e E D Tag) (Δ₀ E τ b N) (drop L C) (blocks_of e)) ≡ attempt E D τ b (form_of e) N Ta C)
  unfolding attempt end_as
  tail-form (Joined k) C h s =
      let L = ell τ b / 8 in
      let Tag = T τ Ta (take L C) in
      let e : k ≡ full_blocks L (length C) - 1 = h.told ∙ ap (λ (n : ℕ). (n - 1) / 16 - 1) {x = length C - tag_bytes τ - L + tag_bytes τ} {y = length C - L} (omega (arith, h.within)) in
      ap₂ (λ (i : ℕ) (end : List ℕ → List ℕ → List ℕ → List ℕ → Attempt). after (masked E τ b N (take L C)) (from_blocks E D (end Tag) (Δ₀ E τ b N) (drop L C) i)) e
      (joined_alone E D (8 * length Tag) τ (omega (arith, s)))
  tail-form (Separate k) C h s =
      let L = ell τ b / 8 in
      let Tag = T τ Ta (take L C) in
      let e : k ≡ full_blocks L (length C) - 1 = h.told ∙ ap (λ (n : ℕ). (n - 1) / 16 - 1) {x = length C - tag_bytes τ - L + tag_bytes τ} {y = length C - L} (omega (arith, h.within)) in
      ap₂ (λ (i : ℕ) (end : List ℕ → List ℕ → List ℕ → List ℕ → Attempt). after (masked E τ b N (take L C)) (from_blocks E D (end Tag) (Δ₀ E τ b N) (drop L C) i)) e
      (separate_alone E D (8 * length Tag) τ (omega (arith, s)))

  pub long-turn : {C d out whole Δ : List ℕ} {l t : ℕ} {end : Ending} {r : Bool} (w : List ℕ) → Headed E τ b N Ta (take l C) C d out whole Δ (length C - tag_bytes τ) l t →
      l + tag_bytes τ ≤ length C → seal_form l t (length C - t) ≡ form_of end → Ends end t (length C - t - l) →
      (let tag = take (16 - (16 - t)) (drop (16 - t) whole) in
      let rest = take (length C - l) (drop l C) in
      Tried (from_blocks E D (end_as end E D tag) Δ rest (blocks_of end)) (length rest - length tag) r (take (length out - l) (drop l out)) w) →
      length w ≡ length (take (length out - l) (drop l out)) →
      Tried (attempt E D τ b (open_form (ell τ b / 8) (tag_bytes τ) (length C)) N Ta C) (length C - tag_bytes τ) r d
      (take l out ++ (w ++ drop (length out - l) (drop l out)))
  long-turn {C} {d} {out} {whole} {Δ} {l} {t} {end} {r} w v h f ends tried lw =
      let L = ell τ b / 8 in
      let M = masked E τ b N (take l C) in
      let tag = take (16 - (16 - t)) (drop (16 - t) whole) in
      let rest = take (length C - l) (drop l C) in
      let a = from_blocks E D (end_as end E D tag) Δ rest (blocks_of end) in
      let n : length (take l C) ≡ l = length-take-le l C v.longer in
      let er : rest ≡ drop l C = to_end C l in
      let most : t ≤ 16 = rw v.tags v.at_most in
      let size : length tag ≡ tag_bytes τ = tag-size whole t v.whole-size most ∙ v.tags in
      let eT : tag ≡ T τ Ta (take l C) = tag_end E τ b N Ta whole (T τ Ta (take l C)) t v.holds (v.size ∙ sym v.tags) most v.whole-size in
      let here =
      after_turn a M d out w l (length rest - length tag) (length C - tag_bytes τ) r (v.head ∙ ap (λ (k : ℕ). M ++ drop k d) n) v.kept
      (rw size (rest_end C l (tag_bytes τ) h)) v.room tried lw in
      let at-L : Ends end (tag_bytes τ) (length C - tag_bytes τ - L) =
      subst (λ (x : ℕ). Ends end (tag_bytes τ) (length C - tag_bytes τ - x)) v.bits (subst (λ (x : ℕ). Ends end x (length C - x - l)) v.tags ends) in
      let sized : length (T τ Ta (take L C)) ≡ tag_bytes τ = subst (λ (x : ℕ). length (T τ Ta (take x C)) ≡ tag_bytes τ) v.bits v.size in
      let same : a ≡ from_blocks E D (end_as end E D (T τ Ta (take l C))) (Δ₀ E τ b N) (drop l C) (blocks_of end) = rw (v.start, eT, er) refl in
      let whole_is : after M a ≡ attempt E D τ b (form_of end) N Ta C =
      ap (after M) same ∙ ap (λ (x : ℕ). after (masked E τ b N (take x C)) (from_blocks E D (end_as end E D (T τ Ta (take x C))) (Δ₀ E τ b N) (drop x C) (blocks_of end))) v.bits ∙ tail-form end C at-L sized in
      let form : open_form L (tag_bytes τ) (length C) ≡ form_of end =
      ap (open_form L (tag_bytes τ)) {x = length C} {y = length C - tag_bytes τ + tag_bytes τ} (omega arith) ∙ same-form L (tag_bytes τ) (length C - tag_bytes τ) v.at_most
      ∙ sym (ap₂ (λ (x y : ℕ). seal_form x y (length C - y)) v.bits v.tags) ∙ f in
      formed (form_of end) C d _ (length C - tag_bytes τ) r form (subst (λ (x : Attempt). Tried x (length C - tag_bytes τ) r d (take l out ++ (w ++ drop (length out - l) (drop l out)))) whole_is here)

  -- opening by what the attempt answered
  dec_is : (C : List ℕ) (r : Bool) → tag_bytes τ ≤ length C →
      r ≡ verified (attempt E D τ b (open_form (ell τ b / 8) (tag_bytes τ) (length C)) N Ta C) →
      open_with E D τ b N Ta C ≡ cond r (Opened.opened (attempt E D τ b (open_form (ell τ b / 8) (tag_bytes τ) (length C)) N Ta C).message) Opened.refused
  unfolding open_with check
  dec_is C r h e = rw (le-ltb (length C) (tag_bytes τ) h, ← e)

  pub open_good : (C d out : List ℕ) (n : ℕ) (r : Bool) → tag_bytes τ ≤ length C →
      Tried (attempt E D τ b (open_form (ell τ b / 8) (tag_bytes τ) (length C)) N Ta C) n r d out → r ≡ true →
      Answered (open_with E D τ b N Ta C) n true d out
  unfolding is_false message_of
  open_good C d out n r h t e = rw (dec_is C true h (sym e ∙ t.0)) (refl, t.1)

  -- zeros over what was read
  pub open_bad : (C d out z : List ℕ) (n m : ℕ) (r : Bool) → tag_bytes τ ≤ length C →
      Tried (attempt E D τ b (open_form (ell τ b / 8) (tag_bytes τ) (length C)) N Ta C) n r d out → r ≡ false →
      length out ≡ length d → n ≤ length d → m ≡ n → z ≡ replicate m 0 ++ drop m out →
      Answered (open_with E D τ b N Ta C) n false d z
  unfolding is_false
  open_bad C d out z n m r h t e lo hd em ez =
      let M = (attempt E D τ b (open_form (ell τ b / 8) (tag_bytes τ) (length C)) N Ta C).message in
      rw (dec_is C false h (sym e ∙ t.0)) (
        refl,
        ez ∙ ap (λ (k : ℕ). replicate k 0 ++ drop k out) em
            ∙ ap (λ (x : List ℕ). replicate n 0 ++ x) (ap (drop n) t.1 ∙ drop_at M (drop n d) n (size_of d M out n t.1 lo hd)),
      )
