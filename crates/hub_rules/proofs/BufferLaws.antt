-- The buffer that holds the line so far: a chunk in two parts, and a piece of a line.
-- Assumes nothing.
use mathlib.Core.Path.{◌≡◌, refl, sym, ap, ap₂, ◌∙◌}
use mathlib.Core.Bool.{Bool, true, false, cond}
use mathlib.Core.List.{List, [], ◌∷◌, ◌++◌, append_assoc}
use mathlib.Core.Logic.{⊎_elim}
use Prim.Native.Nat.{ℕ, suc, ◌+◌, ◌-◌, ◌<◌, ◌≤◌}
use native.Mathlib.Omega.{arith}
use borrow.Author.Tests.{lt-ltb, le-ltb}
use lib.Dec.{eqb}
use lib.ListN.{length, take, drop, length-append, length-take, length-drop, take-append-drop}
use lib.Seq.{take_at, take-nil, length-take-le}
use Rattle.octets.proofs.Parts.{drop_put}
use Rattle.hub_grammar.specs.Lines.{length_before}
use Rattle.hub_rules.specs.Stream.{line_kept, State, is_done, longer, next, after, overlaid, stored, buffer}
use Rattle.hub_rules.proofs.StreamLaws.{stays_open}
use Rattle.octets.proofs.Tests.{le_or_lt}

pub buffer_append : (st : State) (b s t : List ℕ) → buffer st b (s ++ t) ≡ buffer (after st s) (buffer st b s) t
unfolding after buffer
buffer_append st b [] t = refl
buffer_append st b (c ∷ s) t = buffer_append (next st c) (stored st b c) s t

-- where nothing more is read, nothing more is kept
pub over-keeps : (st : State) → is_done st ≡ true → (b s : List ℕ) → buffer st b s ≡ b
unfolding buffer next stored
over-keeps st o b [] = refl
over-keeps st o b (c ∷ s) = rw o (over-keeps st o b s)

-- nothing is kept of LF
pub end_keeps : (st : State) → is_done st ≡ false → (b : List ℕ) → buffer st b (10 ∷ []) ≡ b
unfolding buffer stored
end_keeps st o b = rw o refl

-- ---- a piece of a line

overlaid-none : (at : ℕ) (b : List ℕ) → b ≡ overlaid at [] b
overlaid-none at b = sym (take-append-drop at b) ∙ ap (λ (k : ℕ). take at b ++ drop k b) {x = at} {y = at + 0} (omega arith)

-- a byte, and what follows it
overlaid-more : (at c : ℕ) (t b : List ℕ) → at < length b → overlaid (at + 1) t (overlaid at (c ∷ []) b) ≡ overlaid at (c ∷ t) b
overlaid-more at c t b h =
    let a = take at b ++ (c ∷ []) in
    let l : length a ≡ at + 1 = length-append (take at b) (c ∷ []) ∙ omega (arith, length-take-le at b (omega arith)) in
    let e : overlaid at (c ∷ []) b ≡ a ++ drop (length a) b =
    sym (append_assoc (take at b) (c ∷ []) (drop (at + 1) b)) ∙ ap (λ (k : ℕ). a ++ drop k b) (sym l) in
    rw (e, take_at a (drop (length a) b) (at + 1) l, drop_put a b (at + 1 + length t) (omega (arith, l)))
    (append_assoc (take at b) (c ∷ []) (t ++ drop (at + 1 + length t) b)
    ∙ ap (λ (k : ℕ). take at b ++ ((c ∷ t) ++ drop k b)) {x = at + 1 + length t} {y = at + suc (length t)} (omega arith))

overlaid-length : (at c : ℕ) (b : List ℕ) → at < length b → length (overlaid at (c ∷ []) b) ≡ length b
overlaid-length at c b h =
    length-append (take at b) ((c ∷ []) ++ drop (at + 1) b)
    ∙ omega (arith, length-append (c ∷ []) (drop (at + 1) b), length-take-le at b (omega arith), length-drop (at + 1) b)

module _ (st : State) (c : ℕ) (b : List ℕ) (o : is_done st ≡ false) (e : eqb c 10 ≡ false) (m : line_kept ≤ length b) where
  -- a byte that is kept, and one that is not
  one_in : length st.line < line_kept → (length (next st c).line ≡ length st.line + 1) × (stored st b c ≡ overlaid (length st.line) (c ∷ []) b)
  unfolding next longer stored
  one_in h =
      rw (o, e, lt-ltb (length st.line) line_kept h)
      (length-take line_kept (st.line ++ (c ∷ [])) ∙ omega (arith, length-append st.line (c ∷ []), h), refl)

  one_out : line_kept ≤ length st.line → (length (next st c).line ≡ line_kept) × (stored st b c ≡ b)
  unfolding next longer stored
  one_out h =
      rw (o, e, le-ltb (length st.line) line_kept h)
      (length-take line_kept (st.line ++ (c ∷ [])) ∙ omega (arith, length-append st.line (c ∷ []), h), refl)

-- the bytes before LF go over the buffer from the line's end on, as many as are kept
pub piece-kept : (s : List ℕ) (st : State) (b : List ℕ) → is_done st ≡ false → length st.line ≤ line_kept → line_kept ≤ length b →
    buffer st b (take (length_before 10 s) s) ≡ overlaid (length st.line) (take (line_kept - length st.line) (take (length_before 10 s) s)) b
unfolding length_before buffer
piece-kept [] st b o h m = overlaid-none (length st.line) b ∙ ap (λ (x : List ℕ). overlaid (length st.line) x b) (sym (take-nil (line_kept - length st.line)))
piece-kept (c ∷ s) st b o h m = go (eqb c 10) refl (piece-kept s)
  where
    go : (x : Bool) → eqb c 10 ≡ x →
        ((st : State) (b : List ℕ) → is_done st ≡ false → length st.line ≤ line_kept → line_kept ≤ length b →
        buffer st b (take (length_before 10 s) s) ≡ overlaid (length st.line) (take (line_kept - length st.line) (take (length_before 10 s) s)) b) →
        buffer st b (take (cond x 0 (suc (length_before 10 s))) (c ∷ s)) ≡ overlaid (length st.line) (take (line_kept - length st.line) (take (cond x 0 (suc (length_before 10 s))) (c ∷ s))) b
    go true e ih = overlaid-none (length st.line) b ∙ ap (λ (x : List ℕ). overlaid (length st.line) x b) (sym (take-nil (line_kept - length st.line)))
    go false e ih =
        let p = take (length_before 10 s) s in
        let at = length st.line in
        ⊎_elim
        (λ (q : line_kept ≤ at).
        let r = one_out st c b o e m q in
        let k = length (next st c).line in
        let x : take (line_kept - k) p ≡ [] = ap (λ (n : ℕ). take n p) {x = line_kept - k} {y = 0} (omega (arith, r.0)) in
        let y : take (line_kept - at) (c ∷ p) ≡ [] = ap (λ (n : ℕ). take n (c ∷ p)) {x = line_kept - at} {y = 0} (omega (arith, q)) in
        ih (next st c) (stored st b c) (stays_open st c o e) (omega (arith, r.0)) (omega (arith, m, ap length r.1))
        ∙ ap₂ (λ (u v : List ℕ). overlaid k u v) x r.1
        ∙ sym (overlaid-none k b)
        ∙ overlaid-none at b
        ∙ ap (λ (u : List ℕ). overlaid at u b) (sym y))
        (λ (q : at < line_kept).
        let r = one_in st c b o e m q in
        let y : c ∷ take (line_kept - (at + 1)) p ≡ take (line_kept - at) (c ∷ p) =
        ap (λ (n : ℕ). take n (c ∷ p)) {x = suc (line_kept - (at + 1))} {y = line_kept - at} (omega (arith, q)) in
        ih (next st c) (stored st b c) (stays_open st c o e) (omega (arith, r.0, q)) (omega (arith, m, ap length r.1, overlaid-length at c b (omega (arith, m, q))))
        ∙ ap₂ (λ (k : ℕ) (v : List ℕ). overlaid k (take (line_kept - k) p) v) r.0 r.1
        ∙ overlaid-more at c (take (line_kept - (at + 1)) p) b (omega (arith, m, q))
        ∙ ap (λ (u : List ℕ). overlaid at u b) y)
        (le_or_lt line_kept at)
