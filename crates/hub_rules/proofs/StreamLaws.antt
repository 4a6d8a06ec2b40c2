-- The run byte by byte: chunks one after the other, a line that grows and ends, counts and rows.
-- Assumes nothing.
use mathlib.Core.Path.{◌≡◌, refl, sym, ap, ap₂, ◌∙◌}
use mathlib.Core.Bool.{Bool, true, false, cond}
use mathlib.Core.List.{List, [], ◌∷◌, ◌++◌, append_assoc, append-nil}
use mathlib.Core.Logic.{◌⊎◌, inl, inr, ⊎_elim}
use Prim.Native.Nat.{ℕ, zero, suc, ◌+◌, ◌<◌, ◌≤◌}
use native.Mathlib.Omega.{arith}
use borrow.Author.Tests.{eq-eqb, ne_eqb, eqb-true}
use lib.Dec.{eqb}
use lib.ListN.{length, take, get_or, set, length-take}
use lib.Seq.{take_all, take_at, take-append-le, length-take-le}
use Rattle.octets.proofs.Tests.{le_or_lt}
use Rattle.hub_grammar.specs.Lines.{length_before}
use Rattle.hub_rules.specs.Whole.{row_for}
use Rattle.hub_rules.specs.Stream.{line_kept, State, is_done, counted, ended, end_says, longer, next, says, after, output, rows_of}

-- ---- chunks

pub after_append : (st : State) (a b : List ℕ) → after st (a ++ b) ≡ after (after st a) b
unfolding after
after_append st [] b = refl
after_append st (c ∷ a) b = after_append (next st c) a b

pub output_append : (st : State) (a b : List ℕ) → output st (a ++ b) ≡ output st a ++ output (after st a) b
unfolding after output
output_append st [] b = refl
output_append st (c ∷ a) b =
    ap (λ (x : List ℕ). says st c ++ x) (output_append (next st c) a b) ∙ sym (append_assoc (says st c) (output (next st c) a) (output (after (next st c) a) b))

-- where nothing more is read, nothing more is said
pub over-stays : (st : State) → is_done st ≡ true → (s : List ℕ) → (after st s ≡ st) × (output st s ≡ [])
unfolding output after next says
over-stays st o [] = (refl, refl)
over-stays st o (c ∷ s) = rw o (over-stays st o s)

-- ---- more of a line, as much of it as is kept

pub kept : (w : List ℕ) → (take line_kept w ≡ w) ⊎ ((line_kept < length w) × (length (take line_kept w) ≡ line_kept))
kept w = ⊎_elim (λ (h : length w ≤ line_kept). inl (take_all line_kept w h)) (λ (h : line_kept < length w). inr (h, length-take-le line_kept w (omega arith))) (le_or_lt (length w) line_kept)

pub kept_more : (w s : List ℕ) → take line_kept (take line_kept w ++ s) ≡ take line_kept (w ++ s)
kept_more w s =
    ⊎_elim
    (λ (e : take line_kept w ≡ w). ap (λ (x : List ℕ). take line_kept (x ++ s)) e)
    (λ (e : (line_kept < length w) × (length (take line_kept w) ≡ line_kept)). take_at (take line_kept w) s line_kept e.1 ∙ sym (take-append-le line_kept w s (omega (arith, e.0))))
    (kept w)

longer-longer : (st : State) (a b : List ℕ) → longer (longer st a) b ≡ longer st (a ++ b)
unfolding longer
longer-longer st a b =
    ap (λ (x : List ℕ). record { lines = st.lines; wrong = st.wrong; counts = st.counts; line = x })
    (kept_more (st.line ++ a) b ∙ ap (take line_kept) (append_assoc st.line a b))

longer-none : (st : State) → length st.line ≤ line_kept → longer st [] ≡ st
unfolding longer
longer-none st h =
    ap (λ (x : List ℕ). record { lines = st.lines; wrong = st.wrong; counts = st.counts; line = x })
    (ap (take line_kept) (append-nil st.line) ∙ take_all line_kept st.line h)

pub longer-over : (st : State) (s : List ℕ) → is_done (longer st s) ≡ is_done st
unfolding longer is_done
longer-over st s = refl

longer-most : (st : State) (s : List ℕ) → length (longer st s).line ≤ line_kept
unfolding longer
longer-most st s = omega (arith, length-take line_kept (st.line ++ s))

next_more : (st : State) (c : ℕ) → is_done st ≡ false → eqb c 10 ≡ false → (next st c ≡ longer st (c ∷ [])) × (says st c ≡ [])
unfolding next says
next_more st c o e = rw (o, e) (refl, refl)

pub stays_open : (st : State) (c : ℕ) → is_done st ≡ false → eqb c 10 ≡ false → is_done (next st c) ≡ false
stays_open st c o e = ap is_done (next_more st c o e).0 ∙ longer-over st (c ∷ []) ∙ o

-- a piece without LF
pub piece : (s : List ℕ) (st : State) → is_done st ≡ false → length st.line ≤ line_kept →
    (after st (take (length_before 10 s) s) ≡ longer st (take (length_before 10 s) s)) × (output st (take (length_before 10 s) s) ≡ [])
unfolding length_before after output
piece [] st o h = (sym (longer-none st h), refl)
piece (c ∷ s) st o h = go (eqb c 10) refl (piece s (longer st (c ∷ [])) (longer-over st (c ∷ []) ∙ o) (longer-most st (c ∷ [])))
  where
    go : (b : Bool) → eqb c 10 ≡ b →
        (after (longer st (c ∷ [])) (take (length_before 10 s) s) ≡ longer (longer st (c ∷ [])) (take (length_before 10 s) s)) × (output (longer st (c ∷ [])) (take (length_before 10 s) s) ≡ []) →
        (after st (take (cond b 0 (suc (length_before 10 s))) (c ∷ s)) ≡ longer st (take (cond b 0 (suc (length_before 10 s))) (c ∷ s)))
        × (output st (take (cond b 0 (suc (length_before 10 s))) (c ∷ s)) ≡ [])
    go true e ih = (sym (longer-none st h), refl)
    go false e ih =
        let n = next_more st c o e in
        let p = take (length_before 10 s) s in
        (ap (λ (x : State). after x p) n.0 ∙ ih.0 ∙ longer-longer st (c ∷ []) p, ap₂ (λ (x : List ℕ) (y : State). x ++ output y p) n.1 n.0 ∙ ih.1)

-- a line with its LF
pub with_end : (s : List ℕ) → length_before 10 s < length s → take (length_before 10 s + 1) s ≡ take (length_before 10 s) s ++ (10 ∷ [])
unfolding length_before
with_end [] h = absurd (omega (arith, h))
with_end (c ∷ s) h = go (eqb c 10) refl (with_end s) h
  where
    go : (b : Bool) → eqb c 10 ≡ b → (length_before 10 s < length s → take (length_before 10 s + 1) s ≡ take (length_before 10 s) s ++ (10 ∷ [])) →
        cond b 0 (suc (length_before 10 s)) < suc (length s) →
        take (cond b 0 (suc (length_before 10 s)) + 1) (c ∷ s) ≡ take (cond b 0 (suc (length_before 10 s))) (c ∷ s) ++ (10 ∷ [])
    go true e ih h = ap (λ (x : ℕ). x ∷ []) (eqb-true c 10 e)
    go false e ih h = ap (λ (x : ℕ). take x (c ∷ s)) {x = suc (length_before 10 s) + 1} {y = suc (length_before 10 s + 1)} (omega arith) ∙ ap (λ (x : List ℕ). c ∷ x) (ih (omega (arith, h)))

line_end : (st : State) → is_done st ≡ false → (after st (10 ∷ []) ≡ ended st) × (output st (10 ∷ []) ≡ end_says st)
unfolding after output next says
line_end st o = rw o (refl, append-nil (end_says st))

pub with_line : (s : List ℕ) (st : State) → is_done st ≡ false → length st.line ≤ line_kept → length_before 10 s < length s →
    let w = longer st (take (length_before 10 s) s) in
    (after st (take (length_before 10 s + 1) s) ≡ ended w) × (output st (take (length_before 10 s + 1) s) ≡ end_says w)
with_line s st o h l =
    let p = take (length_before 10 s) s in
    let e = piece s st o h in
    let f = line_end (longer st p) (longer-over st p ∙ o) in (
      ap (after st) (with_end s l) ∙ after_append st p (10 ∷ []) ∙ ap (λ (x : State). after x (10 ∷ [])) e.0 ∙ f.0,
      ap (output st) (with_end s l) ∙ output_append st p (10 ∷ []) ∙ ap₂ (λ (x : List ℕ) (y : State). x ++ output y (10 ∷ [])) e.1 e.0 ∙ f.1,
    )

-- ---- the counts

-- no count of the list is the set's
pub counted-below : (i s : ℕ) (cs : List ℕ) → s < i → cs ≡ counted i s cs
unfolding counted
counted-below i s [] h = refl
counted-below i s (c ∷ cs) h = rw (ne_eqb s i (λ e. absurd (omega (arith, e, h)))) (ap₂ ◌∷◌ {x = c} {y = c + 0} (omega arith) (counted-below (i + 1) s cs (omega arith)))

pub counted-above : (i s : ℕ) (cs : List ℕ) → i + length cs ≤ s → cs ≡ counted i s cs
unfolding counted
counted-above i s [] h = refl
counted-above i s (c ∷ cs) h = rw (ne_eqb s i (λ e. absurd (omega (arith, e, h)))) (ap₂ ◌∷◌ {x = c} {y = c + 0} (omega arith) (counted-above (i + 1) s cs (omega (arith, h))))

pub counted-at : (i k : ℕ) (cs : List ℕ) → k < length cs → set cs k (get_or cs k 0 + 1) ≡ counted i (i + k) cs
unfolding counted
counted-at i k [] h = absurd (omega (arith, h))
counted-at i zero (c ∷ cs) h = rw (eq-eqb (i + 0) i (omega arith)) (ap (λ (x : List ℕ). (c + 1) ∷ x) (counted-below (i + 1) (i + 0) cs (omega arith)))
counted-at i (suc k) (c ∷ cs) h =
    rw (ne_eqb (i + suc k) i (λ e. absurd (omega (arith, e))))
    (ap₂ ◌∷◌ {x = c} {y = c + 0} (omega arith) (counted-at (i + 1) k cs (omega (arith, h)) ∙ ap (λ (s : ℕ). counted (i + 1) s cs) {x = i + 1 + k} {y = i + suc k} (omega arith)))

pub counted-most : (i s : ℕ) (cs : List ℕ) (j : ℕ) → get_or (counted i s cs) j 0 ≤ get_or cs j 0 + 1
unfolding counted
counted-most i s [] j = omega arith
counted-most i s (c ∷ cs) zero = go (eqb s i)
  where
    go : (b : Bool) → c + cond b 1 0 ≤ c + 1
    go true = omega arith
    go false = omega arith
counted-most i s (c ∷ cs) (suc j) = counted-most (i + 1) s cs j

-- ---- the rows of the first i sets, from set j on

pub rows_append : (j : ℕ) (a b : List ℕ) → rows_of j (a ++ b) ≡ rows_of j a ++ rows_of (j + length a) b
unfolding rows_of
rows_append j [] b = ap (λ (k : ℕ). rows_of k b) {x = j} {y = j + 0} (omega arith)
rows_append j (c ∷ a) b =
    ap (λ (x : List ℕ). row_for j c ++ x) (rows_append (j + 1) a b ∙ ap (λ (k : ℕ). rows_of (j + 1) a ++ rows_of k b) {x = j + 1 + length a} {y = j + suc (length a)} (omega arith))
    ∙ sym (append_assoc (row_for j c) (rows_of (j + 1) a) (rows_of (j + suc (length a)) b))

pub one-row : (j c : ℕ) → rows_of j (c ∷ []) ≡ row_for j c
unfolding rows_of
one-row j c = append-nil (row_for j c)
