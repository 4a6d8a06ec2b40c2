-- The rows of the summary, one after the other, and the end of the input.
-- Assumes nothing.
use mathlib.Core.Path.{◌≡◌, refl, sym, ap, subst, ◌∙◌}
use mathlib.Core.Bool.{Bool, true, false, not, ◌&&◌, ◌||◌}
use mathlib.Core.List.{List, [], ◌∷◌, ◌++◌, append_assoc}
use Prim.Native.Nat.{ℕ, suc, ◌+◌, ◌-◌, ◌*◌, ◌<◌, ◌≤◌}
use native.Mathlib.Omega.{arith}
use borrow.Author.Tests.{eq-eqb, ne_eqb}
use lib.Dec.{T, eqb}
use lib.ListN.{length, get_or, take, drop, length-take, take-append-drop}
use lib.Seq.{drop-append-le, take-suc, length-take-le}
use Rattle.text.specs.Numerals.{decimal}
use Rattle.text.specs.declared.writer.Writer.{Writer}
use Rattle.text.specs.Writing.{Puts, Wrote}
use Rattle.text.proofs.WritingLaws.{puts_most, puts_then, wrote_none, wrote-then}
use Rattle.hub_rules.proofs.StreamLaws.{rows_append, one-row}
use Rattle.hub_rules.specs.Whole.{summary_head, row_for}
use Rattle.hub_run.specs.Held.{Held}
use Rattle.hub_rules.specs.Stream.{State, is_done, end_says, pending, rows_of, summary, ending}
use Rattle.hub_run.specs.Values.{Ends}

-- ---- a row

pub row-none : (set n : ℕ) {a : Writer} → n ≡ 0 → a.at ≤ length a.out.now → Wrote (row_for set n) a a
unfolding row_for
row-none set n {a} e h = rw (eq-eqb n 0 e) (wrote_none a h)

pub row-some : (set n : ℕ) {a b c d : Writer} → (n ≡ 0 → ⊥) → Wrote (decimal set) a b → Wrote (32 ∷ decimal n) b c → Wrote (10 ∷ []) c d → Wrote (row_for set n) a d
unfolding row_for
row-some set n e u v w = rw (ne_eqb n 0 e) (wrote-then u (wrote-then v w))

-- ---- the loop over the sets: i rows are written

pub record Rows (cs : List ℕ) (a : Writer) (i : ℕ) (b : Writer) : Type 0 where
  pub sets : i ≤ 10
  pub most : b.at ≤ a.at + 12 * i
  pub wrote : Wrote (rows_of 1 (take i cs)) a b

pub rows_none : (cs : List ℕ) (a : Writer) → a.at ≤ length a.out.now → Rows cs a 0 a
unfolding rows_of
rows_none cs a h = record { sets = omega arith; most = omega arith; wrote = wrote_none a h }

pub rows-turn : {cs : List ℕ} {a b c : Writer} {i : ℕ} → Rows cs a i b → length cs ≡ 10 → i < 10 → c.at ≤ b.at + 12 → Wrote (row_for (i + 1) (get_or cs i 0)) b c →
    Rows cs a (i + 1) c
rows-turn {cs} {a} {b} {c} {i} v l h m w =
    let li : length (take i cs) ≡ i = length-take-le i cs (omega (arith, l, h)) in
    let e : rows_of 1 (take i cs) ++ row_for (i + 1) (get_or cs i 0) ≡ rows_of 1 (take (i + 1) cs) =
    sym
    (ap (rows_of 1) (ap (λ (n : ℕ). take n cs) {x = i + 1} {y = suc i} (omega arith) ∙ take-suc cs i 0 (omega (arith, l, h)))
    ∙ rows_append 1 (take i cs) (get_or cs i 0 ∷ [])
    ∙ ap (λ (x : List ℕ). rows_of 1 (take i cs) ++ x) (ap (λ (n : ℕ). rows_of n (get_or cs i 0 ∷ [])) {x = 1 + length (take i cs)} {y = i + 1} (omega (arith, li)) ∙ one-row (i + 1) (get_or cs i 0))) in
    record {
      sets = omega arith;
      most = omega (arith, v.most, m);
      wrote = subst (λ (x : List ℕ). Wrote x a c) e (wrote-then v.wrote w);
    }

-- ---- the end of the input

module _ (st : State) (d : List ℕ) where
  pub summary-wrong : st.wrong ≡ true → Puts (summary st) 0 d d
  unfolding summary
  summary-wrong e = rw e (refl, refl)

  pub summary-right : (r : ℕ) (out : List ℕ) → st.wrong ≡ false → Puts (summary_head ++ rows_of 1 st.counts) r d out → Puts (summary st) r d out
  unfolding summary
  summary-right r out e w = rw e w

  pub ending-settled : (r : ℕ) (out : List ℕ) → pending st ≡ false → Puts (summary st) r d out → Puts (ending st) r d out
  unfolding ending
  ending-settled r out p w = rw p w

-- the last line, and the summary after it
pub ending-pending : (h : Held) (d : List ℕ) {g : Held} {i j : ℕ} {out last : List ℕ} → pending h.state ≡ true → Ends h i g d out → i + j ≤ length out →
    Puts (summary g.state) j (take (length out - i) (drop i out)) last → Puts (ending h.state) (i + j) d (take i out ++ (last ++ drop (length out - i) (drop i out)))
unfolding ending
ending-pending h d {i = i} {j = j} {out = out} {last = last} p e m w =
    rw (p, ← e.goes.state-is) (puts_then d out (end_says h.state) (summary _) last i j e.goes.said m w)

-- where a line is still to be ended, more is read
pub pending_open : (st : State) → pending st ≡ true → is_done st ≡ false
unfolding pending
pending_open st p = go (is_done st) p
  where
    go : (b : Bool) → (not b && (eqb st.lines 0 || not (eqb (length st.line) 0))) ≡ true → b ≡ false
    go true e = absurd (subst T (sym e) tt)
    go false e = refl

-- what is said into the first n bytes is said into the whole
pub ends-within : {h g : Held} {last : List ℕ} {r : ℕ} (d : List ℕ) (n : ℕ) → n ≤ length d → length last ≡ length (take n d) →
    Ends h r g (take n d) last → (r ≤ n) × Ends h r g d (last ++ drop n d)
ends-within {h = h} {last = last} {r = r} d n l q e =
    let s = end_says h.state in
    let w = e.goes.said in
    let m : r ≤ length (take n d) = omega (arith, puts_most s (take n d) last r w, q) in
    let p =
    ap (λ (x : List ℕ). x ++ drop n d) w.1
    ∙ append_assoc s (drop r (take n d)) (drop n d)
    ∙ ap (λ (x : List ℕ). s ++ x) (sym (drop-append-le r (take n d) (drop n d) m) ∙ ap (drop r) (take-append-drop n d)) in
    (omega (arith, m, length-take n d), record { goes = record { state-is = e.goes.state-is; said = (w.0, p) }; bytes_are = e.bytes_are })
