-- The state as the code has it: its counts, and a line's end.
-- Assumes nothing.
use mathlib.Core.Path.{◌≡◌, refl, sym, subst, ◌∙◌}
use mathlib.Core.Bool.{Bool, true, false, cond, not, ◌||◌}
use mathlib.Core.List.{List, []}
use Prim.Native.Nat.{ℕ, zero, suc, ◌+◌, ◌<◌, ◌≤◌}
use native.Mathlib.Omega.{arith}
use borrow.Author.Tests.{eq-eqb, ne_eqb}
use mathlib.Core.Logic.{⊎_elim}
use lib.Dec.{T, eqb}
use lib.ListN.{get_or, replicate}
use Rattle.octets.specs.Strings.{eqs}
use Rattle.hub_grammar.specs.Lines.{parse}
use Rattle.hub_rules.specs.Answers.{accepted_set, line_for}
use Rattle.text.specs.Writing.{Puts}
use Rattle.hub_rules.specs.Whole.{last_line, first_line, wrong_first}
use Rattle.hub_rules.specs.Stream.{State, is_done, counted, ended, end_says}
use Rattle.hub_run.specs.Held.{Held, Sound}
use Rattle.hub_run.specs.Values.{Ends}
use Rattle.hub_rules.proofs.StreamLaws.{counted-most}
use Rattle.octets.proofs.Tests.{le_or_lt}

-- ---- the counts

zeros : (k i : ℕ) → ◌≡◌ {A = ℕ} (get_or (replicate k 0) i 0) 0
zeros zero i = refl
zeros (suc k) zero = refl
zeros (suc k) (suc i) = zeros k i

pub sound_later : {n : ℕ} {cs : List ℕ} (ds : List ℕ) (a : ℕ) → Sound n cs → 0 < n → n ≤ last_line → ds ≡ counted 1 a cs → Sound (n + 1) ds
sound_later {n} {cs} ds a s p q y = record { lines-most = omega arith; counts-most = λ i. rw y (omega (arith, s.counts-most i, counted-most 1 a cs i, p)) }

-- ---- a line's end

flipped : (b : Bool) (r : ℕ) (d out : List ℕ) → Puts (cond (not b) wrong_first []) r d out → Puts (cond b [] wrong_first) r d out
flipped true r d out p = p
flipped false r d out p = p

pub ends_first : (h : Held) (d out : List ℕ) (b : Bool) (r : ℕ) → h.state.lines ≡ 0 → b ≡ eqs h.state.line first_line → Puts (cond (not b) wrong_first []) r d out →
    Ends h r (record { state = record { lines = 1; wrong = not b; counts = h.state.counts; line = [] }; bytes = h.bytes }) d out
unfolding ended end_says
ends_first h d out b r e w p = record { goes = record { state-is = rw (e, ← w) refl; said = rw (e, ← w) (flipped b r d out p) }; bytes_are = refl }

right : (st : State) → is_done st ≡ false → st.wrong ≡ false
unfolding is_done
right st o = go st.wrong o
  where
    go : (b : Bool) → (b || eqb st.lines (last_line + 1)) ≡ false → b ≡ false
    go true e = absurd (subst T e tt)
    go false e = refl

pub ends_later : (h : Held) (d out cs : List ℕ) (a r : ℕ) → is_done h.state ≡ false → 0 < h.state.lines → a ≡ accepted_set (parse h.state.line) →
    cs ≡ counted 1 a h.state.counts → Puts (line_for h.state.lines h.state.line) r d out →
    Ends h r (record { state = record { lines = h.state.lines + 1; wrong = h.state.wrong; counts = cs; line = [] }; bytes = h.bytes }) d out
unfolding ended end_says
ends_later h d out cs a r o p x y w =
    let n : eqb h.state.lines 0 ≡ false = ne_eqb h.state.lines 0 (λ e. absurd (omega (arith, e, p))) in
    record { goes = record { state-is = rw (n, ← x, ← y, right h.state o) refl; said = rw n w }; bytes_are = refl }

-- where more is read, the last line has not ended
pub still_open : (st : State) → is_done st ≡ false → Sound st.lines st.counts → st.lines ≤ last_line
unfolding is_done
still_open st o s =
    ⊎_elim
    (λ (q : st.lines ≤ last_line). q)
    (λ (q : last_line < st.lines). absurd (never st.wrong o (eq-eqb st.lines (last_line + 1) (omega (arith, q, s.lines-most)))))
    (le_or_lt st.lines last_line)
  where
    never : (b : Bool) → (b || eqb st.lines (last_line + 1)) ≡ false → eqb st.lines (last_line + 1) ≡ true → ⊥
    never true e t = subst T e tt
    never false e t = subst T (sym t ∙ e) tt
