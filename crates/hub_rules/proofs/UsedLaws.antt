-- How much of a chunk is used up: a line, and line after line.
-- Assumes nothing.
use mathlib.Core.Path.{◌≡◌, refl, sym, ap, ap₂, ◌∙◌}
use mathlib.Core.Bool.{Bool, true, false, cond, not, ◌&&◌}
use mathlib.Core.List.{List, [], ◌∷◌, ◌++◌, append-nil}
use Prim.Native.Nat.{ℕ, suc, ◌+◌, ◌-◌, ◌<◌, ◌≤◌}
use native.Mathlib.Omega.{arith}
use borrow.Author.Tests.{lt-ltb, le-ltb}
use lib.Dec.{eqb}
use lib.ListN.{length, take, drop, length-append, drop_of_length-le}
use Rattle.hub_grammar.specs.Lines.{length_before}
use Rattle.hub_rules.specs.Stream.{line_room, State, is_done, next, says, after, output, first_length, line_used, used_from}
use Rattle.hub_rules.proofs.StreamLaws.{stays_open}

-- ---- a line, by the bytes before LF

pub first-all : (s : List ℕ) → length_before 10 s ≡ length s → length_before 10 s ≡ first_length s
unfolding length_before first_length
first-all [] h = refl
first-all (c ∷ s) h = go (eqb c 10) h (first-all s)
  where
    go : (x : Bool) → cond x 0 (suc (length_before 10 s)) ≡ suc (length s) → (length_before 10 s ≡ length s → length_before 10 s ≡ first_length s) →
        cond x 0 (suc (length_before 10 s)) ≡ suc (cond x 0 (first_length s))
    go true h ih = absurd (omega (arith, h))
    go false h ih = ap suc (ih (omega (arith, h)))

pub first-line : (s : List ℕ) → length_before 10 s < length s → length_before 10 s + 1 ≡ first_length s
unfolding length_before first_length
first-line [] h = absurd (omega (arith, h))
first-line (c ∷ s) h = go (eqb c 10) h (first-line s)
  where
    go : (x : Bool) → cond x 0 (suc (length_before 10 s)) < suc (length s) → (length_before 10 s < length s → length_before 10 s + 1 ≡ first_length s) →
        cond x 0 (suc (length_before 10 s)) + 1 ≡ suc (cond x 0 (first_length s))
    go true h ih = omega arith
    go false h ih = omega (arith, ih (omega (arith, h)))

-- ---- line after line

module _ (room : ℕ) where
  -- with room for a line more, and without
  pub goes_on : (st : State) (w : ℕ) (s : List ℕ) → line_room ≤ room - w → used_from true st room w s ≡ used_from false st room w s
  unfolding used_from
  goes_on st w [] h = refl
  goes_on st w (c ∷ s) h = rw (le-ltb (room - w) line_room h) refl

  pub stops : (st : State) (w : ℕ) (s : List ℕ) → room - w < line_room → used_from true st room w s ≡ 0
  unfolding used_from
  stops st w [] h = refl
  stops st w (c ∷ s) h = rw (lt-ltb (room - w) line_room h) refl

  pub none_left : (st : State) (w : ℕ) → used_from true st room w [] ≡ 0
  unfolding used_from
  none_left st w = refl

  -- where nothing more is read, all is used up
  over_used : (st : State) (w : ℕ) (s : List ℕ) → is_done st ≡ true → used_from false st room w s ≡ length s
  unfolding used_from next says
  over_used st w [] o = refl
  over_used st w (c ∷ s) o = rw o (ap suc (over_used st (w + 0) s o))

  -- n bytes, and what is used up after them
  abbrev rest : State → ℕ → List ℕ → ℕ → ℕ
  rest st w s n = n + used_from true (after st (take n s)) room (w + length (output st (take n s))) (drop n s)

  line_first : (s : List ℕ) (st : State) (w : ℕ) → is_done st ≡ false → used_from false st room w s ≡ rest st w s (first_length s)
  unfolding used_from first_length after output
  line_first [] st w o = omega arith
  line_first (c ∷ s) st w o = go (eqb c 10) refl (line_first s)
    where
      go : (x : Bool) → eqb c 10 ≡ x → ((st : State) (w : ℕ) → is_done st ≡ false → used_from false st room w s ≡ rest st w s (first_length s)) →
          suc (used_from (not (is_done st) && x) (next st c) room (w + length (says st c)) s) ≡ rest st w (c ∷ s) (suc (cond x 0 (first_length s)))
      go true e ih =
          ap suc
          (ap₂ (λ (new : Bool) (k : ℕ). used_from new (next st c) room k s) (ap (λ (z : Bool). not z && true) o)
          (ap (λ (z : List ℕ). w + length z) (sym (append-nil (says st c)))))
          ∙ omega arith
      go false e ih =
          let u = first_length s in
          let p = take u s in
          let q = stays_open st c o e in
          ap suc
          (ap (λ (new : Bool). used_from new (next st c) room (w + length (says st c)) s) (ap (λ (z : Bool). not z && false) o)
          ∙ ih (next st c) (w + length (says st c)) q
          ∙ ap (λ (k : ℕ). u + used_from true (after (next st c) p) room k (drop u s)) {x = w + length (says st c) + length (output (next st c) p)} {y = w + length (says st c ++ output (next st c) p)}
          (omega (arith, length-append (says st c) (output (next st c) p))))
          ∙ omega arith

  pub line-used : (st : State) (w : ℕ) (s : List ℕ) (n : ℕ) → n ≡ line_used st s →
      used_from false st room w s ≡ n + used_from true (after st (take n s)) room (w + length (output st (take n s))) (drop n s)
  line-used st w s n e = go (is_done st) refl ∙ ap (rest st w s) (sym e)
    where
      go : (x : Bool) → is_done st ≡ x → used_from false st room w s ≡ rest st w s (cond x (length s) (first_length s))
      go true o =
          over_used st w s o
          ∙ sym
          (ap (λ (z : List ℕ). length s + used_from true (after st (take (length s) s)) room (w + length (output st (take (length s) s))) z) (drop_of_length-le s {i = length s} (omega arith))
          ∙ omega (arith, none_left (after st (take (length s) s)) (w + length (output st (take (length s) s)))))
      go false o = line_first s st w o
