-- A line's words, as the library's `split` gives them, and how long they are.
-- Assumes nothing.
use mathlib.Core.Path.{◌≡◌, refl, sym, ap, ◌∙◌}
use mathlib.Core.Bool.{Bool, true, false, cond, false≢true, true≢false}
use mathlib.Core.List.{List, [], ◌∷◌, ◌++◌, append_assoc, append-nil}
use Prim.Native.Nat.{ℕ, suc, ◌+◌, ◌-◌, ◌≤◌, ◌<◌}
use native.Mathlib.Omega.{arith}
use borrow.Author.Tests.{ltb-false}
use denote.Ref.{Bor}
use lib.Dec.{eqb, ltb}
use lib.ListN.{length, length-append, length-take, length-drop}
use denote.Param.Members.{Mut}
use Rattle.std.specs.Fn.{CalledAt}
use Rattle.std.specs.Slice.Iter.{split_steps, split_rest, split_done, split_callee}
use Rattle.std.specs.Iterator.Runs.{EachRunFrom}
use Rattle.std.specs.Iterator.{AlwaysYields}
use Rattle.std.proofs.lemmas.Iterator.Splits.{YieldsList-from_slice_split}
use Rattle.std.specs.List.{slice_split, onto_first, position_or_len}
use Rattle.std.specs.Prelude.{Option, Some, None}
use Rattle.std.specs.Option.{unwrap_or, is_some}
use Rattle.std.proofs.lemmas.List.Recursion.{is_position_or_len}
use Rattle.hub_text.specs.declared.cut.Words.{Words}
use Rattle.hub_text.specs.Cuts.{part, Cuts}
use Rattle.hub_grammar.specs.Lines.{join_first, words_of, length_before}

pub part_length : (b : List ℕ) (i j : ℕ) → i ≤ j → j ≤ length b → length (part b i j) ≡ j - i
part_length b i j h g = simp (length-take, length-drop) (omega arith)

-- ---- the bytes before the first x

pub before-most : (x : ℕ) (s : List ℕ) → length_before x s ≤ length s
unfolding length_before
before-most x [] = omega arith
before-most x (c ∷ s) = go (eqb c x) (before-most x s)
  where
    go : (b : Bool) → length_before x s ≤ length s → cond b 0 (suc (length_before x s)) ≤ suc (length s)
    go true h = omega arith
    go false h = omega arith

before-is : (x : ℕ) (s : List ℕ) → length_before x s ≡ position_or_len (λ c. eqb c x) s
unfolding length_before
before-is x s = is_position_or_len (length_before x) (λ c. eqb c x) refl (λ c t. ap (λ (n : ℕ). cond (eqb c x) 0 n) {x = suc (length_before x t)} {y = 1 + length_before x t} (omega arith)) s

-- the place of the first x, or the length
pub before-found : (x : ℕ) (s : List ℕ) (r : Option ℕ) → r ≡ cond (ltb (position_or_len (λ c. eqb c x) s) (length s)) (Some (position_or_len (λ c. eqb c x) s)) None →
    unwrap_or r (length s) ≡ length_before x s
before-found x s r e = ap (λ (o : Option ℕ). unwrap_or o (length s)) e ∙ go (ltb k (length s)) refl ∙ sym (before-is x s)
  where
    k : ℕ
    k = position_or_len (λ c. eqb c x) s

    go : (b : Bool) → ltb k (length s) ≡ b → unwrap_or (cond b (Some k) None) (length s) ≡ k
    go true h = refl
    go false h = omega (arith, before-is x s, before-most x s, ltb-false k (length s) h)

-- ---- the words one after the other

onto-is : (c : ℕ) (ws : List (List ℕ)) → onto_first c ws ≡ join_first c ws
unfolding join_first
onto-is c [] = refl
onto-is c (w ∷ ws) = refl

split-is : (s : List ℕ) → slice_split (λ c. eqb c 32) s ≡ words_of s
unfolding words_of
split-is [] = refl
split-is (c ∷ s) = rw (split-is s, onto-is c (words_of s)) refl

-- got are the first of the words ws, and the iterator s gives the others
pub record Left {S : Type 0} (steps : S → Option (Bor (List ℕ)) → S → Type 0) (ws got : List (List ℕ)) (s : S) : Type 0 where
  rest : List (List ℕ)
  whole : ws ≡ got ++ rest
  gives : AlwaysYields steps (λ x. x.now) s rest

module _ {S : Type 0} {steps : S → Option (Bor (List ℕ)) → S → Type 0} {ws got : List (List ℕ)} {s : S} (l : Left steps ws got s) where
  pub left-next : (x : Bor (List ℕ)) (t : S) → steps s (Some x) t → Left steps ws (got ++ (x.now ∷ [])) t
  left-next x t h = go l.rest l.whole l.gives
    where
      go : (rest : List (List ℕ)) → ws ≡ got ++ rest → AlwaysYields steps (λ y. y.now) s rest → Left steps ws (got ++ (x.now ∷ [])) t
      go [] e g = absurd (g x t h)
      go (w ∷ rest) e g =
          let p = g.1 x t h in
          record { rest = rest; whole = e ∙ ap (λ (y : List ℕ). got ++ (y ∷ rest)) (sym p.0) ∙ sym (append_assoc got (x.now ∷ []) rest); gives = p.1 }

  pub left_end : (t : S) → steps s None t → ws ≡ got
  left_end t h = go l.rest l.whole l.gives
    where
      go : (rest : List (List ℕ)) → ws ≡ got ++ rest → AlwaysYields steps (λ y. y.now) s rest → ws ≡ got
      go [] e g = e ∙ append-nil got
      go (w ∷ rest) e g = absurd (g.0 t h)

-- one call more: it gives a word, or there is none
module _ {S : Type 0} {steps : S → Option (Bor (List ℕ)) → S → Type 0} {ws got : List (List ℕ)} {s : S} (l : Left steps ws got s) where
  pub more-left : (r : Option (Bor (List ℕ))) (t : S) → steps s r t → is_some r ≡ true → length got < length ws
  more-left None t h e = absurd (false≢true e)
  more-left (Some x) t h e =
      let n = left-next l x t h in
      omega (arith, ap length n.whole, length-append (got ++ (x.now ∷ [])) n.rest, length-append got (x.now ∷ []))

  pub none_left : (r : Option (Bor (List ℕ))) (t : S) → steps s r t → is_some r ≡ false → ws ≡ got
  none_left None t h e = left_end l t h
  none_left (Some x) t h e = absurd (true≢false e)

-- a line of fewer words
pub too-few : (line : List ℕ) {r : Option Words} {got : List (List ℕ)} → r ≡ None → words_of line ≡ got → length got < 6 → Cuts line r
too-few line {r} {got} e w h = rw e (λ z. omega (arith, z, ap length w))

-- a line of more
pub too-many : (line : List ℕ) → 6 < length (words_of line) → Cuts line None
too-many line m z = omega (arith, m, z)

-- before the first word, where f tests for the space
pub left_none : {F : Type 0} (g : Mut F (Bor ℕ × Unit {0}) Bool) {s : _} {f : F} {P : _} (line : List ℕ) → EachRunFrom (split_steps g) s P →
    split_rest s ≡ line → split_done s ≡ false → split_callee s ≡ f →
    ((x : ℕ) (b : Bool) (q : F) → CalledAt g f x b q → (q ≡ f) × (b ≡ eqb x 32)) → Left (split_steps g) (words_of line) [] s
left_none g line runs rest done closure tests =
    record {
      rest = slice_split (λ c. eqb c 32) line;
      whole = sym (split-is line);
      gives = (YieldsList-from_slice_split g (λ c. eqb c 32) line rest done closure tests).runs;
    }

-- ---- their lengths

abbrev pub total : List (List ℕ) → ℕ
total [] = 0
total (w ∷ ws) = length w + 1 + total ws

words-some : (s : List ℕ) → 0 < length (words_of s)
unfolding words_of join_first
words-some [] = omega arith
words-some (c ∷ s) = go (eqb c 32) (words_of s)
  where
    go : (b : Bool) (ws : List (List ℕ)) → 0 < length (cond b ([] ∷ ws) (join_first c ws))
    go true ws = omega arith
    go false [] = omega arith
    go false (w ∷ ws) = omega arith

-- each word, and a space after each but the last
pub words-total : (s : List ℕ) → total (words_of s) ≡ length s + 1
unfolding words_of join_first
words-total [] = refl
words-total (c ∷ s) = go (eqb c 32) (words_of s) (words-some s) (words-total s)
  where
    go : (b : Bool) (ws : List (List ℕ)) → 0 < length ws → total ws ≡ length s + 1 → total (cond b ([] ∷ ws) (join_first c ws)) ≡ suc (length s) + 1
    go true ws h e = omega (arith, e)
    go false [] h e = absurd (omega arith)
    go false (w ∷ ws) h e = omega (arith, e)
