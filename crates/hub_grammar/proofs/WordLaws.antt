-- Words put together with spaces, and cut apart.
-- Assumes nothing.
use mathlib.Core.Path.{◌≡◌, refl, sym, ap, ◌∙◌}
use mathlib.Core.Bool.{Bool, true, false, cond}
use mathlib.Core.List.{List, [], ◌∷◌, ◌++◌}
use Prim.Native.Nat.{ℕ}
use native.Mathlib.Omega.{arith}
use lib.Dec.{eqb}
use borrow.Author.Tests.{eqb-true, ne_eqb}
use Rattle.text.proofs.NumeralLaws.{Solid}
use Rattle.hub_grammar.specs.Lines.{spaced, join_first, words_of}

abbrev pub Solids : List (List ℕ) → Type 0
Solids [] = Unit {0}
Solids (w ∷ ws) = Solid w × Solids ws

-- a word is read up to the end, or up to the space
word_end : (w : List ℕ) → Solid w → words_of (w ++ []) ≡ w ∷ []
unfolding words_of join_first
word_end [] h = refl
word_end (c ∷ w) h = rw (ne_eqb c 32 (λ e. omega arith), word_end w h.1)

word_space : (w s : List ℕ) → Solid w → words_of (w ++ (32 ∷ s)) ≡ w ∷ words_of s
unfolding words_of join_first
word_space [] s h = refl
word_space (c ∷ w) s h = rw (ne_eqb c 32 (λ e. omega arith), word_space w s h.1)

-- words are read as they were written
pub words-spaced : (w : List ℕ) (ws : List (List ℕ)) → Solid w → Solids ws → words_of (w ++ spaced ws) ≡ w ∷ ws
unfolding spaced
words-spaced w [] h k = word_end w h
words-spaced w (v ∷ ws) h k = word_space w (v ++ spaced ws) h ∙ ap (λ (l : List (List ℕ)). w ∷ l) (words-spaced v ws k.0 k.1)

spaced_join : (c : ℕ) (ws : List (List ℕ)) (s : List ℕ) → spaced ws ≡ 32 ∷ s → spaced (join_first c ws) ≡ 32 ∷ c ∷ s
unfolding spaced join_first
spaced_join c [] s e = let z : ◌≡◌ {A = ℕ} 0 1 = cc in absurd (omega arith)
spaced_join c (w ∷ ws) s e = cc

-- every line is its words, a space between each two
pub spaced-words : (s : List ℕ) → spaced (words_of s) ≡ 32 ∷ s
unfolding spaced words_of
spaced-words [] = refl
spaced-words (c ∷ s) = go (eqb c 32) refl (spaced-words s)
  where
    go : (b : Bool) → eqb c 32 ≡ b → spaced (words_of s) ≡ 32 ∷ s → spaced (cond b ([] ∷ words_of s) (join_first c (words_of s))) ≡ 32 ∷ c ∷ s
    go true e h = ap (λ (l : List ℕ). 32 ∷ l) (h ∙ ap (λ (x : ℕ). x ∷ s) (sym (eqb-true c 32 e)))
    go false e h = spaced_join c (words_of s) s h
