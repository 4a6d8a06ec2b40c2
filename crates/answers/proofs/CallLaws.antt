-- Calls made one after the other.
-- Assumes nothing.
use mathlib.Core.Path.{◌≡◌, refl, sym, ap, ap₂, ◌∙◌}
use mathlib.Core.List.{List, [], ◌∷◌}
use Rattle.answers.specs.Calls.{Gave, InTurn, given_by, last_of, ByList}

-- where a promise says all that a call gives, a list of calls gives what the definitions say
module _ {X C : Type 0} (Promise : X → C → Gave X → Type 0) (gives : X → C → Gave X) (run : X → List C → X)
    (all : (v : X) (c : C) (g : Gave X) → Promise v c g → g ≡ gives v c)
    (none : (v : X) → run v [] ≡ v) (more : (v : X) (c : C) (cs : List C) → run v (c ∷ cs) ≡ run (gives v c).next cs) where
  pub by_list : (v : X) (cs : List C) (gs : List (Gave X)) → InTurn Promise v cs gs → ByList gives run v cs gs
  unfolding given_by last_of
  by_list v [] [] p = record { each = refl; last = sym (none v) }
  by_list v [] (g ∷ gs) p = absurd p
  by_list v (c ∷ cs) [] p = absurd p
  by_list v (c ∷ cs) (g ∷ gs) p =
      let e = all v c g p.0 in
      let h = by_list g.next cs gs p.1 in
      record {
        each = ap₂ (λ (y : Gave X) (ys : List (Gave X)). y ∷ ys) e (h.each ∙ ap (λ (y : Gave X). given_by gives y.next cs) e);
        last = h.last ∙ ap (λ (y : Gave X). run y.next cs) e ∙ sym (more v c cs);
      }
