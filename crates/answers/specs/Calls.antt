-- Calls made one after the other on a value, as a ledger or a receiver is: each call gives the next value.
-- Assumes nothing.
use Rattle.std.specs.Prelude.{◌≡◌, List, [], ◌∷◌, ℕ}

-- what a call gave: its answer, the next value, and the output at exit; a call without an output has [] there
pub record Gave (X : Type 0) : Type 0 where
  pub answer : ℕ
  pub next : X
  pub out : List ℕ

-- calls on v gave gs: each kept its promise, and was made on the value that the one before it gave
abbrev pub InTurn : {X C : Type 0} → (X → C → Gave X → Type 0) → X → List C → List (Gave X) → Type 0
InTurn Promise v [] [] = Unit {0}
InTurn Promise v [] (g ∷ gs) = ⊥
InTurn Promise v (c ∷ cs) [] = ⊥
InTurn Promise v (c ∷ cs) (g ∷ gs) = Promise v c g × InTurn Promise g.next cs gs

-- what a list of calls gives, by what one call gives
unfoldable pub given_by : {X C : Type 0} → (X → C → Gave X) → X → List C → List (Gave X)
given_by gives v [] = []
given_by gives v (c ∷ cs) = gives v c ∷ given_by gives (gives v c).next cs

-- the value after the last of them
unfoldable pub last_of : {X : Type 0} → X → List (Gave X) → X
last_of v [] = v
last_of v (g ∷ gs) = last_of g.next gs

-- each gave what the definitions say of it, and after the last stands the value that they say of the list
pub record ByList {X C : Type 0} (gives : X → C → Gave X) (run : X → List C → X) (v : X) (cs : List C) (gs : List (Gave X)) : Type 0 where
  pub each : gs ≡ given_by gives v cs
  pub last : last_of v gs ≡ run v cs
