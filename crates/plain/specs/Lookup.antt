-- What the code's lookup of a set answers: the paper's number and values for each of its two cases.
-- Assumes nothing.
use Rattle.std.specs.Prelude.{◌≡◌, cond, List, [], ◌∷◌, ℕ, Option, Some, None}
use Rattle.cba_steps.specs.declared.parameters.Parameters.{Parameters}
use Rattle.cba_mode.specs.Sets.{is_set, column}
use Rattle.answers.specs.Rows.{answer}
use Rattle.cba_rules.specs.Checks.{bad_set}

-- a set's number yields its key bits, τ and b; any other yields nothing
unfoldable pub lookup_of : ℕ → Option Parameters
lookup_of n = cond (is_set n) (Some (record { key = column 0 n; tau = column 1 n; capacity = column 2 n })) None

-- the answer that a case stands for: none is refusal 1
unfoldable pub set_answer : Option Parameters → ℕ
set_answer (Some p) = 0
set_answer None = 1

-- its values: key bits, τ and b, or none
unfoldable pub values_of : Option Parameters → List ℕ
values_of (Some p) = p.key ∷ p.tau ∷ p.capacity ∷ []
values_of None = []

-- what the lookup of n gives: that case; its number is what the table's first row answers, and its values are the set's
pub record LooksUp (n : ℕ) (r : Option Parameters) : Type 0 where
  pub case_is : r ≡ lookup_of n
  pub number_is : set_answer r ≡ answer (bad_set n ∷ [])
  pub values_are : values_of r ≡ cond (is_set n) (column 0 n ∷ column 1 n ∷ column 2 n ∷ []) []
