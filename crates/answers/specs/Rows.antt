-- A call's answer by a list of checks: the number of the first that applies.
-- Assumes nothing.
use Rattle.std.specs.Prelude.{◌≡◌, Bool, true, false, cond, not, ◌&&◌, ◌||◌, List, [], ◌∷◌, ◌++◌, ℕ, eqb}

-- a row of a call's table: a refusal's number, and whether it applies
pub record Row : Type 0 where
  pub number : ℕ
  pub when : Bool

-- the first that applies; 0 means accepted
unfoldable pub answer : List Row → ℕ
answer [] = 0
answer (x ∷ rows) = cond x.when x.number (answer rows)

-- of two answers the first, unless it is 0
unfoldable pub first_of : ℕ → ℕ → ℕ
first_of a b = cond (eqb a 0) b a

-- none of the rows applies
abbrev pub Passes : List Row → Type 0
Passes [] = Unit {0}
Passes (x ∷ rows) = (x.when ≡ false) × Passes rows

unfoldable pub numbers : List Row → List ℕ
numbers [] = []
numbers (x ∷ rows) = x.number ∷ numbers rows

unfoldable pub is_in : ℕ → List ℕ → Bool
is_in n [] = false
is_in n (m ∷ ms) = eqb n m || is_in n ms

unfoldable pub all_in : List ℕ → List ℕ → Bool
all_in [] ms = true
all_in (n ∷ ns) ms = is_in n ms && all_in ns ms

-- each row has a number of its own, and none has 0
unfoldable pub own_numbers : List ℕ → Bool
own_numbers [] = true
own_numbers (n ∷ ns) = not (is_in n (0 ∷ ns)) && own_numbers ns

-- r is the answer of the rows, by what a reader of the table expects of it
pub record Decides (rows : List Row) (r : ℕ) : Type 0 where
  -- each number exactly where its row is the first that applies
  pub refuse : (xs : List Row) (x : Row) (ys : List Row) → rows ≡ xs ++ (x ∷ ys) → Passes xs → x.when ≡ true → r ≡ x.number
  pub refused : (xs : List Row) (x : Row) (ys : List Row) → rows ≡ xs ++ (x ∷ ys) → r ≡ x.number → Passes xs × (x.when ≡ true)
  -- 0 exactly where none does
  pub accept : Passes rows → r ≡ 0
  pub accepted : r ≡ 0 → Passes rows
  -- and no other number
  pub listed : is_in r (0 ∷ numbers rows) ≡ true
