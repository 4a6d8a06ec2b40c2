-- Byte strings: lists of numbers below 256.
-- Assumes nothing.
use Rattle.std.specs.Prelude.{◌≡◌, Bool, true, false, ◌&&◌, List, [], ◌∷◌, ◌++◌, ℕ, zero, suc, ◌<◌, eqb, length, drop}

-- every element is a byte
abbrev pub Bytes : List ℕ → Type 0
Bytes [] = Unit {0}
Bytes (x ∷ s) = (x < 256) × Bytes s

-- s is a string of n bytes
pub record Octets (n : ℕ) (s : List ℕ) : Type 0 where
  pub size : length s ≡ n
  pub small : Bytes s

-- the list f 0, f 1, .., f (n − 1)
unfoldable pub table : (ℕ → ℕ) → ℕ → List ℕ
table f zero = []
table f (suc n) = table f n ++ (f n ∷ [])

-- d with s over its first bytes
abbrev pub over : List ℕ → List ℕ → List ℕ
over s d = s ++ drop (length s) d

-- two strings are the same
abbrev pub eqs : List ℕ → List ℕ → Bool
eqs [] [] = true
eqs [] (y ∷ t) = false
eqs (x ∷ s) [] = false
eqs (x ∷ s) (y ∷ t) = eqb x y && eqs s t
