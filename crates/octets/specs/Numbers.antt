-- Byte strings as big-endian numbers, of any length.
-- Assumes nothing.
use Rattle.std.specs.Prelude.{List, [], ◌∷◌, ℕ, zero, suc, ◌+◌, ◌*◌, ◌/◌, ◌%◌, ◌^◌, length}

-- the number whose digits to base 256 the string is, the first byte the highest
unfoldable pub number : List ℕ → ℕ
number [] = 0
number (x ∷ s) = x * 256 ^ length s + number s

-- the n lowest digits to base 256 of x, the highest first
unfoldable pub digits : ℕ → ℕ → List ℕ
digits zero x = []
digits (suc n) x = x / 256 ^ n % 256 ∷ digits n x
