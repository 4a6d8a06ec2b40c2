-- The State of FIPS 197, section 3.4: four rows and four columns of bytes, held column by column as the block has them.
-- Assumes nothing.
use Rattle.std.specs.Prelude.{List, ℕ, ◌+◌, ◌*◌, ◌/◌, ◌%◌, get_or}
use Rattle.octets.specs.Strings.{table}

-- s[r,c], the byte in row r and column c
unfoldable pub at : List ℕ → ℕ → ℕ → ℕ
at s r c = get_or s (r + 4 * c) 0

-- the State with f r c in row r and column c
unfoldable pub state : (ℕ → ℕ → ℕ) → List ℕ
state f = table (λ i. f (i % 4) (i / 4)) 16
