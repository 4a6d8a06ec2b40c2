-- How many byte strings of a length pass a test.
-- Assumes nothing.
use Rattle.std.specs.Prelude.{Bool, true, false, List, [], ◌∷◌, ℕ, zero, suc, ◌+◌}

-- a test as a number: 1 where it passes
unfoldable pub bit : Bool → ℕ
bit true = 1
bit false = 0

-- f 0 + f 1 + .. + f (k − 1)
unfoldable pub sum : ℕ → (ℕ → ℕ) → ℕ
sum zero f = 0
sum (suc k) f = sum k f + f k

-- the sum of f s over all strings s of n bytes, by the first byte
unfoldable pub total : ℕ → (List ℕ → ℕ) → ℕ
total zero f = f []
total (suc n) f = sum 256 (λ x. total n (λ s. f (x ∷ s)))

-- the number of strings of n bytes that pass p
unfoldable pub count : ℕ → (List ℕ → Bool) → ℕ
count n p = total n (λ s. bit (p s))
