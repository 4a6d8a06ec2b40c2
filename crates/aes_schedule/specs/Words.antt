-- Words and blocks: a block is four little-endian words, one for each column of the State.
-- Assumes nothing.
use Rattle.std.specs.Prelude.{List, [], ◌∷◌, ◌++◌, ℕ, ◌+◌, ◌/◌, ◌%◌, get_or}
use Rattle.aes_schedule.specs.declared.words.Words.{Words}

-- the four bytes of a word, the lowest first
abbrev pub bytes_of : ℕ → List ℕ
bytes_of x = x % 256 ∷ x / 256 % 256 ∷ x / 65536 % 256 ∷ x / 16777216 % 256 ∷ []

abbrev pub block_of : Words → List ℕ
block_of k = bytes_of k.a ++ (bytes_of k.b ++ (bytes_of k.c ++ bytes_of k.d))

-- the four bytes of a string from a place on
abbrev pub word_at : List ℕ → ℕ → List ℕ
word_at s at = get_or s at 0 ∷ get_or s (at + 1) 0 ∷ get_or s (at + 2) 0 ∷ get_or s (at + 3) 0 ∷ []

-- the entries of four bytes in a table
abbrev pub looked_up : List ℕ → ℕ → ℕ → ℕ → ℕ → List ℕ
looked_up t p q u v = get_or t p 0 ∷ get_or t q 0 ∷ get_or t u 0 ∷ get_or t v 0 ∷ []
