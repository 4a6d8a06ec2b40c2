-- The exclusive or of two byte strings, byte by byte, as long as the shorter one.
-- Assumes nothing.
use Rattle.std.specs.Prelude.{List, [], ◌∷◌, ℕ}
use Rattle.std.specs.Int.Bits.{bit_xor}

unfoldable pub xors : List ℕ → List ℕ → List ℕ
xors [] b = []
xors (x ∷ a) [] = []
xors (x ∷ a) (y ∷ b) = bit_xor x y ∷ xors a b
