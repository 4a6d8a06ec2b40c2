-- The values of a record, a string of 64 bytes: big-endian numbers of two, three, four and eight bytes from a place on, a flag, and the bytes
-- between two places.
-- Assumes nothing.
use Rattle.std.specs.Prelude.{Bool, not, List, ℕ, ◌+◌, ◌-◌, ◌*◌, eqb, take, drop, get_or}

abbrev pub two : List ℕ → ℕ → ℕ
two r i = get_or r i 0 * 256 + get_or r (i + 1) 0

abbrev pub three : List ℕ → ℕ → ℕ
three r i = get_or r i 0 * 65536 + get_or r (i + 1) 0 * 256 + get_or r (i + 2) 0

abbrev pub four : List ℕ → ℕ → ℕ
four r i = get_or r i 0 * 16777216 + get_or r (i + 1) 0 * 65536 + get_or r (i + 2) 0 * 256 + get_or r (i + 3) 0

abbrev pub eight : List ℕ → ℕ → ℕ
eight r i = four r i * 4294967296 + four r (i + 4)

abbrev pub flag : List ℕ → ℕ → Bool
flag r i = not (eqb (get_or r i 0) 0)

abbrev pub part : List ℕ → ℕ → ℕ → List ℕ
part r start end = take (end - start) (drop start r)
