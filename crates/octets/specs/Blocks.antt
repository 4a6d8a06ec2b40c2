-- A string cut into blocks of k bytes; the mode's and the cipher's blocks have 16.
-- Assumes nothing.
use Rattle.std.specs.Prelude.{List, ℕ, ◌*◌, take, drop}

-- block i, counted from 0; the last one may be shorter
abbrev pub block : ℕ → List ℕ → ℕ → List ℕ
block k s i = take k (drop (k * i) s)
