-- How deep the walk over the associated data goes.
-- Assumes nothing.
use Rattle.std.specs.Prelude.{List, ℕ, ◌/◌, length}

-- the calls that follow the call on A, one for each full block: the walk's measure
abbrev pub depth : List ℕ → ℕ
depth A = length A / 16
