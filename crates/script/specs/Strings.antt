-- Strings from a seed.
-- Assumes nothing.
use Rattle.std.specs.Prelude.{List, ℕ, ◌+◌, ◌%◌}
use Rattle.octets.specs.Strings.{table}

abbrev pub seeded : ℕ → ℕ → ℕ
seeded seed i = (seed + i % 251) % 256

-- of n bytes
abbrev pub filled : ℕ → ℕ → List ℕ
filled seed n = table (seeded seed) n
