-- An offset as two numbers, one for each half, as the code has it.
-- Assumes nothing.
use Rattle.std.specs.Prelude.{List, ◌++◌, ℕ}
use Rattle.octets.specs.Numbers.{digits}
use Rattle.cba_steps.specs.declared.offsets.Halves.{Halves}

abbrev pub halves_of : Halves → List ℕ
halves_of h = digits 8 h.a ++ digits 8 h.b
