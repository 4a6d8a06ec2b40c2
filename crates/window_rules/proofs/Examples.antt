-- The example windows are as their tables say.
-- Assumes nothing.
use mathlib.Core.Path.{◌≡◌, refl}
use mathlib.Core.Bool.{true}
use Rattle.window_rules.specs.Window.{bit, is_repeat, recorded}
use Rattle.window_rules.specs.Examples.{said, repeats, repeats_so, recordings, records_so, firsts, firsts_so}

pub examples : (repeats_so repeats ≡ true) × (records_so recordings ≡ true) × (firsts_so firsts ≡ true)
unfolding repeats_so records_so firsts_so said is_repeat recorded bit
examples = (refl, refl, refl)
