-- `cba_steps::offsets::words` meets its contract: each half is two words.
-- Assumes nothing.
use mathlib.Core.Path.{ap₂}
use mathlib.Core.List.{◌++◌}
use Rattle.cba_steps.proofs.WordLaws.{half-words}
use Rattle.cba_steps.proofs.offsets.words.Goals as goal

pub returns : goal.returns
returns c =
    ap₂ ◌++◌
    (half-words _ c.upper.ensures c.lower.ensures c.turned.ensures c.turned-2.ensures)
    (half-words _ c.upper-2.ensures c.lower-2.ensures c.turned-3.ensures c.turned-4.ensures)
