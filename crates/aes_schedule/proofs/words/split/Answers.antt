-- `aes_schedule::words::split` meets its contract.
-- Assumes nothing.
use mathlib.Core.Path.{◌∙◌}
use native.Mathlib.Omega.{arith}
use Rattle.aes_schedule.proofs.WordLaws.{four}
use Rattle.aes_schedule.proofs.words.split.Goals as goal

pub returns : goal.returns
returns c = c.to_le_bytes.ensures ∙ four (omega arith) (omega arith) (omega arith) (omega arith)
