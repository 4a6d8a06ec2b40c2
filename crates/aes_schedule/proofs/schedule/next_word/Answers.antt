-- `aes_schedule::schedule::next_word` meets its contract, by those of the functions that it calls.
-- Assumes nothing.
use mathlib.Core.Path.{ap₂, ◌∙◌}
use Rattle.octets.specs.Xor.{xors}
use Rattle.aes_schedule.proofs.WordLaws.{xor_bytes}
use Rattle.aes_schedule.proofs.schedule.next_word.Goals as goal

pub returns : goal.returns
returns c = xor_bytes _ _ ∙ ap₂ xors c.word_at.ensures (rw c.requires.m_value c.step_word.ensures)
