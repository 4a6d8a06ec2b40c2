-- `aes_schedule::schedule::boxed_word` meets its contract, byte by byte.
-- Assumes nothing.
use mathlib.Core.Path.{ap, ◌∙◌}
use Rattle.field.specs.SBox.{s_box}
use Rattle.aes_schedule.proofs.WordLaws.{four}
use Rattle.aes_schedule.proofs.schedule.boxed_word.Goals as goal

pub returns : goal.returns
returns c =
    c.join.ensures
    ∙ four (c.boxed.ensures ∙ ap s_box c.byte.ensures) (c.boxed-2.ensures ∙ ap s_box c.byte-2.ensures) (c.boxed-3.ensures ∙ ap s_box c.byte-3.ensures) (c.boxed-4.ensures ∙ ap s_box c.byte-4.ensures)
