-- `cba_sealing::separate::last_offset` meets its contract.
-- Assumes nothing.
use mathlib.Core.Path.{ap, ◌∙◌}
use Rattle.cba_mode.specs.Offsets.{F}
use Rattle.cba_mode.specs.Seal.{last_offset}
use borrow.Author.Tests.{lt-ltb, le-ltb}
use Rattle.cba_sealing.proofs.separate.last_offset.Goals as goal

pub returns-then-n-lt16 : goal.returns-then-n-lt16
unfolding last_offset
returns-then-n-lt16 c = rw (lt-ltb _ 16 c.if-n-lt16.true) (c.step_block.ensures ∙ ap (F 3 5) c.step-d.ensures)

pub returns : goal.returns
unfolding last_offset
returns c = rw (le-ltb _ 16 c.if-n-lt16.false) (c.step_block-2.ensures ∙ ap (F 5 3) c.step-d.ensures)
