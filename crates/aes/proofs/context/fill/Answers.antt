-- `aes::context::fill` meets its contract: the schedule is written behind the round table.
-- Assumes nothing.
use native.Mathlib.Omega.{arith}
use Rattle.aes_tables.specs.Round.{forward}
use Rattle.aes.proofs.ContextLaws.{length-forward, blank_long, blank_boxes, encrypts-made}
use Rattle.aes.proofs.context.fill.Goals as goal

pub expand-requires-clause-boxes : goal.expand-requires-clause-boxes
expand-requires-clause-boxes c = blank_boxes _ c.requires.ctx_value

pub expand-requires-clause-at_in_bounds : goal.expand-requires-clause-at_in_bounds
expand-requires-clause-at_in_bounds c = omega (arith, blank_long forward 2048 _ length-forward c.requires.ctx_value)

pub returns : goal.returns
returns c = encrypts-made _ _ _ c.requires.key_value c.requires.ctx_value c.expand.ensures
