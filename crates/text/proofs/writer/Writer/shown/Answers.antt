-- `text::writer::Writer::shown` meets its contract.
-- Assumes nothing.
use mathlib.Core.Path.{sym, ◌∙◌}
use native.Mathlib.Omega.{arith}
use Rattle.text.proofs.HexLaws.{length-hex}
use Rattle.text.proofs.WritingLaws.{wrote-dash, wrote-hex}
use Rattle.text.proofs.writer.Writer.shown.Goals as goal

pub returns-then-is_empty-clause-wrote : goal.returns-then-is_empty-clause-wrote
returns-then-is_empty-clause-wrote c =
    wrote-dash c.args.s.now (sym c.is_empty.ensures ∙ c.if-is_empty.true) c.byte.ensures

pub returns-else-is_empty-clause-most : goal.returns-else-is_empty-clause-most
returns-else-is_empty-clause-most c =
    omega (arith, c.hex.ensures.ends, length-hex c.args.s.now)

pub returns-else-is_empty-clause-wrote : goal.returns-else-is_empty-clause-wrote
returns-else-is_empty-clause-wrote c = wrote-hex c.args.s.now (sym c.is_empty.ensures ∙ c.if-is_empty.false) c.hex.ensures
