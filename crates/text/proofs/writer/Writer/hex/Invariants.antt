-- `text::writer::Writer::hex` meets its contract: after i turns the first i bytes are written.
-- Assumes nothing.
use lib.ListN.{take}
use Rattle.text.specs.Numerals.{hex}
use Rattle.text.specs.Writing.{Wrote}
use Rattle.text.proofs.writer.Writer.hex.Given as goal

abbrev pub invariant-loop-x : goal.invariant-loop-x
invariant-loop-x l = Wrote (hex (take l.x-index l.s)) l.initial.self l.self
