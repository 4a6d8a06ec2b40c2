-- `text::writer::Writer::string` meets its contract.
-- Assumes nothing.
use Rattle.text.proofs.WritingLaws.{wrote-then}
use Rattle.text.proofs.writer.Writer.string.Goals as goal

pub returns-clause-wrote : goal.returns-clause-wrote
returns-clause-wrote c = wrote-then c.byte.ensures c.shown.ensures.wrote
