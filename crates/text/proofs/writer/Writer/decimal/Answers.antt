-- `text::writer::Writer::decimal` meets its contract.
-- Assumes nothing.
use Rattle.text.proofs.DecimalLaws.{without-zeros}
use Rattle.text.proofs.writer.Writer.decimal.Goals as goal

pub returns-clause-wrote : goal.returns-clause-wrote
returns-clause-wrote c = rw (without-zeros c.args.n _ c.leading-from.ensures) at c.bytes.ensures
