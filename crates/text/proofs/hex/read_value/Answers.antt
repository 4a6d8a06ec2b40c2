-- `text::hex::read_value` meets its contract.
-- Assumes nothing.
use Rattle.text.proofs.HexLaws.{are-pairs, read-dash, read_pairs}
use Rattle.text.proofs.hex.read_value.Goals as goal

pub returns-then-w-eq1 : goal.returns-then-w-eq1
returns-then-w-eq1 c = read-dash c.args.w.now c.args.out.now c.if-w-eq1.true

pub read_hex-requires-clause-w_value : goal.read_hex-requires-clause-w_value
read_hex-requires-clause-w_value c = are-pairs c.args.w.now c.requires.w_value c.if-w-eq1.false

pub returns : goal.returns
returns c = read_pairs c.args.w.now c.args.out.now _ c.if-w-eq1.false c.read_hex.ensures
