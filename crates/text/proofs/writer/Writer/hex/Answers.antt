-- `text::writer::Writer::hex` meets its contract: after i turns the first i bytes are written.
-- Assumes nothing.
use native.Mathlib.Omega.{arith}
use Rattle.text.proofs.WritingLaws.{hexed-none, hexed-at, hexed-more, hexed-all}
use Rattle.text.proofs.writer.Writer.hex.Goals as goal

pub loop-x-init : goal.loop-x-init
loop-x-init c = hexed-none c.args.s.now _ c.requires

pub byte-requires : goal.byte-requires
byte-requires c =
    let i = c.loop-x.invariant in
    omega (arith, c.requires, hexed-at c.args.s.now _ i c.loop-x-test.true, i.long)

pub byte-requires-in-loop-x : goal.byte-requires-in-loop-x
byte-requires-in-loop-x c =
    let i = c.loop-x.invariant in
    let w = c.byte.ensures in
    omega (arith, c.requires, hexed-at c.args.s.now _ i c.loop-x-test.true, i.long, w.ends, w.long)

pub loop-x-preserved : goal.loop-x-preserved
loop-x-preserved c =
    hexed-more c.args.s.now _ c.loop-x.invariant c.loop-x-test.true c.hex_digit.ensures c.byte.ensures c.hex_digit-in-loop-x.ensures c.byte-in-loop-x.ensures

pub returns : goal.returns
returns c = hexed-all c.args.s.now _ c.loop-x.invariant c.loop-x-test.false
