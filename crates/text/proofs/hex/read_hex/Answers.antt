-- `text::hex::read_hex` meets its contract: after i turns the first i bytes are those of i pairs.
-- Assumes nothing.
use mathlib.Core.Path.{ap, ap₂, ◌∙◌}
use mathlib.Core.List.{List, ◌++◌}
use Prim.Native.Nat.{ℕ, ◌+◌, ◌*◌, ◌/◌}
use lib.ListN.{length, drop}
use Rattle.octets.proofs.Strings.{fill_none, fill_value, filled}
use Rattle.text.proofs.HexLaws.{pair-at, unhex-table}
use Rattle.text.proofs.hex.read_hex.Goals as goal

pub loop-i-init : goal.loop-i-init
loop-i-init c = fill_none _ _ _ c.requires.w_in_bounds

pub hex_value-requires : goal.hex_value-requires
hex_value-requires c = (pair-at c.args.w.now c.loop-i.i c.requires.w_value c.loop-i-test.true).0

pub hex_value-requires-in-loop-i : goal.hex_value-requires-in-loop-i
hex_value-requires-in-loop-i c = (pair-at c.args.w.now c.loop-i.i c.requires.w_value c.loop-i-test.true).1

pub loop-i-preserved : goal.loop-i-preserved
loop-i-preserved c =
    fill_value c.loop-i.invariant c.loop-i-test.true
    (ap₂ (λ (a b : ℕ). a * 16 + b) c.hex_value.ensures.0 c.hex_value-in-loop-i.ensures.0)

pub returns : goal.returns
returns c =
    let a = c.args in
    filled c.loop-i.invariant c.loop-i-test.false
    ∙ ap (λ (t : List ℕ). t ++ drop (length a.w.now / 2) a.out.now) (unhex-table a.w.now)
