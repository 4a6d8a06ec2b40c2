-- `octets::put` meets its contract: after i turns the first i bytes are those of the string.
-- Assumes nothing.
use mathlib.Core.Path.{ap, ◌∙◌}
use mathlib.Core.List.{List, ◌++◌}
use Prim.Native.Nat.{ℕ}
use lib.ListN.{length, drop}
use Rattle.octets.proofs.Strings.{fill_none, fill_turn, filled, table-get_or}
use Rattle.octets.proofs.put.Goals as goal

pub loop-i-init : goal.loop-i-init
loop-i-init c = fill_none _ _ _ c.requires

pub loop-i-preserved : goal.loop-i-preserved
loop-i-preserved c = fill_turn c.loop-i.invariant c.loop-i-test.true

pub returns : goal.returns
returns c =
    filled c.loop-i.invariant c.loop-i-test.false
    ∙ ap (λ (t : List ℕ). t ++ drop (length c.args.s.now) c.args.out.now) (table-get_or c.args.s.now)
