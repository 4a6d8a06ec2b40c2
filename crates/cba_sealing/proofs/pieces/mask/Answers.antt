-- `cba_sealing::pieces::mask` meets its contract: after i turns the first i bytes are masked.
-- Assumes nothing.
use mathlib.Core.Path.{◌≡◌, refl, ap, ◌∙◌}
use mathlib.Core.List.{List, ◌++◌}
use Prim.Native.Nat.{ℕ, ◌+◌, ◌≤◌}
use lib.ListN.{length, drop}
use native.Mathlib.Omega.{arith}
use borrow.Author.Rules.{rules}
use Rattle.octets.proofs.Strings.{fill_none, fill_turn, filled}
use Rattle.octets.proofs.Xor.{xors-part}
use Rattle.cba_sealing.proofs.pieces.mask.Goals as goal

pub loop-i-init : goal.loop-i-init
loop-i-init c = fill_none _ _ _ (search rules)

pub loop-i-preserved : goal.loop-i-preserved
loop-i-preserved c = fill_turn c.loop-i.invariant c.loop-i-test.true

pub returns : goal.returns
returns c =
    let size : length c.args.block ≡ 16 = search rules in
    let fits : c.args.at + length c.args.s.now ≤ length c.args.block = omega (arith, c.requires.s_bound) in
    filled c.loop-i.invariant c.loop-i-test.false
    ∙ ap (λ (t : List ℕ). t ++ drop (length c.args.s.now) c.args.out.now) (xors-part (length c.args.s.now) c.args.at c.args.s.now c.args.block refl fits)
