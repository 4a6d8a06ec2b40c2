-- `cba_sealing::blocks::put_pair` meets its contract: the second block goes directly after the first.
-- Assumes nothing.
use mathlib.Core.Path.{◌≡◌, ap₂, ◌∙◌}
use mathlib.Core.List.{List, ◌++◌}
use Prim.Native.Nat.{ℕ}
use native.Mathlib.Omega.{arith}
use lib.ListN.{length}
use borrow.Author.Rules.{rules}
use Rattle.octets.specs.Strings.{over}
use Rattle.octets.proofs.Parts.{put_more}
use Rattle.cba_sealing.proofs.blocks.put_pair.Goals as goal

pub returns : goal.returns
returns c =
    let size : length c.write.result ≡ 16 = search rules in
    let size2 : length c.write-2.result ≡ 16 = search rules in
    put_more c.args.out.now c.write.result c.put.new.out 16 c.write-2.result _ c.put.ensures size (omega (arith, c.put.auto.out, c.requires)) c.put-2.ensures
    ∙ ap₂ (λ (x y : List ℕ). over (x ++ y) c.args.out.now) c.write.ensures c.write-2.ensures
