use mathlib.Core.Path.{ap, ◌∙◌}
use Prim.Native.Nat.{ℕ, ◌+◌, ◌-◌}
use native.Mathlib.Omega.{arith}
use borrow.Author.Rules.{rules}
use Rattle.hub_rules.specs.Stream.{counted}
use Rattle.hub_rules.proofs.StreamLaws.{counted-below, counted-above, counted-at}
use Rattle.hub_run.proofs.line.count.Goals as goal

pub returns-then-n-lt1 : goal.returns-then-n-lt1
returns-then-n-lt1 c = rw c.in-Some.is (counted-below 1 _ c.args.counts.now (omega arith))

pub returns-else-n-lt11 : goal.returns-else-n-lt11
returns-else-n-lt11 c = rw c.in-Some.is (counted-above 1 _ c.args.counts.now (search rules))

pub returns-in-1-to-10 : goal.returns-in-1-to-10
returns-in-1-to-10 c =
    rw c.in-Some.is
    (counted-at 1 (c.in-Some.n - 1) c.args.counts.now (search rules)
    ∙ ap (λ (s : ℕ). counted 1 s c.args.counts.now) {x = 1 + (c.in-Some.n - 1)} {y = c.in-Some.n} (search rules))

pub returns-in_default : goal.returns-in_default
returns-in_default c = rw c.in_default.is (counted-below 1 0 c.args.counts.now (omega arith))
