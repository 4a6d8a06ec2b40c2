-- What is left of both strings decides, unless a difference was seen before.
use Rattle.std.proofs.Common.{◌≡◌, ◌&&◌, length, nat_eq}
use Rattle.octets.specs.Strings.{eqs}
use Rattle.octets.proofs.compare.same.Given as goal

abbrev pub invariant-loop-x : goal.invariant-loop-x
invariant-loop-x l =
    (length l.x-iterator.a.rest.now ≡ length l.x-iterator.b.rest.now)
    × (eqs l.fn.a l.fn.b ≡ (nat_eq l.differ 0 && eqs l.x-iterator.a.rest.now l.x-iterator.b.rest.now))
