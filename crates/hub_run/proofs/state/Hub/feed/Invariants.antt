use Rattle.std.proofs.Common.{length}
use Rattle.hub_run.proofs.ChunkLaws.{Feeding}
use Rattle.hub_run.proofs.state.Hub.feed.Given as goal

abbrev pub invariant-loop-self : goal.invariant-loop-self
invariant-loop-self l = Feeding l.initial.self l.chunk l.initial.out l.self l.rest l.written l.out

abbrev pub decreases-loop-self : goal.decreases-loop-self
decreases-loop-self l = length l.rest
