use Rattle.std.proofs.Common.{length}
use Rattle.hub.proofs.Laws.{Saying}
use Rattle.hub.proofs.say.Given as goal

abbrev pub invariant-loop-rest : goal.invariant-loop-rest
invariant-loop-rest g l = Saying l.initial.hub l.chunk l.hub l.rest l.wrote

abbrev pub decreases-loop-rest : goal.decreases-loop-rest
decreases-loop-rest g l = length l.rest
