use Rattle.hub.proofs.Laws.{Reading}
use Rattle.hub.proofs.Console.read_all.Given as goal

abbrev pub invariant-loop : goal.invariant-loop
invariant-loop g l = Reading l.hub
