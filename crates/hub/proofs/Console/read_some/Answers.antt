use mathlib.Core.Path.{refl}
use Rattle.hub.proofs.Laws.{follows_none}
use Rattle.hub.proofs.Console.read_some.Goals as goal

pub returns-in-Err : goal.returns-in-Err
returns-in-Err g c = follows_none _ _ c.requires c.of_nothing.ensures refl

pub returns-in-Ok-eq0 : goal.returns-in-Ok-eq0
returns-in-Ok-eq0 g c = follows_none _ _ c.requires c.of_nothing-in-Ok-eq0.ensures refl
