use mathlib.Core.Path.{ap}
use Rattle.hub_run.specs.Held.{Held}
use Rattle.hub.proofs.Laws.{read_none, read_on, read_more, read_long}
use Rattle.hub.proofs.Console.read_all.Goals as goal

pub loop-init : goal.loop-init
loop-init g c = read_none _ (ap (λ (h : Held). h.state) c.new-hub.ensures)

pub returns-in_default : goal.returns-in_default
returns-in_default g c = read_on c.loop.invariant c.read_some-step.ensures

pub loop-preserved : goal.loop-preserved
loop-preserved g c = read_more c.loop.invariant c.read_some-step.ensures c.in-More.is

pub returns : goal.returns
returns g c = read_long c.loop.invariant c.of_nothing.ensures
