use mathlib.Core.Path.{refl}
use Rattle.hub_rules.specs.Stream.{begin}
use Rattle.hub_run.proofs.state.Hub.new.Goals as goal

pub returns : goal.returns
unfolding begin
returns c = rw c.new.ensures refl
