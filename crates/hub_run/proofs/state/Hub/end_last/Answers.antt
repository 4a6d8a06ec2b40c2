use Rattle.hub_rules.specs.Stream.{line_room}
use Rattle.hub_run.proofs.SummaryLaws.{ends-within}
use Rattle.hub_run.proofs.state.Hub.end_last.Goals as goal

pub returns : goal.returns
returns c = ends-within c.args.out.now line_room c.requires.line_room_in_bounds c.end_line.auto.out c.end_line.ensures
