use borrow.Author.Rules.{rules}
use Rattle.hub_run.proofs.ChunkLaws.{extends}
use Rattle.hub_run.proofs.kept.Line.extend.Goals as goal

pub returns-clause-longer : goal.returns-clause-longer
returns-clause-longer c =
    let i = c.self.inside in
    rw (← c.self.view_is) (extends i.bytes c.args.piece.now c.put.new.out i.len c.min-n.result c.self.invariant.0 (search rules) c.min-n.ensures c.put.ensures)
