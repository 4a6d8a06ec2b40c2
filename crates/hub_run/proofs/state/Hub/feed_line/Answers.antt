use mathlib.Core.Path.{sym, ap, ◌∙◌}
use borrow.Author.Rules.{rules}
use Rattle.hub_rules.specs.Stream.{is_done}
use Rattle.hub_rules.proofs.StreamLaws.{longer-over}
use Rattle.hub_run.proofs.ChunkLaws.{keeps, feeds_over, feeds_piece, feeds_line}
use Rattle.hub_run.proofs.state.Hub.feed_line.Goals as goal

pub returns-then-is_over : goal.returns-then-is_over
returns-then-is_over c = feeds_over _ _ _ (sym c.is_over.ensures ∙ c.if-is_over.true)

pub returns-then-n-chunk : goal.returns-then-n-chunk
returns-then-n-chunk c =
    let i = c.self.inside in
    let o = rw (← c.self.view_is) at (sym c.is_over.ensures ∙ c.if-is_over.false) in
    let w = c.extend.ensures.within in
    rw (← c.self.view_is)
    (feeds_piece _ _ o _ c.length_before-n.ensures.0 w.0 w.1 _
    (keeps i.lines i.wrong i.counts i.line c.extend.new.self _ c.extend.ensures.longer) _ c.if-n-chunk.true)

pub end_line-requires-clause-line_value : goal.end_line-requires-clause-line_value
end_line-requires-clause-line_value c =
    let i = c.self.inside in
    let o = rw (← c.self.view_is) at (sym c.is_over.ensures ∙ c.if-is_over.false) in
    ap is_done (keeps i.lines i.wrong i.counts i.line c.extend.new.self _ c.extend.ensures.longer).state-is
    ∙ longer-over _ _
    ∙ o

pub returns : goal.returns
returns c =
    let i = c.self.inside in
    let o = rw (← c.self.view_is) at (sym c.is_over.ensures ∙ c.if-is_over.false) in
    let w = c.extend.ensures.within in
    rw (← c.self.view_is)
    (feeds_line _ _ o _ c.length_before-n.ensures.0 w.0 w.1 _
    (keeps i.lines i.wrong i.counts i.line c.extend.new.self _ c.extend.ensures.longer) _ _ _ _
    (search rules) c.length_before-n.ensures.1 c.if-n-chunk.false c.end_line.ensures)
