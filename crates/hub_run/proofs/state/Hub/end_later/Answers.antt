use Rattle.hub_run.proofs.StateLaws.{sound_later, ends_later, still_open}
use Rattle.hub_run.proofs.state.Hub.end_later.Goals as goal

pub invariant_of-self : goal.invariant_of-self
invariant_of-self c =
    let o = rw (← c.self.view_is) at c.requires.line_value in
    let p = rw (← c.self.view_is) at c.requires.lines_nonzero.0 in
    sound_later _ _ c.self.invariant p (still_open _ o c.self.invariant) c.count.ensures

pub returns : goal.returns
returns c =
    let o = rw (← c.self.view_is) at c.requires.line_value in
    let p = rw (← c.self.view_is) at c.requires.lines_nonzero.0 in
    let a = rw c.as_slice.ensures at c.answer_line-answer.ensures in
    rw (← c.self.view_is, c.clear.ensures) (ends_later _ _ _ _ _ _ o p a.set_is c.count.ensures a.line-is)
