use mathlib.Core.Path.{refl}
use Rattle.hub_run.proofs.StateLaws.{ends_first}
use Rattle.hub_run.proofs.state.Hub.end_first.Goals as goal

pub returns-then-self : goal.returns-then-self
returns-then-self c =
    let e = rw (← c.self.view_is) at c.requires.0 in
    let b = rw c.as_slice.ensures at c.is_word.ensures in
    rw (← c.self.view_is, c.clear.ensures) (ends_first _ _ _ _ _ e b (rw c.if-self.true c.put_text.ensures))

pub returns : goal.returns
returns c =
    let e = rw (← c.self.view_is) at c.requires.0 in
    let b = rw c.as_slice.ensures at c.is_word.ensures in
    rw (← c.self.view_is, c.clear.ensures) (ends_first _ _ _ _ _ e b (rw c.if-self.false (refl, refl)))
