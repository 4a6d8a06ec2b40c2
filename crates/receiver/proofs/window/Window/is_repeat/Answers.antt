-- `receiver::window::Window::is_repeat` meets its contract.
-- Assumes nothing.
use mathlib.Core.Path.{sym}
use Rattle.answers.proofs.RowLaws.{not-true, not-false}
use Rattle.window_rules.specs.Window.{bit}
use Rattle.window_rules.proofs.WindowLaws.{none_yet, none-above-highest, marked-near, far-below}
use Rattle.receiver.specs.Values.{window_of}
use Rattle.receiver.proofs.window.Window.is_repeat.Goals as goal

pub returns-then-not-self : goal.returns-then-not-self
returns-then-not-self c = sym (none_yet (window_of c.args.self) c.args.counter (not-true _ c.if-not-self.true))

pub returns-then-counter-self : goal.returns-then-counter-self
returns-then-counter-self c = sym (none-above-highest (window_of c.args.self) c.args.counter c.if-counter-self.true)

pub returns-then-behind-ge-REACH : goal.returns-then-behind-ge-REACH
returns-then-behind-ge-REACH c = sym (far-below (window_of c.args.self) c.args.counter (not-false _ c.if-not-self.false) c.if-counter-self.false c.if-behind-ge-REACH.true)

pub returns : goal.returns
unfolding bit
returns c = sym (marked-near (window_of c.args.self) c.args.counter (not-false _ c.if-not-self.false) c.if-counter-self.false c.if-behind-ge-REACH.false)
