-- `receiver::window::Window::recorded` meets its contract.
-- Assumes nothing.
use mathlib.Core.Path.{refl, ap}
use Prim.Native.Nat.{ℕ}
use borrow.Author.Tests.{lt-ltb, le-ltb}
use Rattle.answers.proofs.RowLaws.{not-true, not-false}
use Rattle.window_rules.specs.Window.{recorded}
use Rattle.window_rules.proofs.WindowLaws.{not-far}
use Rattle.receiver.specs.Values.{window_of}
use Rattle.receiver.proofs.MarkLaws.{with_mark, one-mark}
use Rattle.receiver.proofs.window.Window.recorded.Goals as goal

pub returns-then-not-self : goal.returns-then-not-self
unfolding recorded
returns-then-not-self c = rw (not-true c.args.self.begun c.if-not-self.true) refl

pub returns-then-counter-self : goal.returns-then-counter-self
unfolding recorded
returns-then-counter-self c = rw (not-false c.args.self.begun c.if-not-self.false, lt-ltb c.args.self.highest c.args.counter c.if-counter-self.true, c.moved.ensures) refl

pub overflow_shl-result : goal.overflow_shl-result
overflow_shl-result c = not-far (window_of c.args.self) c.args.counter (not-false c.args.self.begun c.if-not-self.false) c.if-counter-self.false c.requires

pub returns : goal.returns
unfolding recorded
returns c =
    rw (not-false c.args.self.begun c.if-not-self.false, le-ltb c.args.self.highest c.args.counter c.if-counter-self.false)
    (ap (λ (x : ℕ). with_mark (window_of c.args.self) x) (one-mark _ (not-far (window_of c.args.self) c.args.counter (not-false c.args.self.begun c.if-not-self.false) c.if-counter-self.false c.requires)))
