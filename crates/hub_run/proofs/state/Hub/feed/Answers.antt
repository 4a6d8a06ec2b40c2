use borrow.Author.Rules.{rules}
use Rattle.hub_run.proofs.ChunkLaws.{feeding_none, feeding_turn, feeding_end, feeding_less, feeding_small, feeding_full}
use Rattle.hub_run.proofs.state.Hub.feed.Goals as goal
use Rattle.hub_run.proofs.state.Hub.feed.Goals.{else-loop-self-test, then-loop-self-test+then-out-written-lt-LINE_ROOM}

pub loop-self-init : goal.loop-self-init
loop-self-init c = feeding_none _ _ _ (search rules)

pub overflow_add-written : goal.overflow_add-written
overflow_add-written c = let m = feeding_small c.loop-self.invariant _ c.feed_line-fed.ensures.written-most in search (rules, m)

pub loop-self-smaller : goal.loop-self-smaller
loop-self-smaller c = feeding_less c.loop-self.invariant _ _ _ c.feed_line-fed.auto.out (search rules) c.if-out-written-lt-LINE_ROOM.false c.feed_line-fed.ensures

pub loop-self-preserved : goal.loop-self-preserved
loop-self-preserved c =
    feeding_turn c.loop-self.invariant c.feed_line-fed.result c.feed_line-fed.new.self c.feed_line-fed.new.out c.feed_line-fed.auto.out (search rules)
    c.if-out-written-lt-LINE_ROOM.false c.feed_line-fed.ensures

pub returns : goal.returns
returns c = elim c.loop-self-test.branch [
  | else-loop-self-test w ↦ feeding_end c.loop-self.invariant (search rules)
  | then-loop-self-test+then-out-written-lt-LINE_ROOM w ↦ feeding_full c.loop-self.invariant c.requires.line_room_in_bounds w.if-out-written-lt-LINE_ROOM.true
]
