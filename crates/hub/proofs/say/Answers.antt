use native.Mathlib.Omega.{arith}
use borrow.Author.Rules.{rules}
use lib.ListN.{length-take}
use Rattle.hub.proofs.Laws.{said-none, said_more, said-short}
use Rattle.hub.proofs.say.Goals as goal

pub loop-rest-init : goal.loop-rest-init
loop-rest-init g c = said-none _ _ c.requires

pub returns-then-n-fed : goal.returns-then-n-fed
returns-then-n-fed g c = said-short c.loop-rest.out _ c.loop-rest.invariant (search rules) (search rules) c.feed-fed.ensures c.if-n-fed.true

pub loop-rest-preserved : goal.loop-rest-preserved
loop-rest-preserved g c =
    let l = length-take c.feed-fed.result.written c.feed-fed.new.out in
    said_more c.loop-rest.out _ c.loop-rest.invariant (search rules) (search rules) c.feed-fed.ensures (omega (arith, c.write-n.ensures, l)) c.if-n-fed.false
