-- `cba_steps::associated::walk` meets its contract: a turn of it is a turn of the sum over the data.
-- Assumes nothing.
use mathlib.Core.Path.{ap, ◌∙◌}
use mathlib.Core.List.{List}
use Prim.Native.Nat.{ℕ}
use Rattle.octets.specs.Xor.{xors}
use Rattle.fips197.specs.Cipher.{cipher}
use Rattle.cba_steps.specs.Halves.{halves_of}
use Rattle.cba_steps.proofs.DataLaws.{data_sum-rest, walk_turn}
use Rattle.cba_steps.proofs.associated.+walk.Goals as goal

pub returns-then-rest-lt16 : goal.returns-then-rest-lt16
returns-then-rest-lt16 t c =
    c.with_rest.ensures ∙ data_sum-rest (cipher c.args.e.now) c.args.sum (halves_of (record { a = c.args.a; b = c.args.b })) c.args.rest.now c.if-rest-lt16.true

pub returns : goal.returns
returns t c =
    walk_turn (cipher c.args.e.now) c.args.sum (halves_of (record { a = c.args.a; b = c.args.b })) c.args.rest.now _ (halves_of c.doubled-next.result) _ _ c.if-rest-lt16.false c.doubled-next.ensures c.first_block.ensures
    (c.added-more.ensures ∙ ap (λ (x : List ℕ). xors c.args.sum (cipher c.args.e.now (xors c.first_block.result x))) c.whole.ensures)
    c.walk.ensures
