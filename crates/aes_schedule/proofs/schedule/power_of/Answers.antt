-- `aes_schedule::schedule::power_of` meets its contract: the ten entries of the table are computed.
-- Assumes nothing.
use mathlib.Core.Path.{ap}
use mathlib.Core.List.{List, [], ◌∷◌}
use Prim.Native.Nat.{ℕ}
use lib.Dec.{T}
use lib.ListN.{get_or}
use borrow.Author.Rules.{rules}
use Rattle.octets.proofs.Tests.{agree, same}
use Rattle.field.specs.Field.{xtime}
use Rattle.fips197.specs.Schedule.{power}
use Rattle.aes_schedule.proofs.schedule.power_of.Goals as goal

powers : List ℕ
powers = 0x01 ∷ 0x02 ∷ 0x04 ∷ 0x08 ∷ 0x10 ∷ 0x20 ∷ 0x40 ∷ 0x80 ∷ 0x1b ∷ 0x36 ∷ []

test : T (agree (λ j. get_or powers j 0 ∷ []) (λ j. power j ∷ []) 10)
unfolding powers power xtime
test = tt

pub returns : goal.returns
unfolding powers
returns c = ap (λ (l : List ℕ). get_or l 0 0) (same (λ j. get_or powers j 0 ∷ []) (λ j. power j ∷ []) 10 test c.args.j (search rules))
