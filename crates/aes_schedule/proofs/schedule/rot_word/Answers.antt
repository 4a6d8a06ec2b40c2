-- `aes_schedule::schedule::rot_word` meets its contract.
-- Assumes nothing.
use borrow.Author.Rules.{rules}
use Rattle.octets.specs.Strings.{table}
use Rattle.fips197.specs.Schedule.{rot_word}
use Rattle.aes_schedule.proofs.WordLaws.{rotated-bytes}
use Rattle.aes_schedule.proofs.schedule.rot_word.Goals as goal

pub returns : goal.returns
unfolding table rot_word
returns c = rw c.rotate_right.ensures (rotated-bytes c.args.x (search rules))
