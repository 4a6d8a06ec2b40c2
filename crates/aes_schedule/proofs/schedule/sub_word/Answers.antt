-- `aes_schedule::schedule::sub_word` meets its contract, by that of the function that it calls.
-- Assumes nothing.
use Rattle.octets.specs.Strings.{table}
use Rattle.fips197.specs.Schedule.{sub_word}
use Rattle.aes_schedule.proofs.schedule.sub_word.Goals as goal

pub returns : goal.returns
unfolding sub_word table
returns c = c.boxed_word.ensures
