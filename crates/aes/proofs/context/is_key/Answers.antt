-- `aes::context::is_key` meets its contract, length by length.
-- Assumes nothing.
use Rattle.std.proofs.Common.{rules}
use Rattle.fips197.specs.Schedule.{is_key}
use Rattle.aes.proofs.context.is_key.Goals as goal

pub returns-in-16 : goal.returns-in-16
unfolding is_key
returns-in-16 c = search rules

pub returns-in_default : goal.returns-in_default
unfolding is_key
returns-in_default c = search rules
