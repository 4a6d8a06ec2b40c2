-- `aes::context::rounds_of` meets its contract.
-- Assumes nothing.
use mathlib.Core.Path.{refl}
use native.Mathlib.Omega.{arith}
use Rattle.octets.proofs.Strings.{bytes_of}
use Rattle.fips197.proofs.ScheduleLaws.{key-words}
use Rattle.aes.proofs.context.rounds_of.Goals as goal

pub returns : goal.returns
returns c = let k = key-words _ c.requires in record { rounds = (refl, omega arith, omega arith); key_bytes = bytes_of c.args.key.now (λ i. (c.type_inv.key i).fits) }
