-- `aes::context::Encryption::full_rounds` meets its contract: after i turns the States are those after i rounds.
-- Assumes nothing.
use Rattle.fips197.specs.Schedule.{key_expansion}
use Rattle.fips197.specs.Cipher.{rounds}
use Rattle.aes.proofs.context.Encryption.full_rounds.Given as goal

abbrev pub invariant-loop-i : goal.invariant-loop-i
invariant-loop-i g l = g.B.Blocks.Each (rounds (key_expansion l.self) l.i-counter) l.fn.s l.k
