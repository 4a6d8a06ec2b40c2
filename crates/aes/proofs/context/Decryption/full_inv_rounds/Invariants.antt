-- `aes::context::Decryption::full_inv_rounds` meets its contract: after i turns the States are those after i rounds.
-- Assumes nothing.
use Rattle.fips197.specs.Cipher.{key_rounds}
use Rattle.fips197.specs.Equivalent.{key_expansion_eic, eq_rounds}
use Rattle.aes.proofs.context.Decryption.full_inv_rounds.Given as goal

abbrev pub invariant-loop-i : goal.invariant-loop-i
invariant-loop-i g l = g.B.Blocks.Each (eq_rounds (key_expansion_eic l.self) (key_rounds l.self) l.i-counter) l.fn.s l.k
