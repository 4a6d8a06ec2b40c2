-- `cba_opening::blocks::open_blocks` meets its contract: no block is left as it is, and D's context is made for others.
-- Assumes nothing.
use mathlib.Core.Bool.{false}
use mathlib.Core.Path.{◌∙◌}
use native.Mathlib.Omega.{arith}
use Rattle.fips197.specs.Cipher.{inv_cipher}
use Rattle.cba_steps.specs.Halves.{halves_of}
use Rattle.cba_sealing.proofs.BlockLaws.{going_none, goes_end, sum-none, sum_of}
use Rattle.cba_opening.proofs.blocks.open_blocks.Goals as goal

pub returns-then-k-eq0 : goal.returns-then-k-eq0
returns-then-k-eq0 c = goes_end {σ = sum_of (inv_cipher c.args.e.now) false (halves_of c.args.start) c.args.ciphertext.now} (going_none _ (c.read.ensures ∙ sum-none _ false _ _)) (omega (arith, c.if-k-eq0.true))
