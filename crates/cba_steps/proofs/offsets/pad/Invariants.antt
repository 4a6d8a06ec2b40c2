-- `cba_steps::offsets::pad` meets its contract: after i turns the first i bytes are padded.
-- Assumes nothing.
use mathlib.Core.List.{◌++◌, ◌∷◌}
use lib.ListN.{get_or, replicate}
use Rattle.octets.proofs.Strings.{Filled}
use Rattle.cba_steps.proofs.offsets.pad.Given as goal

abbrev pub invariant-loop-i : goal.invariant-loop-i
invariant-loop-i l = Filled (λ k. get_or (l.s ++ (128 ∷ replicate 15 0)) k 0) 16 l.initial.r l.i l.r
