-- `aes::context::round_keys` meets its contract: the schedule is the first of the round keys' 240 bytes.
-- Assumes nothing.
use mathlib.Core.Path.{ap, ◌∙◌}
use Prim.Native.Nat.{◌+◌, ◌*◌}
use native.Mathlib.Omega.{arith}
use lib.ListN.{length}
use Rattle.aes.proofs.ContextLaws.{length-schedule, context_keys}
use Rattle.aes.proofs.context.round_keys.Goals as goal

pub slice_bounds-result-end : goal.slice_bounds-result-end
slice_bounds-result-end c =
    let n = 16 * c.rounds_of.result + 16 in
    let long = length-schedule c.args.at _ c.rounds_of.ensures.key_bytes c.requires.good in
    (context_keys _ _ _ c.requires n (omega arith) (omega (arith, c.rounds_of.ensures.rounds.0, long))).1

pub returns : goal.returns
returns c =
    let n = 16 * c.rounds_of.result + 16 in
    let long = length-schedule c.args.at _ c.rounds_of.ensures.key_bytes c.requires.good in
    let w = (context_keys _ _ _ c.requires n (omega arith) (omega (arith, c.rounds_of.ensures.rounds.0, long))).0 in
    record { result_value = w; result_len = ap length w ∙ long }
