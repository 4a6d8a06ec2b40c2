-- `hub_text::request::read_act` meets its contract: a word of fewer or more than four characters names no act.
-- Assumes nothing.
use native.Mathlib.Omega.{arith}
use Rattle.hub_text.proofs.RequestLaws.{act_other}
use Rattle.hub_text.proofs.request.read_act.Goals as goal

pub returns-in_default : goal.returns-in_default
returns-in_default c = act_other c.args.w.now (λ z. omega (arith, z))

pub returns-in_default-9 : goal.returns-in_default-9
returns-in_default-9 c = act_other c.args.w.now (λ z. omega (arith, z))
