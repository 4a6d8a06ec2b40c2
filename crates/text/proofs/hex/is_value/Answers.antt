-- `text::hex::is_value` meets its contract.
-- Assumes nothing.
use mathlib.Core.Path.{◌∙◌}
use native.Mathlib.Omega.{arith}
use Rattle.text.proofs.HexLaws.{value_none, value-dash, value-pairs}
use Rattle.text.proofs.hex.is_value.Goals as goal

pub returns-in-empty : goal.returns-in-empty
returns-in-empty c = value_none c.args.w.now (omega arith)

pub returns-in-len1 : goal.returns-in-len1
returns-in-len1 c = value-dash c.args.w.now (omega arith)

pub returns-in_default : goal.returns-in_default
returns-in_default c = c.are_hex_pairs.ensures ∙ value-pairs c.args.w.now (λ z. omega arith) (λ z. omega arith)
