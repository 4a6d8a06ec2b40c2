-- `text::hex::hex_value` meets its contract.
-- Assumes nothing.
use native.Mathlib.Omega.{arith}
use Rattle.text.proofs.HexLaws.{value-ten, value_letter}
use Rattle.text.proofs.hex.hex_value.Goals as goal

pub overflow_sub-result : goal.overflow_sub-result
overflow_sub-result c = (value-ten c.args.c c.requires (omega arith)).0

pub returns-in-0-to-57 : goal.returns-in-0-to-57
returns-in-0-to-57 c = (value-ten c.args.c c.requires (omega arith)).1

pub overflow_sub-result-in_default : goal.overflow_sub-result-in_default
overflow_sub-result-in_default c = (value_letter c.args.c c.requires (omega arith)).0

pub returns-in_default : goal.returns-in_default
returns-in_default c = (value_letter c.args.c c.requires (omega arith)).1
