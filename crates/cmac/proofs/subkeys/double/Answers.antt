-- `cmac::subkeys::double` meets its contract: the two halves, each with the bit that comes into it.
-- Assumes nothing.
use mathlib.Core.Path.{ap, ap₂, ◌∙◌}
use mathlib.Core.List.{◌++◌}
use Prim.Native.Nat.{ℕ, ◌*◌, ◌/◌, ◌^◌, ◌<◌}
use native.Mathlib.Omega.{arith}
use borrow.Author.Rules.{rules}
use lib.Bits.{bit_xor}
use Rattle.octets.specs.Numbers.{digits}
use Rattle.cmac_rules.specs.Cmac.{double}
use Rattle.cmac.proofs.SubkeyLaws.{by-shifts, double_halves}
use Rattle.cmac.proofs.subkeys.double.Goals as goal

pub overflow_add-a : goal.overflow_add-a
overflow_add-a c =
    let k : c.split-a.result.b < 2 ^ 64 = search rules in
    record { fits = omega (arith, k) }

pub returns : goal.returns
returns c =
    let a = c.split-a.result.a in
    let b = c.split-a.result.b in
    let h : a < 2 ^ 64 = search rules in
    let k : b < 2 ^ 64 = search rules in
    let s = by-shifts a b h k in
    c.whole.ensures
    ∙ ap₂ (λ (u v : ℕ). digits 8 u ++ digits 8 (bit_xor v (a / 2 ^ 63 * 0x87))) s.0 s.1
    ∙ double_halves a b h k ∙ ap double c.split-a.ensures
