-- `text::writer::leading` meets its contract.
-- Assumes nothing.
use Prim.Native.Nat.{◌/◌}
use native.Mathlib.Omega.{arith}
use Rattle.text.proofs.DecimalLaws.{size-one, size-more}
use Rattle.text.proofs.writer.leading.Goals as goal

pub returns-in-0-to-9 : goal.returns-in-0-to-9
returns-in-0-to-9 c = omega (arith, size-one 4 c.args.n (omega arith))

pub returns-in-10-to-99 : goal.returns-in-10-to-99
returns-in-10-to-99 c =
    let n = c.args.n in
    omega (arith, size-more 4 n (omega arith), size-one 3 (n / 10) (omega arith))

pub returns-in-100-to-999 : goal.returns-in-100-to-999
returns-in-100-to-999 c =
    let n = c.args.n in
    omega (arith, size-more 4 n (omega arith), size-more 3 (n / 10) (omega arith), size-one 2 (n / 10 / 10) (omega arith))

pub returns-in-1000-to-9999 : goal.returns-in-1000-to-9999
returns-in-1000-to-9999 c =
    let n = c.args.n in
    omega (arith, size-more 4 n (omega arith), size-more 3 (n / 10) (omega arith), size-more 2 (n / 10 / 10) (omega arith), size-one 1 (n / 10 / 10 / 10) (omega arith))

pub returns-in_default : goal.returns-in_default
returns-in_default c =
    let n = c.args.n in
    omega (
      arith,
      size-more 4 n (omega arith),
      size-more 3 (n / 10) (omega arith),
      size-more 2 (n / 10 / 10) (omega arith),
      size-more 1 (n / 10 / 10 / 10) (omega arith),
      size-one 0 (n / 10 / 10 / 10 / 10) (omega arith),
    )
