-- `cba_steps::endings::ending_of` meets its contract, form by form.
-- Assumes nothing.
use native.Mathlib.Omega.{arith}
use Rattle.cba_mode.proofs.FormLaws.{seal_one, seal_joined, seal_long}
use Rattle.cba_steps.proofs.endings.ending_of.Goals as goal
use Rattle.cba_steps.proofs.endings.ending_of.Goals.{else-k-ge1-via-then-k-ge1+else-n-l-le16, else-k-ge1-via-else-k-ge1}

pub returns-then-n-l-le16 : goal.returns-then-n-l-le16
returns-then-n-l-le16 c = record { form = seal_joined _ _ _ c.requires.l_lt_n c.if-n-l-le16.true c.if-k-ge1.true; ends = record { within = omega arith; closes = (omega arith, omega arith); told = omega arith } }

pub returns : goal.returns
returns c =
    elim c.else-k-ge1.branch [
      | else-k-ge1-via-then-k-ge1+else-n-l-le16 w ↦
          record { form = seal_long _ _ _ c.requires.l_lt_n w.if-n-l-le16.false; ends = record { within = omega arith; closes = omega arith; told = omega arith } }
      | else-k-ge1-via-else-k-ge1 w ↦
          record { form = seal_one _ _ _ c.requires.l_lt_n w.if-k-ge1.false; ends = record { within = omega arith; closes = omega arith; told = omega arith } }
    ]
