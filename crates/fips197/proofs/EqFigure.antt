-- The figure of the equivalent inverse cipher, and the steps of both ciphers, written out for three rounds.
-- Assumes nothing.
use mathlib.Core.Path.{refl}
use mathlib.Core.List.{List}
use Prim.Native.Nat.{ℕ}
use Rattle.fips197.specs.Trace.{step, state_after, CipherFigure, EqStepFigure}
use Rattle.fips197.specs.Equivalent.{modified_key, modified_keys, eq_rounds, eq_step, eq_state, EqFigure}

pub written_out : (w dw s : List ℕ) → EqFigure w dw s
unfolding modified_key modified_keys eq_rounds eq_step eq_state
written_out w dw s =
    record {
      schedule = refl;
      step_0 = refl;
      step_1 = refl;
      step_2 = refl;
      step_3 = refl;
      step_4 = refl;
      step_5 = refl;
      step_6 = refl;
      step_7 = refl;
      step_8 = refl;
      step_9 = refl;
      step_10 = refl;
      step_11 = refl;
      whole = refl;
    }

pub steps_out : (w s : List ℕ) → CipherFigure w s
unfolding step state_after
steps_out w s =
    record {
      step_0 = refl;
      step_1 = refl;
      step_2 = refl;
      step_3 = refl;
      step_4 = refl;
      step_5 = refl;
      step_6 = refl;
      step_7 = refl;
      step_8 = refl;
      step_9 = refl;
      step_10 = refl;
      step_11 = refl;
    }

pub steps_back : (dw s : List ℕ) → EqStepFigure dw s
unfolding step state_after
steps_back dw s =
    record {
      step_0 = refl;
      step_1 = refl;
      step_2 = refl;
      step_3 = refl;
      step_4 = refl;
      step_5 = refl;
      step_6 = refl;
      step_7 = refl;
      step_8 = refl;
      step_9 = refl;
      step_10 = refl;
      step_11 = refl;
    }
