-- The States of a tracer are those of Cipher's rounds and of EqInvCipher's, and the last ones are the results.
-- Assumes nothing.
use mathlib.Core.Path.{◌≡◌, refl, ap, ◌∙◌}
use mathlib.Core.List.{List}
use Prim.Native.Nat.{ℕ, ◌-◌, ◌*◌, ◌<◌}
use native.Mathlib.Omega.{arith}
use Rattle.fips197.specs.Steps.{add_round_key, inv_sub_bytes, inv_shift_rows}
use Rattle.fips197.specs.Schedule.{key_expansion}
use Rattle.fips197.specs.Cipher.{rounds, cipher_over, key_rounds, cipher}
use Rattle.fips197.specs.Equivalent.{eq_rounds, eq_inv_cipher_over, key_expansion_eic}
use Rattle.fips197.specs.Trace.{forth, back, cipher_state, eq_state, Traces}
use Rattle.fips197.proofs.EqFigure.{steps_out, steps_back}
use Rattle.fips197.proofs.TraceLaws.{at-round, last_step}
use Rattle.fips197.proofs.Equivalent.{deciphered}

pub cipher-round : (w s : List ℕ) (nr n : ℕ) → n < nr → cipher_state w nr (4 * n) s ≡ rounds w n s
unfolding rounds
cipher-round w s nr = at-round (forth w) nr s (λ n. rounds w n s) refl (λ n. refl)

cipher-last : (w s : List ℕ) (nr : ℕ) → 0 < nr → cipher_state w nr (4 * nr - 1) s ≡ cipher_over w nr s
unfolding rounds
cipher-last w s nr = last_step (forth w) nr s (λ n. rounds w n s) refl (λ n. refl)

module _ (dw s : List ℕ) (nr : ℕ) where
  first : eq_rounds dw nr 0 s ≡ add_round_key dw (nr - 0) s
  unfolding eq_rounds
  first = ap (λ (k : ℕ). add_round_key dw k s) {x = nr} {y = nr - 0} (omega arith)

  pub eq_round : (n : ℕ) → n < nr → eq_state dw nr (4 * n) s ≡ eq_rounds dw nr n s
  unfolding eq_rounds
  eq_round = at-round (back dw nr) nr s (λ n. eq_rounds dw nr n s) first (λ n. refl)

  eq_last : 0 < nr → eq_state dw nr (4 * nr - 1) s ≡ eq_inv_cipher_over dw nr s
  unfolding eq_rounds
  eq_last h = last_step (back dw nr) nr s (λ n. eq_rounds dw nr n s) first (λ n. refl) h ∙ ap (λ (k : ℕ). add_round_key dw k (inv_shift_rows (inv_sub_bytes (eq_rounds dw nr (nr - 1) s)))) {x = nr - nr} {y = 0} (omega arith)

pub traces : Traces
unfolding cipher
traces =
    record {
      figure = steps_out;
      round = cipher-round;
      last = cipher-last;
      encrypts = λ key s. cipher-last (key_expansion key) s (key_rounds key) (omega arith);
      eq_figure = steps_back;
      eq_round = eq_round;
      eq_last = eq_last;
      decrypts = λ key s b h. deciphered key _ s _ _ b h refl refl (eq_last (key_expansion_eic key) s (key_rounds key) (omega arith));
    }
