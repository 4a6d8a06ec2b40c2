-- The States of Cipher and of EqInvCipher step by step, by number, for a tracer.
-- Assumes nothing.
use Rattle.std.specs.Prelude.{◌≡◌, true, cond, List, ℕ, zero, suc, ◌-◌, ◌*◌, ◌/◌, ◌%◌, ◌<◌, eqb}
use Rattle.octets.specs.Strings.{Bytes}
use Rattle.fips197.specs.Steps.{sub_bytes, shift_rows, mix_columns, add_round_key, inv_sub_bytes, inv_shift_rows, inv_mix_columns}
use Rattle.fips197.specs.Schedule.{is_key, key_expansion}
use Rattle.fips197.specs.Cipher.{rounds, cipher_over, key_rounds, cipher, inv_cipher}
use Rattle.fips197.specs.Equivalent.{eq_rounds, eq_inv_cipher_over, key_expansion_eic}

-- what the rounds of a direction are made of: SubBytes, ShiftRows and MixColumns, or their inverses, and AddRoundKey for the n-th time,
-- from 0 on
pub record Direction : Type 0 where
  pub sub : List ℕ → List ℕ
  pub shift : List ℕ → List ℕ
  pub mix : List ℕ → List ℕ
  pub add : ℕ → List ℕ → List ℕ

-- Cipher over a schedule w, and EqInvCipher over a schedule dw, which it goes through from round key nr down
abbrev pub forth : List ℕ → Direction
forth w = record { sub = sub_bytes; shift = shift_rows; mix = mix_columns; add = add_round_key w }

abbrev pub back : List ℕ → ℕ → Direction
back dw nr = record { sub = inv_sub_bytes; shift = inv_shift_rows; mix = inv_mix_columns; add = λ n. add_round_key dw (nr - n) }

-- The steps in fours, as appendix C shows them: AddRoundKey, by which round i + 1 starts, then SubBytes, ShiftRows and MixColumns. The
-- last round has AddRoundKey in place of MixColumns.
unfoldable pub step : Direction → ℕ → ℕ → ℕ → List ℕ → List ℕ
step d nr i zero s = d.add i s
step d nr i (suc zero) s = d.sub s
step d nr i (suc (suc zero)) s = d.shift s
step d nr i (suc (suc (suc j))) s = cond (eqb (suc i) nr) (d.add nr s) (d.mix s)

-- the State after step k; there are 4 nr steps, from 0 on
unfoldable pub state_after : Direction → ℕ → ℕ → List ℕ → List ℕ
state_after d nr zero s = step d nr 0 0 s
state_after d nr (suc k) s = step d nr (suc k / 4) (suc k % 4) (state_after d nr k s)

abbrev pub cipher_state : List ℕ → ℕ → ℕ → List ℕ → List ℕ
cipher_state w nr k s = state_after (forth w) nr k s

abbrev pub eq_state : List ℕ → ℕ → ℕ → List ℕ → List ℕ
eq_state dw nr k s = state_after (back dw nr) nr k s

-- ---- what is proved

-- the twelve steps of three rounds, whose AddRoundKeys are a, b, c and d, in turn
pub record Figure (sub shift mix a b c d : List ℕ → List ℕ) (s : List ℕ) (after : ℕ → List ℕ) : Type 0 where
  pub step_0 : after 0 ≡ a s
  pub step_1 : after 1 ≡ sub (after 0)
  pub step_2 : after 2 ≡ shift (after 1)
  pub step_3 : after 3 ≡ mix (after 2)
  pub step_4 : after 4 ≡ b (after 3)
  pub step_5 : after 5 ≡ sub (after 4)
  pub step_6 : after 6 ≡ shift (after 5)
  pub step_7 : after 7 ≡ mix (after 6)
  pub step_8 : after 8 ≡ c (after 7)
  pub step_9 : after 9 ≡ sub (after 8)
  pub step_10 : after 10 ≡ shift (after 9)
  pub step_11 : after 11 ≡ d (after 10)

abbrev pub CipherFigure : List ℕ → List ℕ → Type 0
CipherFigure w s = Figure sub_bytes shift_rows mix_columns (add_round_key w 0) (add_round_key w 1) (add_round_key w 2) (add_round_key w 3) s (λ k. cipher_state w 3 k s)

abbrev pub EqStepFigure : List ℕ → List ℕ → Type 0
EqStepFigure dw s = Figure inv_sub_bytes inv_shift_rows inv_mix_columns (add_round_key dw 3) (add_round_key dw 2) (add_round_key dw 1) (add_round_key dw 0) s (λ k. eq_state dw 3 k s)

-- Over every schedule the State after step 4 n is that after n whole rounds, and the State after the last step is the result; under a
-- key that is Cipher's or InvCipher's.
pub record Traces : Type 0 where
  pub figure : (w s : List ℕ) → CipherFigure w s
  pub round : (w s : List ℕ) (nr n : ℕ) → n < nr → cipher_state w nr (4 * n) s ≡ rounds w n s
  pub last : (w s : List ℕ) (nr : ℕ) → 0 < nr → cipher_state w nr (4 * nr - 1) s ≡ cipher_over w nr s
  pub encrypts : (key s : List ℕ) → cipher_state (key_expansion key) (key_rounds key) (4 * key_rounds key - 1) s ≡ cipher key s
  pub eq_figure : (dw s : List ℕ) → EqStepFigure dw s
  pub eq_round : (dw s : List ℕ) (nr n : ℕ) → n < nr → eq_state dw nr (4 * n) s ≡ eq_rounds dw nr n s
  pub eq_last : (dw s : List ℕ) (nr : ℕ) → 0 < nr → eq_state dw nr (4 * nr - 1) s ≡ eq_inv_cipher_over dw nr s
  pub decrypts : (key s : List ℕ) → Bytes key → is_key key ≡ true →
      eq_state (key_expansion_eic key) (key_rounds key) (4 * key_rounds key - 1) s ≡ inv_cipher key s
