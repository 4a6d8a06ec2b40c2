-- The equivalent inverse cipher of FIPS 197, section 5.3.5, figure 15 (document 003, section 3.7.5, figure 3.12): decryption with
-- its steps in encryption's order, over a schedule dw made from the schedule w.
-- Assumes nothing.
use Rattle.std.specs.Prelude.{◌≡◌, Bool, true, cond, ◌&&◌, List, [], ◌++◌, ℕ, zero, suc, ◌-◌, ◌*◌, ◌/◌, ◌%◌, ◌<◌, eqb, ltb}
use Rattle.octets.specs.Strings.{Bytes}
use Rattle.octets.specs.Blocks.{block}
use Rattle.fips197.specs.Steps.{add_round_key, inv_sub_bytes, inv_shift_rows, inv_mix_columns}
use Rattle.fips197.specs.Schedule.{is_key, key_expansion}
use Rattle.fips197.specs.Cipher.{inv_rounds, inv_cipher, key_rounds}

-- n is 1 to nr − 1
abbrev pub between : ℕ → ℕ → Bool
between nr n = ltb 0 n && ltb n nr

-- round key n of dw: InvMixColumns on that of w where n is 1 to nr − 1
unfoldable pub modified_key : List ℕ → ℕ → ℕ → List ℕ
modified_key w nr n = cond (between nr n) (inv_mix_columns (block 16 w n)) (block 16 w n)

-- the first n round keys of dw
unfoldable pub modified_keys : List ℕ → ℕ → ℕ → List ℕ
modified_keys w nr zero = []
modified_keys w nr (suc n) = modified_keys w nr n ++ modified_key w nr n

-- dw: round keys 0 to nr
abbrev pub modified : List ℕ → ℕ → List ℕ
modified w nr = modified_keys w nr (suc nr)

-- a full round, with round key n
abbrev pub eq_full_round : List ℕ → ℕ → List ℕ → List ℕ
eq_full_round dw n s = add_round_key dw n (inv_mix_columns (inv_shift_rows (inv_sub_bytes s)))

-- the State after the first AddRoundKey, with round key nr, and n full rounds, with round keys nr − 1, nr − 2, ..
unfoldable pub eq_rounds : List ℕ → ℕ → ℕ → List ℕ → List ℕ
eq_rounds dw nr zero s = add_round_key dw nr s
eq_rounds dw nr (suc n) s = eq_full_round dw (nr - suc n) (eq_rounds dw nr n s)

-- EqInvCipher: the last round has no InvMixColumns
abbrev pub eq_inv_cipher_over : List ℕ → ℕ → List ℕ → List ℕ
eq_inv_cipher_over dw nr s = add_round_key dw 0 (inv_shift_rows (inv_sub_bytes (eq_rounds dw nr (nr - 1) s)))

-- dw and EqInvCipher of a key
unfoldable pub key_expansion_eic : List ℕ → List ℕ
key_expansion_eic key = modified (key_expansion key) (key_rounds key)

unfoldable pub eq_inv_cipher : List ℕ → List ℕ → List ℕ
eq_inv_cipher key s = eq_inv_cipher_over (key_expansion_eic key) (key_rounds key) s

-- ---- step by step

-- The steps in fours, as appendix C shows them: AddRoundKey with round key nr − i, by which round i + 1 starts, then InvSubBytes,
-- InvShiftRows and InvMixColumns. The last round has AddRoundKey, with round key 0, in place of InvMixColumns.
unfoldable pub eq_step : List ℕ → ℕ → ℕ → ℕ → List ℕ → List ℕ
eq_step dw nr i zero s = add_round_key dw (nr - i) s
eq_step dw nr i (suc zero) s = inv_sub_bytes s
eq_step dw nr i (suc (suc zero)) s = inv_shift_rows s
eq_step dw nr i (suc (suc (suc j))) s = cond (eqb (suc i) nr) (add_round_key dw 0 s) (inv_mix_columns s)

-- the State after step k; there are 4 nr steps, from 0 on
unfoldable pub eq_state : List ℕ → ℕ → ℕ → List ℕ → List ℕ
eq_state dw nr zero s = eq_step dw nr 0 0 s
eq_state dw nr (suc k) s = eq_step dw nr (suc k / 4) (suc k % 4) (eq_state dw nr k s)

-- ---- what is proved

-- the figure written out for nr = 3, over any schedule and any block
pub record EqFigure (w dw s : List ℕ) : Type 0 where
  pub schedule : modified w 3 ≡ ((block 16 w 0 ++ inv_mix_columns (block 16 w 1)) ++ inv_mix_columns (block 16 w 2)) ++ block 16 w 3
  pub step_0 : eq_state dw 3 0 s ≡ add_round_key dw 3 s
  pub step_1 : eq_state dw 3 1 s ≡ inv_sub_bytes (eq_state dw 3 0 s)
  pub step_2 : eq_state dw 3 2 s ≡ inv_shift_rows (eq_state dw 3 1 s)
  pub step_3 : eq_state dw 3 3 s ≡ inv_mix_columns (eq_state dw 3 2 s)
  pub step_4 : eq_state dw 3 4 s ≡ add_round_key dw 2 (eq_state dw 3 3 s)
  pub step_5 : eq_state dw 3 5 s ≡ inv_sub_bytes (eq_state dw 3 4 s)
  pub step_6 : eq_state dw 3 6 s ≡ inv_shift_rows (eq_state dw 3 5 s)
  pub step_7 : eq_state dw 3 7 s ≡ inv_mix_columns (eq_state dw 3 6 s)
  pub step_8 : eq_state dw 3 8 s ≡ add_round_key dw 1 (eq_state dw 3 7 s)
  pub step_9 : eq_state dw 3 9 s ≡ inv_sub_bytes (eq_state dw 3 8 s)
  pub step_10 : eq_state dw 3 10 s ≡ inv_shift_rows (eq_state dw 3 9 s)
  pub step_11 : eq_state dw 3 11 s ≡ add_round_key dw 0 (eq_state dw 3 10 s)
  pub whole : eq_inv_cipher_over dw 3 s ≡ eq_state dw 3 11 s

-- Under every key and on every block EqInvCipher is InvCipher, and the State after n whole rounds is InvCipher's. Over every
-- schedule the State after step 4 n is that after n whole rounds, and the State after the last step is the result.
pub record Equivalent : Type 0 where
  pub figure : (w dw s : List ℕ) → EqFigure w dw s
  pub same : (key s : List ℕ) → Bytes key → is_key key ≡ true → eq_inv_cipher key s ≡ inv_cipher key s
  pub rounds-same : (key s : List ℕ) → Bytes key → is_key key ≡ true → (n : ℕ) → n < key_rounds key →
      eq_rounds (key_expansion_eic key) (key_rounds key) n s ≡ inv_rounds (key_expansion key) (key_rounds key) n s
  pub step-round : (dw s : List ℕ) (nr n : ℕ) → n < nr → eq_state dw nr (4 * n) s ≡ eq_rounds dw nr n s
  pub step-last : (dw s : List ℕ) (nr : ℕ) → 0 < nr → eq_state dw nr (4 * nr - 1) s ≡ eq_inv_cipher_over dw nr s
