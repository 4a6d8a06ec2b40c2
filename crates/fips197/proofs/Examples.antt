-- What sections 5.1 to 5.3 say of RotWord, of the first Rcon, of SubWord within a key's words, of the numbers of rounds, and of Cipher
-- and InvCipher, which are written out for three rounds.
-- Assumes nothing.
use mathlib.Core.Path.{◌≡◌, refl}
use mathlib.Core.List.{List, [], ◌∷◌}
use Prim.Native.Nat.{ℕ}
use Rattle.octets.specs.Strings.{table}
use Rattle.fips197.specs.Schedule.{rounds_of, sub_word, rot_word, power, rcon, temp}
use Rattle.fips197.specs.Steps.{add_round_key, inv_sub_bytes, inv_shift_rows, inv_mix_columns, sub_bytes, shift_rows, mix_columns}
use Rattle.fips197.specs.Cipher.{rounds, cipher_over, inv_rounds, inv_cipher_over}

rotated : (a b c d : ℕ) → rot_word (a ∷ b ∷ c ∷ d ∷ []) ≡ b ∷ c ∷ d ∷ a ∷ []
unfolding rot_word table
rotated a b c d = refl

first-rcon : rcon 1 ≡ 0x01 ∷ 0x00 ∷ 0x00 ∷ 0x00 ∷ []
unfolding rcon power
first-rcon = refl

-- eight key words alone have a SubWord at the fifth
fifth_word : (t : List ℕ) → (temp 8 12 t ≡ sub_word t) × (temp 6 10 t ≡ t)
unfolding temp
fifth_word t = (refl, refl)

round-numbers : (rounds_of 4 ≡ 10) × (rounds_of 6 ≡ 12) × (rounds_of 8 ≡ 14)
round-numbers = (refl, refl, refl)

three-rounds : (w s : List ℕ) →
    cipher_over w 3 s ≡ add_round_key w 3 (shift_rows (sub_bytes (add_round_key w 2 (mix_columns (shift_rows (sub_bytes (add_round_key w 1 (mix_columns (shift_rows (sub_bytes (add_round_key w 0 s)))))))))))
unfolding rounds
three-rounds w s = refl

three-rounds-back : (w s : List ℕ) →
    inv_cipher_over w 3 s ≡ add_round_key w 0 (inv_sub_bytes (inv_shift_rows (inv_mix_columns (add_round_key w 1 (inv_sub_bytes (inv_shift_rows (inv_mix_columns (add_round_key w 2 (inv_sub_bytes (inv_shift_rows (add_round_key w 3 s)))))))))))
unfolding inv_rounds
three-rounds-back w s = refl
