-- Worked examples of FIPS 197, computed from the definitions alone.
-- Assumes nothing.
use mathlib.Core.Path.{◌≡◌, refl}
use mathlib.Core.List.{List, [], ◌∷◌}
use Prim.Native.Nat.{ℕ}
use Rattle.octets.specs.Strings.{table}
use Rattle.octets.specs.Xor.{xors}
use Rattle.octets.specs.Numbers.{digits}
use Rattle.field.specs.Field.{xtime, mul_bits, mul, dot, squares, inverse}
use Rattle.field.specs.SBox.{bits_of, affine, inv_affine, s_box, inv_s_box}
use Rattle.fips197.specs.State.{at, state}
use Rattle.fips197.specs.Steps.{sub_bytes, shift_rows, times_matrix, mix_columns, add_round_key, inv_shift_rows, inv_sub_bytes, inv_mix_columns}
use Rattle.fips197.specs.Schedule.{sub_word, rot_word, power, rcon, temp, expanded, key_expansion}
use Rattle.fips197.specs.Cipher.{rounds, inv_rounds, cipher, inv_cipher}
use Rattle.fips197.specs.Equivalent.{modified_key, modified_keys, key_expansion_eic, eq_step, eq_state}

-- section 4.2: {57} • {83} = {c1}; section 4.2.1: {57} • {13} = {fe}
product : mul 0x57 0x83 ≡ 0xc1
unfolding mul mul_bits xtime
product = refl

doublings : mul 0x57 0x13 ≡ 0xfe
unfolding mul mul_bits xtime
doublings = refl

-- section 5.1.1: {53} is replaced by {ed}, and 00 by 63
substitution : s_box 0x53 ≡ 0xed
unfolding s_box affine bits_of inverse squares mul mul_bits xtime
substitution = refl

of_zero : s_box 0x00 ≡ 0x63
unfolding s_box affine bits_of inverse squares mul mul_bits xtime
of_zero = refl

-- appendix C: the key is the start of 00 01 02 .., of each of the three lengths
key : ℕ → List ℕ
key n = table (λ i. i) n

plaintext : List ℕ
plaintext = digits 16 0x00112233445566778899aabbccddeeff

encrypted : cipher (key 16) plaintext ∷ cipher (key 24) plaintext ∷ cipher (key 32) plaintext ∷ []
    ≡ digits 16 0x69c4e0d86a7b0430d8cdb78070b4c55a ∷ digits 16 0xdda97ca4864cdfe06eaf70a0ec0d7191 ∷ digits 16 0x8ea2b7ca516745bfeafc49904b496089 ∷ []
unfolding key plaintext digits table xors xtime mul_bits mul dot squares inverse bits_of affine s_box at state sub_bytes shift_rows times_matrix mix_columns add_round_key sub_word rot_word power rcon temp expanded key_expansion rounds cipher
encrypted = refl

decrypted : inv_cipher (key 16) (digits 16 0x69c4e0d86a7b0430d8cdb78070b4c55a) ≡ plaintext
unfolding key plaintext digits table xors xtime mul_bits mul dot squares inverse bits_of affine inv_affine s_box inv_s_box at state inv_sub_bytes inv_shift_rows times_matrix inv_mix_columns add_round_key sub_word rot_word power rcon temp expanded key_expansion inv_rounds inv_cipher
decrypted = refl

-- appendix C.1, the equivalent inverse cipher: what its second round starts with
traced : eq_state (key_expansion_eic (key 16)) 10 4 (digits 16 0x69c4e0d86a7b0430d8cdb78070b4c55a) ≡ digits 16 0x54d990a16ba09ab596bbf40ea111702f
unfolding key digits table xors xtime mul_bits mul dot squares inverse bits_of affine inv_affine s_box inv_s_box at state inv_sub_bytes inv_shift_rows times_matrix inv_mix_columns add_round_key sub_word rot_word power rcon temp expanded key_expansion modified_key modified_keys key_expansion_eic eq_step eq_state
traced = refl
