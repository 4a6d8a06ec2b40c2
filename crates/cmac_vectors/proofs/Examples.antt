-- Two examples of the standards, computed from the definitions alone: RFC 4493's of 40 bytes, with a chain and a block that is padded,
-- and SP 800-38B's of 16 bytes, a full block, under a key of 256 bits.
-- Assumes nothing.
use mathlib.Core.Path.{◌≡◌, refl}
use Rattle.octets.specs.Strings.{table}
use Rattle.octets.specs.Xor.{xors}
use Rattle.octets.specs.Numbers.{number, digits}
use Rattle.field.specs.Field.{xtime, mul_bits, mul, dot, squares, inverse}
use Rattle.field.specs.SBox.{bits_of, affine, s_box}
use Rattle.fips197.specs.State.{at, state}
use Rattle.fips197.specs.Steps.{sub_bytes, shift_rows, times_matrix, mix_columns, add_round_key}
use Rattle.fips197.specs.Schedule.{sub_word, rot_word, power, rcon, temp, expanded, key_expansion}
use Rattle.fips197.specs.Cipher.{rounds, cipher}
use Rattle.cmac_rules.specs.Cmac.{shifted, double, padding, blocks, L, K1, K2, chain, last_block, CMAC, cmac}

padded : cmac (digits 16 0x2b7e151628aed2a6abf7158809cf4f3c) (digits 40 0x6bc1bee22e409f96e93d7e117393172aae2d8a571e03ac9c9eb76fac45af8e5130c81c46a35ce411)
    ≡ digits 16 0xdfa66747de9ae63030ca32611497c827
unfolding number digits table xors xtime mul_bits mul dot squares inverse bits_of affine s_box at state sub_bytes shift_rows times_matrix mix_columns add_round_key sub_word rot_word power rcon temp expanded key_expansion rounds cipher shifted double padding blocks L K1 K2 chain last_block CMAC cmac
padded = refl

full : cmac (digits 32 0x603deb1015ca71be2b73aef0857d77811f352c073b6108d72d9810a30914dff4) (digits 16 0x6bc1bee22e409f96e93d7e117393172a)
    ≡ digits 16 0x28a7023f452e8f82bd4bf28d8c37c35c
unfolding number digits table xors xtime mul_bits mul dot squares inverse bits_of affine s_box at state sub_bytes shift_rows times_matrix mix_columns add_round_key sub_word rot_word power rcon temp expanded key_expansion rounds cipher shifted double padding blocks L K1 K2 chain last_block CMAC cmac
full = refl
