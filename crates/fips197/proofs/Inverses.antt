-- AES decryption undoes encryption and encryption undoes decryption, under every key and on every block. Encryption gives a block
-- whatever goes in.
-- Assumes nothing.
use mathlib.Core.Path.{◌≡◌}
use mathlib.Core.Bool.{true}
use mathlib.Core.List.{List}
use Prim.Native.Nat.{ℕ, suc, ◌+◌, ◌*◌, ◌/◌, ◌≤◌}
use native.Mathlib.Omega.{arith}
use lib.ListN.{length}
use Rattle.octets.specs.Strings.{Bytes, Octets}
use Rattle.fips197.specs.Schedule.{is_key, key_expansion}
use Rattle.fips197.specs.Cipher.{cipher, inv_cipher, Inverses}
use Rattle.fips197.proofs.CipherLaws.{cipher-octets, inv_cipher-octets, inv_cipher-cipher_over, cipher-inv_cipher_over}
use Rattle.fips197.proofs.ScheduleLaws.{key-words, key_expansion-octets}

module _ (key : List ℕ) (b : Bytes key) (h : is_key key ≡ true) where
  w : Octets (16 * (length key / 4 + 7)) (key_expansion key)
  w = key_expansion-octets key b (key-words key h)

  pub room : 16 * suc (length key / 4 + 6) ≤ length (key_expansion key)
  room = omega (arith, w.size)

  -- encryption gives a block, whatever goes in
  pub encrypted-octets : (s : List ℕ) → Octets 16 (cipher key s)
  unfolding cipher
  encrypted-octets s = cipher-octets (key_expansion key) w.small _ room s

pub inverses : Inverses
unfolding cipher inv_cipher
inverses =
    record {
      D-undoes-E = λ key s b h o. inv_cipher-cipher_over (key_expansion key) (w key b h).small _ (room key b h) o (omega arith);
      E-undoes-D = λ key s b h o. cipher-inv_cipher_over (key_expansion key) (w key b h).small _ (room key b h) o (omega arith);
      E-block = λ key s b h o. encrypted-octets key b h s;
      D-block = λ key s b h o. inv_cipher-octets (key_expansion key) (w key b h).small _ (room key b h) o;
    }
