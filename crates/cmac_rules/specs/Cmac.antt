-- CMAC of RFC 4493 and NIST SP 800-38B (document 003, sections 4.1 and 4.2), over any cipher E of 16-byte blocks, and over AES. The
-- names are RFC 4493's; a block is counted from 0, so that its M_1 is block 0.
-- Assumes nothing.
use Rattle.std.specs.Prelude.{Bool, cond, List, [], ◌∷◌, ◌++◌, ℕ, zero, suc, ◌+◌, ◌-◌, ◌*◌, ◌/◌, ◌%◌, ◌^◌, max, eqb, leb, length, take, drop, get_or, replicate}
use Rattle.octets.specs.Xor.{xors}
use Rattle.octets.specs.Numbers.{number, digits}
use Rattle.octets.specs.Blocks.{block}
use Rattle.fips197.specs.Cipher.{cipher}

-- const_Zero and const_Rb
abbrev pub Zero : List ℕ
Zero = replicate 16 0

abbrev pub Rb : List ℕ
Rb = replicate 15 0 ++ (0x87 ∷ [])

-- MSB(x) = 1
abbrev pub top_bit : List ℕ → Bool
top_bit x = leb 128 (get_or x 0 0)

-- x << 1: the first bit is lost, and a zero comes in at the end
unfoldable pub shifted : List ℕ → List ℕ
shifted x = digits 16 (number x * 2 % 2 ^ 128)

-- twice x in the field of 2^128
unfoldable pub double : List ℕ → List ℕ
double x = cond (top_bit x) (xors (shifted x) Rb) (shifted x)

-- padding(x) = x || 10^i, where x has under 16 bytes
unfoldable pub padding : List ℕ → List ℕ
padding x = x ++ (0x80 ∷ replicate (15 - length x) 0)

-- n, the number of blocks of so many bytes: ceil(len / 16), and 1 for the empty string
unfoldable pub blocks : ℕ → ℕ
blocks len = max 1 ((len + 15) / 16)

module _ (E : List ℕ → List ℕ) where
  -- Generate_Subkey
  unfoldable pub L : List ℕ
  L = E Zero

  unfoldable pub K1 : List ℕ
  K1 = double L

  unfoldable pub K2 : List ℕ
  K2 = double K1

  -- X after the first i blocks of M: from zeros, X := E(X XOR M_i)
  unfoldable pub chain : List ℕ → ℕ → List ℕ
  chain M zero = Zero
  chain M (suc i) = E (xors (chain M i) (block 16 M i))

  -- M_last, from the last block: with K1 where it is full, padded and with K2 where it is not
  unfoldable pub last_block : List ℕ → List ℕ
  last_block x = cond (eqb (length x) 16) (xors x K1) (xors (padding x) K2)

  -- T := E(M_last XOR X), X being that after the first n − 1 blocks
  unfoldable pub CMAC : List ℕ → List ℕ
  CMAC M = let i = blocks (length M) - 1 in E (xors (last_block (drop (16 * i) M)) (chain M i))

-- AES-CMAC, under a key of 16, 24 or 32 bytes
unfoldable pub cmac : List ℕ → List ℕ → List ℕ
cmac key M = CMAC (cipher key) M

-- document 02's mark of n bytes: the code's first n, SP 800-38B's MSB_Tlen
unfoldable pub mark : List ℕ → List ℕ → ℕ → List ℕ
mark key M n = take n (cmac key M)
