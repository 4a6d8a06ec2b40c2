-- The byte field of FIPS 197, section 4: a byte is a polynomial over the two-element field, its bit i the coefficient of x^i.
-- Addition is the exclusive or.
-- Assumes nothing.
use Rattle.std.specs.Prelude.{ℕ, zero, suc, ◌*◌, ◌/◌, ◌%◌}
use Rattle.std.specs.Int.Bits.{bit_xor}

-- section 4.2.1: multiplication by x, a shift to the left. Where it yields x^8, the product is reduced modulo
-- m(x) = x^8 + x^4 + x^3 + x + 1: that bit is dropped, and 1b, the rest of m(x), is added.
unfoldable pub xtime : ℕ → ℕ
xtime v = bit_xor (v * 2 % 256) (v / 128 % 2 * 0x1b)

-- section 4.2.1: a product is the sum of a x^i over the bits i of b that are set, for the n lowest bits
unfoldable pub mul_bits : ℕ → ℕ → ℕ → ℕ
mul_bits zero a b = 0
mul_bits (suc n) a b = bit_xor (a * (b % 2)) (mul_bits n (xtime a) (b / 2))

-- section 4.2: a • b modulo m(x)
unfoldable pub mul : ℕ → ℕ → ℕ
mul a b = mul_bits 8 a b

-- section 4.3: a row p, q, r, s of a matrix times a column a, b, c, d
unfoldable pub dot : ℕ → ℕ → ℕ → ℕ → ℕ → ℕ → ℕ → ℕ → ℕ
dot p q r s a b c d = bit_xor (mul p a) (bit_xor (mul q b) (bit_xor (mul r c) (mul s d)))

-- r times v^2, v^4, v^8, .., the first n of these powers
unfoldable pub squares : ℕ → ℕ → ℕ → ℕ
squares zero v r = r
squares (suc n) v r = let w = mul v v in squares n w (mul r w)

-- section 4.2: the multiplicative inverse, which is v^254 = v^2 v^4 .. v^128, and 00 for 00. That v • inverse v is 01 for
-- every other byte v is a field of SBoxRules (specs/SBox).
unfoldable pub inverse : ℕ → ℕ
inverse v = squares 7 v 1
