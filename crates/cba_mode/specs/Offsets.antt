-- Multiples of 64-bit halves, offsets and padding: document 002, section 2 and the function F of section 3.2. A half is a string
-- of 8 bytes, an offset one of 16.
-- Assumes nothing.
use Rattle.std.specs.Prelude.{cond, List, ◌∷◌, ◌++◌, ℕ, zero, suc, ◌+◌, ◌-◌, ◌*◌, ◌/◌, ◌%◌, ◌^◌, eqb, length, take, drop, replicate}
use Rattle.std.specs.Int.Bits.{bit_xor}
use Rattle.octets.specs.Xor.{xors}
use Rattle.octets.specs.Numbers.{number, digits}

-- x shifted left by one within 64 bits; if its first bit was set, 0^59 11011 is added
unfoldable pub doubled : ℕ → ℕ
doubled x = bit_xor (x / 2 ^ 63 * 0x1b) (x * 2 % 2 ^ 64)

-- 2·A
unfoldable pub two : List ℕ → List ℕ
two A = digits 8 (doubled (number A))

-- 3·A = A ⊕ 2·A
unfoldable pub three : List ℕ → List ℕ
three A = xors A (two A)

-- 4·A = 2·(2·A)
unfoldable pub four : List ℕ → List ℕ
four A = two (two A)

-- 5·A = 3·(3·A)
unfoldable pub five : List ℕ → List ℕ
five A = three (three A)

-- 6·A = 3·(2·A)
unfoldable pub six : List ℕ → List ℕ
six A = three (two A)

-- p·A for the multipliers that the mode has
unfoldable pub times : ℕ → List ℕ → List ℕ
times p A = cond (eqb p 2) (two A) (cond (eqb p 3) (three A) (cond (eqb p 4) (four A) (cond (eqb p 5) (five A) (cond (eqb p 6) (six A) A))))

-- F_{p,q}(Δ) = (p·A, q·B), where (A, B) = Δ
unfoldable pub F : ℕ → ℕ → List ℕ → List ℕ
F p q Δ = times p (take 8 Δ) ++ times q (drop 8 Δ)

-- MSB_{126−w}(R) 1^{w+2}, as a number
abbrev pub ones : ℕ → ℕ → ℕ
ones w x = x / 2 ^ (w + 2) * 2 ^ (w + 2) + (2 ^ (w + 2) - 1)

-- x ⋙ k within 128 bits
abbrev pub rotated : ℕ → ℕ → ℕ
rotated k x = x / 2 ^ k + x % 2 ^ k * 2 ^ (128 - k)

-- F_{2,2}(MSB_{126−w}(R) 1^{w+2} ⋙ w/2 + 1): the first offset, from R with w = ℓ, and from L with w = 0
unfoldable pub start : List ℕ → ℕ → List ℕ
start R w = F 2 2 (digits 16 (rotated (w / 2 + 1) (ones w (number R))))

-- Δ after i times F_{2,2}
unfoldable pub offset : List ℕ → ℕ → List ℕ
offset Δ zero = Δ
offset Δ (suc i) = F 2 2 (offset Δ i)

-- pad: bit 1 and zeros up to 128 bits, which for whole bytes are 80, 00, ..; 16 bytes stay themselves
unfoldable pub pad : List ℕ → List ℕ
pad A = take 16 (A ++ (0x80 ∷ replicate 15 0))

-- zeros before A, up to n bytes
unfoldable pub leading : ℕ → List ℕ → List ℕ
leading n A = replicate (n - length A) 0 ++ A

-- LSB: the last k bytes of A
unfoldable pub last_bytes : ℕ → List ℕ → List ℕ
last_bytes k A = drop (length A - k) A

-- the first bytes of A, all but the last k
unfoldable pub but_last : ℕ → List ℕ → List ℕ
but_last k A = take (length A - k) A
