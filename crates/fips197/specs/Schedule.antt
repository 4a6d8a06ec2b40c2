-- KeyExpansion of FIPS 197, section 5.2, figure 11 (document 003, figure 3.10), for Nk = 4, 6, 8. The schedule is the list
-- of its words' bytes; word i is its bytes 4 i to 4 i + 3.
-- Assumes nothing.
use Rattle.std.specs.Prelude.{Bool, cond, ◌&&◌, ◌||◌, List, [], ◌∷◌, ◌++◌, ℕ, zero, suc, ◌+◌, ◌-◌, ◌*◌, ◌/◌, ◌%◌, eqb, ltb, length, get_or}
use Rattle.octets.specs.Strings.{table}
use Rattle.octets.specs.Xor.{xors}
use Rattle.octets.specs.Blocks.{block}
use Rattle.field.specs.Field.{xtime}
use Rattle.field.specs.SBox.{s_box}

-- a key has 16, 24 or 32 bytes
unfoldable pub is_key : List ℕ → Bool
is_key key = eqb (length key) 16 || eqb (length key) 24 || eqb (length key) 32

-- the number of rounds that goes with Nk key words: 10, 12, 14
abbrev pub rounds_of : ℕ → ℕ
rounds_of nk = nk + 6

-- SubWord: the S-box applied to each of the four bytes
unfoldable pub sub_word : List ℕ → List ℕ
sub_word t = table (λ k. s_box (get_or t k 0)) 4

-- RotWord: a0, a1, a2, a3 becomes a1, a2, a3, a0
unfoldable pub rot_word : List ℕ → List ℕ
rot_word t = table (λ k. get_or t ((k + 1) % 4) 0) 4

-- x^j in the byte field
unfoldable pub power : ℕ → ℕ
power zero = 1
power (suc j) = xtime (power j)

-- Rcon[j] = x^(j−1), 00, 00, 00; j starts at 1
unfoldable pub rcon : ℕ → List ℕ
rcon j = power (j - 1) ∷ 0 ∷ 0 ∷ 0 ∷ []

-- i mod Nk = 0
abbrev pub at_start : ℕ → ℕ → Bool
at_start nk i = eqb (i % nk) 0

-- Nk > 6 and i mod Nk = 4
abbrev pub at_middle : ℕ → ℕ → Bool
at_middle nk i = ltb 6 nk && eqb (i % nk) 4

-- the word temp that goes into w[i], from t = w[i−1]
unfoldable pub temp : ℕ → ℕ → List ℕ → List ℕ
temp nk i t = cond (at_start nk i) (xors (sub_word (rot_word t)) (rcon (i / nk))) (cond (at_middle nk i) (sub_word t) t)

-- w[i] = w[i−Nk] xor temp
abbrev pub next_word : ℕ → ℕ → List ℕ → List ℕ
next_word nk i w = xors (block 4 w (i - nk)) (temp nk i (block 4 w (i - 1)))

-- w with w[i] after it
abbrev pub extend : ℕ → ℕ → List ℕ → List ℕ
extend nk i w = w ++ next_word nk i w

-- the key's words and the m words after them
unfoldable pub expanded : ℕ → List ℕ → ℕ → List ℕ
expanded nk key zero = key
expanded nk key (suc m) = extend nk (nk + m) (expanded nk key m)

-- all 4 (Nr + 1) words
unfoldable pub key_expansion : List ℕ → List ℕ
key_expansion key = let nk = length key / 4 in expanded nk key (4 * (rounds_of nk + 1) - nk)
