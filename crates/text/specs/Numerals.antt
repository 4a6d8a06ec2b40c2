-- Decimal and hexadecimal text: what is written, and what is read. Characters are bytes.
-- Assumes nothing.
use Rattle.std.specs.Prelude.{Bool, Option, Some, None, true, false, cond, not, ◌&&◌, ◌||◌, List, [], ◌∷◌, ◌++◌, ℕ, zero, suc, ◌+◌, ◌-◌, ◌*◌, ◌/◌, ◌%◌, eqb, ltb, leb, length}
use Rattle.octets.specs.Strings.{eqs}

-- ---- decimal

-- a number of at most k digits, without leading zeros
unfoldable pub decimal_of : ℕ → ℕ → List ℕ
decimal_of zero n = []
decimal_of (suc k) n = cond (ltb n 10) ((48 + n) ∷ []) (decimal_of k (n / 10) ++ ((48 + n % 10) ∷ []))

-- a number below 100,000
abbrev pub decimal : ℕ → List ℕ
decimal n = decimal_of 5 n

unfoldable pub is_digit : ℕ → Bool
is_digit c = leb 48 c && leb c 57

unfoldable pub all_digits : List ℕ → Bool
all_digits [] = true
all_digits (c ∷ s) = is_digit c && all_digits s

-- 1 to 3 digits without a leading zero, `0` allowed
unfoldable pub is_set_number : List ℕ → Bool
is_set_number [] = false
is_set_number (c ∷ s) = is_digit c && all_digits s && ltb (length s) 3 && (eqb (length s) 0 || not (eqb c 48))

unfoldable pub decimal_value : ℕ → List ℕ → ℕ
decimal_value n [] = n
decimal_value n (c ∷ s) = decimal_value (n * 10 + (c - 48)) s

-- the number that a word stands for, if it is the number of a set
abbrev pub read_set_number : List ℕ → Option ℕ
read_set_number w = cond (is_set_number w) (Some (decimal_value 0 w)) None

-- ---- hexadecimal, lower case

unfoldable pub hex_digit : ℕ → ℕ
hex_digit v = cond (ltb v 10) (48 + v) (87 + v)

unfoldable pub hex : List ℕ → List ℕ
hex [] = []
hex (x ∷ s) = hex_digit (x / 16) ∷ hex_digit (x % 16) ∷ hex s

-- `-` for empty
unfoldable pub shown : List ℕ → List ℕ
shown s = cond (eqb (length s) 0) (45 ∷ []) (hex s)

unfoldable pub is_hex_digit : ℕ → Bool
is_hex_digit c = is_digit c || (leb 97 c && leb c 102)

unfoldable pub hex_value : ℕ → ℕ
hex_value c = cond (leb c 57) (c - 48) (c - 87)

-- pairs of digits
unfoldable pub are_hex_pairs : List ℕ → Bool
are_hex_pairs [] = true
are_hex_pairs (a ∷ []) = false
are_hex_pairs (a ∷ b ∷ s) = is_hex_digit a && is_hex_digit b && are_hex_pairs s

unfoldable pub unhex : List ℕ → List ℕ
unhex [] = []
unhex (a ∷ []) = []
unhex (a ∷ b ∷ s) = (hex_value a * 16 + hex_value b) ∷ unhex s

-- `-`, or one or more pairs
unfoldable pub is_value : List ℕ → Bool
is_value w = eqs w (45 ∷ []) || (ltb 0 (length w) && are_hex_pairs w)

unfoldable pub value_of : List ℕ → List ℕ
value_of w = cond (eqs w (45 ∷ [])) [] (unhex w)
