-- The transformations of FIPS 197 that a round is made of, and their inverses.
-- Assumes nothing.
use Rattle.std.specs.Prelude.{List, ℕ, ◌+◌, ◌-◌, ◌%◌}
use Rattle.octets.specs.Xor.{xors}
use Rattle.octets.specs.Blocks.{block}
use Rattle.field.specs.Field.{dot}
use Rattle.field.specs.SBox.{s_box, inv_s_box}
use Rattle.fips197.specs.State.{at, state}

-- section 5.1.1: the S-box applied to each byte
unfoldable pub sub_bytes : List ℕ → List ℕ
sub_bytes s = state (λ r c. s_box (at s r c))

-- section 5.1.2: s'[r,c] = s[r,(c + r) mod 4]
unfoldable pub shift_rows : List ℕ → List ℕ
shift_rows s = state (λ r c. at s r ((c + r) % 4))

-- each column times the matrix whose first row is p q u v and whose other rows are the one above turned right by one:
-- row r has p at column r, q at r + 1, u at r + 2, v at r + 3
unfoldable pub times_matrix : ℕ → ℕ → ℕ → ℕ → List ℕ → List ℕ
times_matrix p q u v s = state (λ r c. dot p q u v (at s r c) (at s ((r + 1) % 4) c) (at s ((r + 2) % 4) c) (at s ((r + 3) % 4) c))

-- section 5.1.3, equation (5.6)
unfoldable pub mix_columns : List ℕ → List ℕ
mix_columns s = times_matrix 2 3 1 1 s

-- section 5.1.4: round key n of the schedule w, 16 bytes, added to the State
unfoldable pub add_round_key : List ℕ → ℕ → List ℕ → List ℕ
add_round_key w n s = xors s (block 16 w n)

-- section 5.3.1: s'[r,(c + r) mod 4] = s[r,c]
unfoldable pub inv_shift_rows : List ℕ → List ℕ
inv_shift_rows s = state (λ r c. at s r ((c + 4 - r) % 4))

-- section 5.3.2: the inverse S-box applied to each byte
unfoldable pub inv_sub_bytes : List ℕ → List ℕ
inv_sub_bytes s = state (λ r c. inv_s_box (at s r c))

-- section 5.3.3, equation (5.10)
unfoldable pub inv_mix_columns : List ℕ → List ℕ
inv_mix_columns s = times_matrix 0x0e 0x0b 0x0d 0x09 s
