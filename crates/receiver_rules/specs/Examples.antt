-- Example calls on a receiver: one fault each, then each with all that follow it, and the answer.
-- Assumes nothing.
use Rattle.std.specs.Prelude.{◌≡◌, Bool, true, ◌&&◌, List, [], ◌∷◌, ◌++◌, ℕ, eqb, get_or, take, replicate}
use Rattle.octets.specs.Numbers.{digits}
use Rattle.answers.specs.Rows.{answer}
use Rattle.receiver_rules.specs.Receiver.{Receiver, prefix_of, counter_of, receiver_rows}

-- the number that a nonce begins with, and its counter
pub record Parts : Type 0 where
  pub prefix-is : prefix_of (1 ∷ 2 ∷ 3 ∷ 4 ∷ 5 ∷ 6 ∷ 7 ∷ 8 ∷ 9 ∷ 10 ∷ 11 ∷ 12 ∷ []) ≡ 0x01020304
  pub counter_is : counter_of (1 ∷ 2 ∷ 3 ∷ 4 ∷ 5 ∷ 6 ∷ 7 ∷ 8 ∷ 9 ∷ 10 ∷ 11 ∷ 12 ∷ []) ≡ 0x05060708090a0b0c

-- a receiver of a set and the prefix 0x01020304 that has accepted 1000 alone
abbrev at : ℕ → Receiver
at set = record { set = set; key = replicate 32 0; prefix = 0x01020304; window = record { begun = true; highest = 1000; marks = 1 } }

-- so many bytes of a nonce of a prefix and a counter
abbrev nonce_of : ℕ → ℕ → ℕ → List ℕ
nonce_of n prefix counter = take n (digits 4 prefix ++ (digits 8 counter ++ (0 ∷ [])))

-- where a message seals to it: the answer, then set, the nonce's length, prefix and counter, data, ciphertext and room
abbrev pub openings : List (List ℕ)
openings =
    (0 ∷ 1 ∷ 12 ∷ 0x01020304 ∷ 1001 ∷ 4096 ∷ 65540 ∷ 65536 ∷ [])
    ∷ (0 ∷ 9 ∷ 12 ∷ 0x01020304 ∷ 937 ∷ 0 ∷ 8 ∷ 0 ∷ [])
    ∷ (0 ∷ 10 ∷ 12 ∷ 0x01020304 ∷ 18446744073709551615 ∷ 0 ∷ 13 ∷ 1 ∷ [])
    ∷ (1 ∷ 0 ∷ 12 ∷ 0x01020304 ∷ 1001 ∷ 0 ∷ 16 ∷ 16 ∷ [])
    ∷ (1 ∷ 11 ∷ 12 ∷ 0x01020304 ∷ 1001 ∷ 0 ∷ 16 ∷ 16 ∷ [])
    ∷ (3 ∷ 1 ∷ 11 ∷ 0x01020304 ∷ 1001 ∷ 0 ∷ 16 ∷ 16 ∷ [])
    ∷ (3 ∷ 1 ∷ 13 ∷ 0x01020304 ∷ 1001 ∷ 0 ∷ 16 ∷ 16 ∷ [])
    ∷ (12 ∷ 1 ∷ 12 ∷ 0x04030201 ∷ 1001 ∷ 0 ∷ 16 ∷ 16 ∷ [])
    ∷ (12 ∷ 1 ∷ 12 ∷ 0x01020305 ∷ 1001 ∷ 0 ∷ 16 ∷ 16 ∷ [])
    ∷ (12 ∷ 1 ∷ 12 ∷ 0x02020304 ∷ 1001 ∷ 0 ∷ 16 ∷ 16 ∷ [])
    ∷ (4 ∷ 1 ∷ 12 ∷ 0x01020304 ∷ 1001 ∷ 4097 ∷ 16 ∷ 16 ∷ [])
    ∷ (5 ∷ 1 ∷ 12 ∷ 0x01020304 ∷ 1001 ∷ 0 ∷ 65541 ∷ 65537 ∷ [])
    ∷ (6 ∷ 1 ∷ 12 ∷ 0x01020304 ∷ 1001 ∷ 0 ∷ 3 ∷ 16 ∷ [])
    ∷ (7 ∷ 1 ∷ 12 ∷ 0x01020304 ∷ 1001 ∷ 0 ∷ 16 ∷ 11 ∷ [])
    ∷ (15 ∷ 1 ∷ 12 ∷ 0x01020304 ∷ 1000 ∷ 0 ∷ 16 ∷ 16 ∷ [])
    ∷ (15 ∷ 1 ∷ 12 ∷ 0x01020304 ∷ 936 ∷ 0 ∷ 16 ∷ 16 ∷ [])
    ∷ []

-- and where none does
abbrev pub false_ones : List (List ℕ)
false_ones =
    (8 ∷ 1 ∷ 12 ∷ 0x01020304 ∷ 1001 ∷ 0 ∷ 4 ∷ 0 ∷ [])
    ∷ (1 ∷ 0 ∷ 11 ∷ 0x04030201 ∷ 1000 ∷ 4097 ∷ 65541 ∷ 0 ∷ [])
    ∷ (3 ∷ 1 ∷ 11 ∷ 0x04030201 ∷ 1000 ∷ 4097 ∷ 65541 ∷ 0 ∷ [])
    ∷ (12 ∷ 1 ∷ 12 ∷ 0x04030201 ∷ 1000 ∷ 4097 ∷ 65541 ∷ 0 ∷ [])
    ∷ (4 ∷ 1 ∷ 12 ∷ 0x01020304 ∷ 1000 ∷ 4097 ∷ 65541 ∷ 0 ∷ [])
    ∷ (5 ∷ 1 ∷ 12 ∷ 0x01020304 ∷ 1000 ∷ 4096 ∷ 65541 ∷ 0 ∷ [])
    ∷ (6 ∷ 1 ∷ 12 ∷ 0x01020304 ∷ 1000 ∷ 4096 ∷ 3 ∷ 0 ∷ [])
    ∷ (7 ∷ 1 ∷ 12 ∷ 0x01020304 ∷ 1000 ∷ 4096 ∷ 65540 ∷ 0 ∷ [])
    ∷ (15 ∷ 1 ∷ 12 ∷ 0x01020304 ∷ 1000 ∷ 4096 ∷ 65540 ∷ 65536 ∷ [])
    ∷ []

unfoldable pub opens_so : Bool → List (List ℕ) → Bool
opens_so no-message [] = true
opens_so no-message (c ∷ cs) =
    let N = nonce_of (get_or c 2 0) (get_or c 3 0) (get_or c 4 0) in
    eqb (answer (receiver_rows (at (get_or c 1 0)) N (get_or c 5 0) (get_or c 6 0) (get_or c 7 0) no-message)) (get_or c 0 0)
    && opens_so no-message cs
