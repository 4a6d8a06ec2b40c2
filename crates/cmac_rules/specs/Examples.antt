-- Examples: RFC 4493's subkeys, the code of logs of few blocks written out over any cipher, marks beside a code, and example calls by
-- their lengths. A wrong definition or a wrong order of checks shows here.
-- Assumes nothing.
use Rattle.std.specs.Prelude.{◌≡◌, Bool, true, false, ◌&&◌, List, [], ◌∷◌, ◌++◌, ℕ, eqb, get_or, replicate}
use Rattle.octets.specs.Xor.{xors}
use Rattle.octets.specs.Numbers.{digits}
use Rattle.answers.specs.Rows.{answer}
use Rattle.cmac_rules.specs.Cmac.{double, K1, K2, CMAC}
use Rattle.cmac_rules.specs.Marks.{make_rows, check_rows, is_start}

-- the subkeys are twice E(0^128) and twice that; RFC 4493's, section 4, where AES gives this L, and SP 800-38B's for its key of 256 bits
pub record Subkeys : Type 1 where
  pub of_zeros : (E : List ℕ → List ℕ) → (K1 E ≡ double (E (replicate 16 0))) × (K2 E ≡ double (double (E (replicate 16 0))))
  pub first : K1 (λ b. digits 16 0x7df76b0c1ab899b33e42f047b91b546f) ≡ digits 16 0xfbeed618357133667c85e08f7236a8de
  pub second : K2 (λ b. digits 16 0x7df76b0c1ab899b33e42f047b91b546f) ≡ digits 16 0xf7ddac306ae266ccf90bc11ee46d513b
  pub longer-first : K1 (λ b. digits 16 0xe568f68194cf76d6174d4cc04310a854) ≡ digits 16 0xcad1ed03299eedac2e9a99808621502f
  pub longer-second : K2 (λ b. digits 16 0xe568f68194cf76d6174d4cc04310a854) ≡ digits 16 0x95a3da06533ddb585d3533010c42a0d9

-- RFC 4493's figure 2.1, for any cipher E, any full blocks x, y, z, given as numbers, and any byte v
pub record Figure : Type 1 where
  -- the empty string is padded, with K2
  pub empty : (E : List ℕ → List ℕ) → CMAC E [] ≡ E (xors (xors (0x80 ∷ replicate 15 0) (K2 E)) (replicate 16 0))
  -- a part of a block too
  pub short : (E : List ℕ → List ℕ) (v : ℕ) → CMAC E (v ∷ []) ≡ E (xors (xors (v ∷ 0x80 ∷ replicate 14 0) (K2 E)) (replicate 16 0))
  -- a full block takes K1
  pub full : (E : List ℕ → List ℕ) (x : ℕ) → CMAC E (digits 16 x) ≡ E (xors (xors (digits 16 x) (K1 E)) (replicate 16 0))
  -- each block before the last is encrypted once
  pub three : (E : List ℕ → List ℕ) (x y z : ℕ) → CMAC E (digits 16 x ++ digits 16 y ++ digits 16 z)
      ≡ E (xors (xors (digits 16 z) (K1 E)) (E (xors (E (xors (replicate 16 0) (digits 16 x))) (digits 16 y))))
  pub more : (E : List ℕ → List ℕ) (x v : ℕ) → CMAC E (digits 16 x ++ (v ∷ []))
      ≡ E (xors (xors (v ∷ 0x80 ∷ replicate 14 0) (K2 E)) (E (xors (replicate 16 0) (digits 16 x))))

-- marks beside a code, of six bytes to be short: its start and the whole; another first, middle and last byte; bytes from within; one
-- more
pub record Starts : Type 0 where
  pub short : is_start (1 ∷ 2 ∷ 3 ∷ 4 ∷ []) (1 ∷ 2 ∷ 3 ∷ 4 ∷ 5 ∷ 6 ∷ []) ≡ true
  pub whole : is_start (1 ∷ 2 ∷ 3 ∷ 4 ∷ 5 ∷ 6 ∷ []) (1 ∷ 2 ∷ 3 ∷ 4 ∷ 5 ∷ 6 ∷ []) ≡ true
  pub other_first : is_start (0 ∷ 2 ∷ 3 ∷ 4 ∷ []) (1 ∷ 2 ∷ 3 ∷ 4 ∷ 5 ∷ 6 ∷ []) ≡ false
  pub other_middle : is_start (1 ∷ 2 ∷ 0 ∷ 4 ∷ []) (1 ∷ 2 ∷ 3 ∷ 4 ∷ 5 ∷ 6 ∷ []) ≡ false
  pub other_last : is_start (1 ∷ 2 ∷ 3 ∷ 0 ∷ []) (1 ∷ 2 ∷ 3 ∷ 4 ∷ 5 ∷ 6 ∷ []) ≡ false
  pub within : is_start (2 ∷ 3 ∷ 4 ∷ 5 ∷ []) (1 ∷ 2 ∷ 3 ∷ 4 ∷ 5 ∷ 6 ∷ []) ≡ false
  pub longer : is_start (1 ∷ 2 ∷ 3 ∷ 4 ∷ 5 ∷ 6 ∷ 7 ∷ []) (1 ∷ 2 ∷ 3 ∷ 4 ∷ 5 ∷ 6 ∷ []) ≡ false

-- the answer, then key, log, mark and room
abbrev pub make_calls : List (List ℕ)
make_calls =
    (0 ∷ 16 ∷ 0 ∷ 4 ∷ 4 ∷ [])
    ∷ (0 ∷ 24 ∷ 65536 ∷ 16 ∷ 16 ∷ [])
    ∷ (0 ∷ 32 ∷ 1 ∷ 8 ∷ 9 ∷ [])
    ∷ (2 ∷ 0 ∷ 0 ∷ 4 ∷ 4 ∷ [])
    ∷ (2 ∷ 15 ∷ 0 ∷ 4 ∷ 4 ∷ [])
    ∷ (2 ∷ 20 ∷ 0 ∷ 4 ∷ 4 ∷ [])
    ∷ (2 ∷ 33 ∷ 0 ∷ 4 ∷ 4 ∷ [])
    ∷ (5 ∷ 16 ∷ 65537 ∷ 4 ∷ 4 ∷ [])
    ∷ (14 ∷ 16 ∷ 0 ∷ 0 ∷ 4 ∷ [])
    ∷ (14 ∷ 16 ∷ 0 ∷ 3 ∷ 4 ∷ [])
    ∷ (14 ∷ 16 ∷ 0 ∷ 17 ∷ 17 ∷ [])
    ∷ (7 ∷ 16 ∷ 0 ∷ 4 ∷ 3 ∷ [])
    ∷ (7 ∷ 16 ∷ 65536 ∷ 16 ∷ 15 ∷ [])
    ∷ (2 ∷ 15 ∷ 65537 ∷ 17 ∷ 16 ∷ [])
    ∷ (5 ∷ 16 ∷ 65537 ∷ 17 ∷ 16 ∷ [])
    ∷ (14 ∷ 16 ∷ 65536 ∷ 17 ∷ 16 ∷ [])
    ∷ []

-- the same without the room: of a right mark, and of a wrong one
abbrev pub right_marks : List (List ℕ)
right_marks =
    (0 ∷ 16 ∷ 0 ∷ 4 ∷ [])
    ∷ (0 ∷ 24 ∷ 65536 ∷ 16 ∷ [])
    ∷ (0 ∷ 32 ∷ 1 ∷ 8 ∷ [])
    ∷ (2 ∷ 17 ∷ 0 ∷ 4 ∷ [])
    ∷ (5 ∷ 16 ∷ 65537 ∷ 4 ∷ [])
    ∷ (14 ∷ 16 ∷ 0 ∷ 0 ∷ [])
    ∷ (14 ∷ 16 ∷ 0 ∷ 3 ∷ [])
    ∷ (14 ∷ 16 ∷ 0 ∷ 17 ∷ [])
    ∷ []

abbrev pub wrong_marks : List (List ℕ)
wrong_marks =
    (8 ∷ 16 ∷ 0 ∷ 4 ∷ [])
    ∷ (8 ∷ 32 ∷ 65536 ∷ 16 ∷ [])
    ∷ (2 ∷ 15 ∷ 65537 ∷ 17 ∷ [])
    ∷ (5 ∷ 16 ∷ 65537 ∷ 17 ∷ [])
    ∷ (14 ∷ 16 ∷ 65536 ∷ 17 ∷ [])
    ∷ []

unfoldable pub makes_so : List (List ℕ) → Bool
makes_so [] = true
makes_so (c ∷ cs) = eqb (answer (make_rows (replicate (get_or c 1 0) 0) (get_or c 2 0) (get_or c 3 0) (get_or c 4 0))) (get_or c 0 0) && makes_so cs

unfoldable pub checks_so : Bool → List (List ℕ) → Bool
checks_so wrong [] = true
checks_so wrong (c ∷ cs) =
    eqb (answer (check_rows (replicate (get_or c 1 0) 0) (get_or c 2 0) (get_or c 3 0) wrong)) (get_or c 0 0) && checks_so wrong cs
