-- Example calls: one fault each, then each fault with all that follow it, by lengths alone, and the answer. A wrong row, or a wrong order, shows here.
-- Assumes nothing.
use Rattle.std.specs.Prelude.{Bool, true, ◌&&◌, List, [], ◌∷◌, ℕ, eqb, get_or}
use Rattle.answers.specs.Rows.{Row, answer}
use Rattle.cba_rules.specs.Checks.{seal_rows, open_rows}

-- the answer, then set, key, nonce, data, message and room
abbrev pub seal_calls : List (List ℕ)
seal_calls =
    (0 ∷ 1 ∷ 16 ∷ 12 ∷ 4096 ∷ 65536 ∷ 65540 ∷ [])
    ∷ (0 ∷ 9 ∷ 24 ∷ 12 ∷ 0 ∷ 0 ∷ 8 ∷ [])
    ∷ (0 ∷ 10 ∷ 32 ∷ 12 ∷ 0 ∷ 1 ∷ 13 ∷ [])
    ∷ (1 ∷ 0 ∷ 16 ∷ 12 ∷ 0 ∷ 0 ∷ 16 ∷ [])
    ∷ (1 ∷ 11 ∷ 16 ∷ 12 ∷ 0 ∷ 0 ∷ 16 ∷ [])
    ∷ (2 ∷ 1 ∷ 15 ∷ 12 ∷ 0 ∷ 0 ∷ 16 ∷ [])
    ∷ (2 ∷ 9 ∷ 32 ∷ 12 ∷ 0 ∷ 0 ∷ 16 ∷ [])
    ∷ (3 ∷ 1 ∷ 16 ∷ 11 ∷ 0 ∷ 0 ∷ 16 ∷ [])
    ∷ (3 ∷ 1 ∷ 16 ∷ 13 ∷ 0 ∷ 0 ∷ 16 ∷ [])
    ∷ (4 ∷ 1 ∷ 16 ∷ 12 ∷ 4097 ∷ 0 ∷ 16 ∷ [])
    ∷ (5 ∷ 1 ∷ 16 ∷ 12 ∷ 0 ∷ 65537 ∷ 65541 ∷ [])
    ∷ (7 ∷ 1 ∷ 16 ∷ 12 ∷ 0 ∷ 1 ∷ 4 ∷ [])
    ∷ (1 ∷ 0 ∷ 15 ∷ 11 ∷ 4097 ∷ 65537 ∷ 0 ∷ [])
    ∷ (2 ∷ 1 ∷ 15 ∷ 11 ∷ 4097 ∷ 65537 ∷ 0 ∷ [])
    ∷ (3 ∷ 1 ∷ 16 ∷ 11 ∷ 4097 ∷ 65537 ∷ 0 ∷ [])
    ∷ (4 ∷ 1 ∷ 16 ∷ 12 ∷ 4097 ∷ 65537 ∷ 0 ∷ [])
    ∷ (5 ∷ 1 ∷ 16 ∷ 12 ∷ 4096 ∷ 65537 ∷ 0 ∷ [])
    ∷ []

-- the answer, then set and key
abbrev pub key_calls : List (List ℕ)
key_calls =
    (0 ∷ 1 ∷ 16 ∷ [])
    ∷ (0 ∷ 9 ∷ 24 ∷ [])
    ∷ (0 ∷ 10 ∷ 32 ∷ [])
    ∷ (1 ∷ 0 ∷ 16 ∷ [])
    ∷ (1 ∷ 11 ∷ 0 ∷ [])
    ∷ (2 ∷ 1 ∷ 15 ∷ [])
    ∷ (2 ∷ 9 ∷ 32 ∷ [])
    ∷ []

-- by the rows of a call that is given no more
unfoldable pub keys_so : (ℕ → ℕ → List Row) → List (List ℕ) → Bool
keys_so rows [] = true
keys_so rows (c ∷ cs) = eqb (answer (rows (get_or c 1 0) (get_or c 2 0))) (get_or c 0 0) && keys_so rows cs

-- sealing's again with a ciphertext, where a message seals to it
abbrev pub open_calls : List (List ℕ)
open_calls =
    (0 ∷ 1 ∷ 16 ∷ 12 ∷ 4096 ∷ 65540 ∷ 65536 ∷ [])
    ∷ (0 ∷ 9 ∷ 24 ∷ 12 ∷ 0 ∷ 8 ∷ 0 ∷ [])
    ∷ (0 ∷ 10 ∷ 32 ∷ 12 ∷ 0 ∷ 13 ∷ 1 ∷ [])
    ∷ (1 ∷ 0 ∷ 16 ∷ 12 ∷ 0 ∷ 16 ∷ 16 ∷ [])
    ∷ (1 ∷ 11 ∷ 16 ∷ 12 ∷ 0 ∷ 16 ∷ 16 ∷ [])
    ∷ (2 ∷ 1 ∷ 17 ∷ 12 ∷ 0 ∷ 16 ∷ 16 ∷ [])
    ∷ (3 ∷ 1 ∷ 16 ∷ 0 ∷ 0 ∷ 16 ∷ 16 ∷ [])
    ∷ (4 ∷ 1 ∷ 16 ∷ 12 ∷ 4097 ∷ 16 ∷ 16 ∷ [])
    ∷ (5 ∷ 1 ∷ 16 ∷ 12 ∷ 0 ∷ 65541 ∷ 65537 ∷ [])
    ∷ (6 ∷ 1 ∷ 16 ∷ 12 ∷ 0 ∷ 3 ∷ 16 ∷ [])
    ∷ (7 ∷ 1 ∷ 16 ∷ 12 ∷ 0 ∷ 16 ∷ 11 ∷ [])
    ∷ []

-- and where none does
abbrev pub false_calls : List (List ℕ)
false_calls =
    (8 ∷ 1 ∷ 16 ∷ 12 ∷ 0 ∷ 4 ∷ 0 ∷ [])
    ∷ (1 ∷ 0 ∷ 15 ∷ 11 ∷ 4097 ∷ 65541 ∷ 0 ∷ [])
    ∷ (2 ∷ 1 ∷ 15 ∷ 11 ∷ 4097 ∷ 65541 ∷ 0 ∷ [])
    ∷ (3 ∷ 1 ∷ 16 ∷ 11 ∷ 4097 ∷ 65541 ∷ 0 ∷ [])
    ∷ (4 ∷ 1 ∷ 16 ∷ 12 ∷ 4097 ∷ 65541 ∷ 0 ∷ [])
    ∷ (5 ∷ 1 ∷ 16 ∷ 12 ∷ 4096 ∷ 65541 ∷ 0 ∷ [])
    ∷ (6 ∷ 1 ∷ 16 ∷ 12 ∷ 4096 ∷ 3 ∷ 0 ∷ [])
    ∷ (7 ∷ 1 ∷ 16 ∷ 12 ∷ 4096 ∷ 65540 ∷ 0 ∷ [])
    ∷ []

unfoldable pub seals_so : List (List ℕ) → Bool
seals_so [] = true
seals_so (c ∷ cs) =
    eqb (answer (seal_rows (get_or c 1 0) (get_or c 2 0) (get_or c 3 0) (get_or c 4 0) (get_or c 5 0) (get_or c 6 0))) (get_or c 0 0) && seals_so cs

unfoldable pub opens_so : Bool → List (List ℕ) → Bool
opens_so no-message [] = true
opens_so no-message (c ∷ cs) =
    eqb (answer (open_rows (get_or c 1 0) (get_or c 2 0) (get_or c 3 0) (get_or c 4 0) (get_or c 5 0) (get_or c 6 0) no-message)) (get_or c 0 0)
    && opens_so no-message cs
