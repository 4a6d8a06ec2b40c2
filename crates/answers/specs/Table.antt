-- All answers: document 01's table, and those that document 02's requests add. Each keeps its number for ever.
-- Assumes nothing.
use Rattle.std.specs.Prelude.{List, [], ◌∷◌, ℕ}
use Prim.Native.String.{String}

pub record Entry : Type 0 where
  pub number : ℕ
  pub word : String
  pub when : String

abbrev entry : ℕ → String → String → Entry
entry n w c = record { number = n; word = w; when = c }

-- the numbers of a table
unfoldable pub numbers_of : List Entry → List ℕ
numbers_of [] = []
numbers_of (e ∷ es) = e.number ∷ numbers_of es

abbrev pub table : List Entry
table =
    entry 0 "accepted" "no check applies"
    ∷ entry 1 "set" "not 1 to 10"
    ∷ entry 2 "key" "length not the set's; of a mark, not 16, 24 or 32"
    ∷ entry 3 "nonce" "length not 12"
    ∷ entry 4 "data" "over 4,096 bytes"
    ∷ entry 5 "text" "message or log over 65,536 bytes, or ciphertext over 65,536 + t"
    ∷ entry 6 "stub" "ciphertext under t bytes"
    ∷ entry 7 "buffer" "output shorter than the result's length"
    ∷ entry 8 "false" "no message seals to this ciphertext, or the mark is not the log's"
    ∷ entry 9 "stale" "ledger: nonce not above the last accepted"
    ∷ entry 10 "spent" "ledger: total + charge above 2^b"
    ∷ entry 11 "line" "program: malformed line"
    ∷ entry 12 "console" "the nonce begins with another number than the ledger's, two bytes, or the receiver's, four"
    ∷ entry 13 "name" "ledger: a name above 7 or, in a sealing, one with nothing kept"
    ∷ entry 14 "mark" "the mark's length outside 4 to 16"
    ∷ entry 15 "repeat" "receiver: a counter accepted before, or 64 or more below the highest"
    ∷ []
