-- Making and checking the mark of a log: document 02, F-5. What each call answers and leaves, over all inputs.
-- Assumes nothing.
use Rattle.std.specs.Prelude.{◌≡◌, Bool, cond, not, ◌&&◌, List, [], ◌∷◌, ◌++◌, ℕ, eqb, leb, length, take}
use Rattle.octets.specs.Strings.{over, eqs}
use Rattle.answers.specs.Rows.{Row, answer}
use Rattle.fips197.specs.Schedule.{is_key}
use Rattle.cba_rules.specs.Checks.{long_text, no_room, forged}
use Rattle.cmac_rules.specs.Cmac.{cmac, mark}

-- 2, key: not of 16, 24 or 32 bytes
abbrev pub bad_aes_key : List ℕ → Row
bad_aes_key key = record { number = 2; when = not (is_key key) }

-- 14, mark: a length outside 4 to 16
abbrev pub bad_mark : ℕ → Row
bad_mark n = record { number = 14; when = not (leb 4 n && leb n 16) }

-- what both calls begin with: 2, 5, 14
abbrev pub mark_rows : List ℕ → ℕ → ℕ → List Row
mark_rows key log n = bad_aes_key key ∷ long_text 65536 log ∷ bad_mark n ∷ []

-- making: then 7
abbrev pub make_rows : List ℕ → ℕ → ℕ → ℕ → List Row
make_rows key log n out = mark_rows key log n ++ (no_room n out ∷ [])

-- checking: then 8
abbrev pub check_rows : List ℕ → ℕ → ℕ → Bool → List Row
check_rows key log n wrong = mark_rows key log n ++ (forged wrong ∷ [])

unfoldable pub make_answer : List ℕ → List ℕ → ℕ → List ℕ → ℕ
make_answer key log n out = answer (make_rows key (length log) n (length out))

-- accepted, the mark over the first bytes and the bytes after it as before; refused, as before
unfoldable pub make_output : List ℕ → List ℕ → ℕ → List ℕ → List ℕ
make_output key log n out = cond (eqb (make_answer key log n out) 0) (over (mark key log n) out) out

-- m is the start of t, of m's own length
unfoldable pub is_start : List ℕ → List ℕ → Bool
is_start m t = eqs m (take (length m) t)

-- m is not the start of the log's code
unfoldable pub is_wrong : List ℕ → List ℕ → List ℕ → Bool
is_wrong key log m = not (is_start m (cmac key log))

unfoldable pub check_answer : List ℕ → List ℕ → List ℕ → ℕ
check_answer key log m = answer (check_rows key (length log) (length m) (is_wrong key log m))

-- what a making promises: its answer r, and out', the output at exit, out being the output at entry
abbrev pub MakeCall : List ℕ → List ℕ → ℕ → List ℕ → ℕ → List ℕ → Type 0
MakeCall key log n out r out' = (r ≡ make_answer key log n out) × (out' ≡ make_output key log n out)

-- and a checking: its answer alone, for it has no output
abbrev pub CheckCall : List ℕ → List ℕ → List ℕ → ℕ → Type 0
CheckCall key log m r = r ≡ check_answer key log m
