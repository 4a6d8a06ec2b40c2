-- Example windows: which counters are repeats, and what recording one leaves.
-- Assumes nothing.
use Rattle.std.specs.Prelude.{Bool, true, false, cond, ◌&&◌, List, [], ◌∷◌, ℕ, ◌+◌, ◌-◌, ◌^◌, eqb, get_or}
use Rattle.window_rules.specs.Window.{Window, is_repeat, recorded}

abbrev at : Bool → ℕ → ℕ → Window
at begun highest marks = record { begun = begun; highest = highest; marks = marks }

-- the greatest counter, and the mark of the one that is 63 below the highest
abbrev greatest : ℕ
greatest = 2 ^ 64 - 1

abbrev oldest : ℕ
oldest = 2 ^ 63

-- as a number, 1 for yes
unfoldable pub said : Bool → ℕ → Bool
said b n = eqb (cond b 1 0) n

-- on windows that have begun: the answer, 1 for a repeat, then highest, marks and counter
abbrev pub repeats : List (List ℕ)
repeats =
    (1 ∷ 100 ∷ 1 ∷ 100 ∷ [])
    ∷ (0 ∷ 100 ∷ 1 ∷ 101 ∷ [])
    ∷ (0 ∷ 100 ∷ 1 ∷ 99 ∷ [])
    ∷ (0 ∷ 100 ∷ 1 ∷ 37 ∷ [])
    ∷ (1 ∷ 100 ∷ 1 ∷ 36 ∷ [])
    ∷ (1 ∷ 100 ∷ 1 ∷ 0 ∷ [])
    ∷ (1 ∷ 100 ∷ oldest ∷ 37 ∷ [])
    ∷ (0 ∷ 100 ∷ oldest ∷ 38 ∷ [])
    ∷ (0 ∷ 100 ∷ oldest ∷ 100 ∷ [])
    ∷ (1 ∷ 0 ∷ 1 ∷ 0 ∷ [])
    ∷ (0 ∷ 0 ∷ 1 ∷ 1 ∷ [])
    ∷ (1 ∷ greatest ∷ 1 ∷ 0 ∷ [])
    ∷ (0 ∷ (greatest - 1) ∷ 1 ∷ greatest ∷ [])
    ∷ []

unfoldable pub repeats_so : List (List ℕ) → Bool
repeats_so [] = true
repeats_so (c ∷ cs) = said (is_repeat (at true (get_or c 1 0) (get_or c 2 0)) (get_or c 3 0)) (get_or c 0 0) && repeats_so cs

-- on windows that have begun: highest and marks after the call, then those before it and the counter
abbrev pub recordings : List (List ℕ)
recordings =
    (101 ∷ 3 ∷ 100 ∷ 1 ∷ 101 ∷ [])
    ∷ (102 ∷ 5 ∷ 100 ∷ 1 ∷ 102 ∷ [])
    ∷ (163 ∷ (oldest + 1) ∷ 100 ∷ 1 ∷ 163 ∷ [])
    ∷ (164 ∷ 1 ∷ 100 ∷ 1 ∷ 164 ∷ [])
    ∷ (101 ∷ 3 ∷ 100 ∷ (oldest + 1) ∷ 101 ∷ [])
    ∷ (greatest ∷ 1 ∷ (greatest - 200) ∷ greatest ∷ greatest ∷ [])
    ∷ (100 ∷ 3 ∷ 100 ∷ 1 ∷ 99 ∷ [])
    ∷ (100 ∷ (oldest + 1) ∷ 100 ∷ 1 ∷ 37 ∷ [])
    ∷ (100 ∷ 7 ∷ 100 ∷ 5 ∷ 99 ∷ [])
    ∷ []

unfoldable pub records_so : List (List ℕ) → Bool
records_so [] = true
records_so (c ∷ cs) =
    let w = recorded (at true (get_or c 2 0) (get_or c 3 0)) (get_or c 4 0) in
    eqb w.highest (get_or c 0 0) && eqb w.marks (get_or c 1 0) && said w.begun 1 && records_so cs

-- where none was accepted, whatever the fields hold: highest, marks and counter; none is a repeat, and recording it leaves it alone
abbrev pub firsts : List (List ℕ)
firsts = (0 ∷ 0 ∷ 0 ∷ []) ∷ (100 ∷ greatest ∷ 100 ∷ []) ∷ (100 ∷ 1 ∷ 7 ∷ []) ∷ (0 ∷ 0 ∷ greatest ∷ []) ∷ []

unfoldable pub firsts_so : List (List ℕ) → Bool
firsts_so [] = true
firsts_so (c ∷ cs) =
    let w = at false (get_or c 0 0) (get_or c 1 0) in
    let k = get_or c 2 0 in
    said (is_repeat w k) 0 && said (recorded w k).begun 1 && eqb (recorded w k).highest k && eqb (recorded w k).marks 1 && firsts_so cs
