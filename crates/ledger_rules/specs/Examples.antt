-- Example calls on a ledger: one fault each, then each with all that follow it, and the answer; calls with nothing to count, with either
-- charge; carryings.
-- Assumes nothing.
use Rattle.std.specs.Prelude.{◌≡◌, Bool, true, false, ◌&&◌, List, [], ◌∷◌, ◌++◌, ℕ, ◌-◌, eqb}
use lib.ListN.{get_or, take, replicate}
use Rattle.cba_rules.specs.Examples.{key_calls, keys_so}
use Rattle.ledger_rules.specs.Ledger.{Ledger, no_headings, make_rows, fresh, Source, ledger_answer, keep_answer, carry_answer}
use Rattle.ledger_rules.specs.Ledger.Source.{given, named}

-- a nonce of so many bytes: the first two and the last, zeros between
abbrev example_nonce : ℕ → ℕ → ℕ → ℕ → List ℕ
example_nonce n first second last = take n (first ∷ second ∷ (replicate (n - 3) 0 ++ (last ∷ [])))

-- a ledger with either charge, of a set, a console and a total, begun, whose last nonce is the number 1: the nonce of another console, but
-- for console 0; something is kept under the name 7
abbrev at : Bool → ℕ → ℕ → ℕ → Ledger
at heartbeats set console total =
    record {
      set = set;
      key = replicate 32 0;
      console = console;
      total = total;
      heartbeats = heartbeats;
      begun = true;
      last = example_nonce 12 0 0 1;
      headings = lib.ListN.set no_headings 7 (record { kept = true; sum = replicate 16 0 });
    }

-- with either charge: the answer, then set, console and total, the nonce's length, its first two bytes and its last, data, message and room
abbrev pub sealings : List (List ℕ)
sealings =
    (0 ∷ 1 ∷ 0 ∷ 61184 ∷ 12 ∷ 0 ∷ 0 ∷ 2 ∷ 4096 ∷ 65536 ∷ 65540 ∷ [])
    ∷ (0 ∷ 1 ∷ 258 ∷ 0 ∷ 12 ∷ 1 ∷ 2 ∷ 0 ∷ 0 ∷ 0 ∷ 4 ∷ [])
    ∷ (0 ∷ 1 ∷ 65535 ∷ 0 ∷ 12 ∷ 255 ∷ 255 ∷ 0 ∷ 0 ∷ 0 ∷ 4 ∷ [])
    ∷ (1 ∷ 0 ∷ 0 ∷ 0 ∷ 12 ∷ 0 ∷ 0 ∷ 2 ∷ 0 ∷ 0 ∷ 16 ∷ [])
    ∷ (1 ∷ 11 ∷ 0 ∷ 0 ∷ 12 ∷ 0 ∷ 0 ∷ 2 ∷ 0 ∷ 0 ∷ 16 ∷ [])
    ∷ (3 ∷ 1 ∷ 0 ∷ 0 ∷ 11 ∷ 0 ∷ 0 ∷ 2 ∷ 0 ∷ 0 ∷ 16 ∷ [])
    ∷ (3 ∷ 1 ∷ 0 ∷ 0 ∷ 13 ∷ 0 ∷ 0 ∷ 2 ∷ 0 ∷ 0 ∷ 16 ∷ [])
    ∷ (12 ∷ 1 ∷ 258 ∷ 0 ∷ 12 ∷ 2 ∷ 1 ∷ 2 ∷ 0 ∷ 0 ∷ 16 ∷ [])
    ∷ (12 ∷ 1 ∷ 0 ∷ 0 ∷ 12 ∷ 1 ∷ 0 ∷ 2 ∷ 0 ∷ 0 ∷ 16 ∷ [])
    ∷ (12 ∷ 1 ∷ 2 ∷ 0 ∷ 12 ∷ 0 ∷ 0 ∷ 2 ∷ 0 ∷ 0 ∷ 16 ∷ [])
    ∷ (4 ∷ 1 ∷ 0 ∷ 0 ∷ 12 ∷ 0 ∷ 0 ∷ 2 ∷ 4097 ∷ 0 ∷ 16 ∷ [])
    ∷ (5 ∷ 1 ∷ 0 ∷ 0 ∷ 12 ∷ 0 ∷ 0 ∷ 2 ∷ 0 ∷ 65537 ∷ 65541 ∷ [])
    ∷ (7 ∷ 1 ∷ 0 ∷ 0 ∷ 12 ∷ 0 ∷ 0 ∷ 2 ∷ 0 ∷ 1 ∷ 4 ∷ [])
    ∷ (9 ∷ 1 ∷ 0 ∷ 0 ∷ 12 ∷ 0 ∷ 0 ∷ 1 ∷ 0 ∷ 0 ∷ 16 ∷ [])
    ∷ (10 ∷ 1 ∷ 0 ∷ 65536 ∷ 12 ∷ 0 ∷ 0 ∷ 2 ∷ 0 ∷ 1 ∷ 16 ∷ [])
    ∷ (10 ∷ 1 ∷ 0 ∷ 65535 ∷ 12 ∷ 0 ∷ 0 ∷ 2 ∷ 1 ∷ 1 ∷ 16 ∷ [])
    ∷ (1 ∷ 0 ∷ 1 ∷ 65536 ∷ 11 ∷ 0 ∷ 0 ∷ 1 ∷ 4097 ∷ 65537 ∷ 0 ∷ [])
    ∷ (3 ∷ 1 ∷ 1 ∷ 65536 ∷ 11 ∷ 0 ∷ 0 ∷ 1 ∷ 4097 ∷ 65537 ∷ 0 ∷ [])
    ∷ (12 ∷ 1 ∷ 1 ∷ 65536 ∷ 12 ∷ 0 ∷ 0 ∷ 1 ∷ 4097 ∷ 65537 ∷ 0 ∷ [])
    ∷ (4 ∷ 1 ∷ 0 ∷ 65536 ∷ 12 ∷ 0 ∷ 0 ∷ 1 ∷ 4097 ∷ 65537 ∷ 0 ∷ [])
    ∷ (5 ∷ 1 ∷ 0 ∷ 65536 ∷ 12 ∷ 0 ∷ 0 ∷ 1 ∷ 4096 ∷ 65537 ∷ 0 ∷ [])
    ∷ (7 ∷ 1 ∷ 0 ∷ 65536 ∷ 12 ∷ 0 ∷ 0 ∷ 1 ∷ 4096 ∷ 65536 ∷ 0 ∷ [])
    ∷ (9 ∷ 1 ∷ 0 ∷ 65536 ∷ 12 ∷ 0 ∷ 0 ∷ 1 ∷ 4096 ∷ 65536 ∷ 65540 ∷ [])
    ∷ []

-- by name, with the name in place of the data
abbrev pub namings : List (List ℕ)
namings =
    (0 ∷ 1 ∷ 0 ∷ 61440 ∷ 12 ∷ 0 ∷ 0 ∷ 2 ∷ 7 ∷ 65536 ∷ 65540 ∷ [])
    ∷ (13 ∷ 1 ∷ 0 ∷ 0 ∷ 12 ∷ 0 ∷ 0 ∷ 2 ∷ 0 ∷ 0 ∷ 16 ∷ [])
    ∷ (13 ∷ 1 ∷ 0 ∷ 0 ∷ 12 ∷ 0 ∷ 0 ∷ 2 ∷ 8 ∷ 0 ∷ 16 ∷ [])
    ∷ (13 ∷ 1 ∷ 0 ∷ 0 ∷ 12 ∷ 0 ∷ 0 ∷ 2 ∷ 4294967295 ∷ 0 ∷ 16 ∷ [])
    ∷ (10 ∷ 1 ∷ 0 ∷ 65535 ∷ 12 ∷ 0 ∷ 0 ∷ 2 ∷ 7 ∷ 17 ∷ 21 ∷ [])
    ∷ (1 ∷ 0 ∷ 1 ∷ 65536 ∷ 11 ∷ 0 ∷ 0 ∷ 1 ∷ 8 ∷ 65537 ∷ 0 ∷ [])
    ∷ (3 ∷ 1 ∷ 1 ∷ 65536 ∷ 11 ∷ 0 ∷ 0 ∷ 1 ∷ 8 ∷ 65537 ∷ 0 ∷ [])
    ∷ (12 ∷ 1 ∷ 1 ∷ 65536 ∷ 12 ∷ 0 ∷ 0 ∷ 1 ∷ 8 ∷ 65537 ∷ 0 ∷ [])
    ∷ (13 ∷ 1 ∷ 0 ∷ 65536 ∷ 12 ∷ 0 ∷ 0 ∷ 1 ∷ 6 ∷ 65537 ∷ 0 ∷ [])
    ∷ (5 ∷ 1 ∷ 0 ∷ 65536 ∷ 12 ∷ 0 ∷ 0 ∷ 1 ∷ 7 ∷ 65537 ∷ 0 ∷ [])
    ∷ (7 ∷ 1 ∷ 0 ∷ 65536 ∷ 12 ∷ 0 ∷ 0 ∷ 1 ∷ 7 ∷ 65536 ∷ 0 ∷ [])
    ∷ (9 ∷ 1 ∷ 0 ∷ 65536 ∷ 12 ∷ 0 ∷ 0 ∷ 1 ∷ 7 ∷ 65536 ∷ 65540 ∷ [])
    ∷ []

unfoldable pub seals_so : Bool → (ℕ → Source) → List (List ℕ) → Bool
seals_so heartbeats source [] = true
seals_so heartbeats source (c ∷ cs) =
    let l = at heartbeats (get_or c 1 0) (get_or c 2 0) (get_or c 3 0) in
    let N = example_nonce (get_or c 4 0) (get_or c 5 0) (get_or c 6 0) (get_or c 7 0) in
    eqb (ledger_answer l N (source (get_or c 8 0)) (get_or c 9 0) (get_or c 10 0)) (get_or c 0 0) && seals_so heartbeats source cs

-- the first on a fresh ledger: the answer, then set, data, message and room
abbrev pub firsts : List (List ℕ)
firsts = (0 ∷ 1 ∷ 4096 ∷ 65536 ∷ 65540 ∷ []) ∷ (0 ∷ 1 ∷ 0 ∷ 0 ∷ 4 ∷ []) ∷ (0 ∷ 10 ∷ 0 ∷ 0 ∷ 12 ∷ []) ∷ (7 ∷ 10 ∷ 0 ∷ 0 ∷ 11 ∷ []) ∷ []

unfoldable pub firsts_so : Bool → List (List ℕ) → Bool
firsts_so heartbeats [] = true
firsts_so heartbeats (c ∷ cs) =
    let l = fresh heartbeats (get_or c 1 0) [] 0 in
    eqb (ledger_answer l (example_nonce 12 0 0 0) (given (replicate (get_or c 2 0) 0)) (get_or c 3 0) (get_or c 4 0)) (get_or c 0 0) && firsts_so heartbeats cs

-- data of so many bytes
abbrev pub zeros : ℕ → Source
zeros n = given (replicate n 0)

-- the answer, then set and total, name and data
abbrev pub keepings : List (List ℕ)
keepings =
    (0 ∷ 1 ∷ 65280 ∷ 0 ∷ 4096 ∷ [])
    ∷ (0 ∷ 10 ∷ 65536 ∷ 7 ∷ 1 ∷ [])
    ∷ (1 ∷ 0 ∷ 0 ∷ 0 ∷ 0 ∷ [])
    ∷ (13 ∷ 1 ∷ 0 ∷ 8 ∷ 0 ∷ [])
    ∷ (13 ∷ 1 ∷ 0 ∷ 4294967295 ∷ 0 ∷ [])
    ∷ (4 ∷ 1 ∷ 0 ∷ 0 ∷ 4097 ∷ [])
    ∷ (10 ∷ 1 ∷ 65536 ∷ 0 ∷ 1 ∷ [])
    ∷ (10 ∷ 1 ∷ 65535 ∷ 0 ∷ 17 ∷ [])
    ∷ (1 ∷ 11 ∷ 65536 ∷ 8 ∷ 4097 ∷ [])
    ∷ (13 ∷ 1 ∷ 65536 ∷ 8 ∷ 4097 ∷ [])
    ∷ (4 ∷ 1 ∷ 65536 ∷ 7 ∷ 4097 ∷ [])
    ∷ []

unfoldable pub keeps_so : Bool → List (List ℕ) → Bool
keeps_so heartbeats [] = true
keeps_so heartbeats (c ∷ cs) =
    eqb (keep_answer (at heartbeats (get_or c 1 0) 0 (get_or c 2 0)) (get_or c 3 0) (get_or c 4 0)) (get_or c 0 0) && keeps_so heartbeats cs

-- calls of set 1 with nothing to count: the total, then the answer with the older charge and the answer with the new one
abbrev pub empties : List (List ℕ)
empties = (65535 ∷ 0 ∷ 0 ∷ []) ∷ (65536 ∷ 0 ∷ 10 ∷ []) ∷ (65537 ∷ 10 ∷ 10 ∷ []) ∷ []

-- a sealing of each kind and a keeping answer a
abbrev answer_so : Ledger → ℕ → Bool
answer_so l a =
    let N = example_nonce 12 0 0 2 in
    eqb (ledger_answer l N (given []) 0 4) a && eqb (ledger_answer l N (named 7) 0 4) a && eqb (keep_answer l 7 0) a

unfoldable pub empties_so : List (List ℕ) → Bool
empties_so [] = true
empties_so (c ∷ cs) =
    answer_so (at false 1 0 (get_or c 0 0)) (get_or c 1 0) && answer_so (at true 1 0 (get_or c 0 0)) (get_or c 2 0) && empties_so cs

-- carryings: the answer, then set and total; a full ledger is carried too, and one that is over-full
abbrev pub carryings : List (List ℕ)
carryings =
    (0 ∷ 1 ∷ 0 ∷ [])
    ∷ (0 ∷ 10 ∷ 0 ∷ [])
    ∷ (0 ∷ 1 ∷ 1 ∷ [])
    ∷ (0 ∷ 1 ∷ 65536 ∷ [])
    ∷ (0 ∷ 1 ∷ 18446744073709551615 ∷ [])
    ∷ (1 ∷ 0 ∷ 0 ∷ [])
    ∷ (1 ∷ 11 ∷ 0 ∷ [])
    ∷ (1 ∷ 4294967295 ∷ 65536 ∷ [])
    ∷ []

unfoldable pub carries_so : Bool → List (List ℕ) → Bool
carries_so heartbeats [] = true
carries_so heartbeats (c ∷ cs) = eqb (carry_answer (at heartbeats (get_or c 1 0) 0 (get_or c 2 0))) (get_or c 0 0) && carries_so heartbeats cs

pub record LedgerExamples : Type 0 where
  pub makings_so : keys_so make_rows key_calls ≡ true
  pub firsts-so : (b : Bool) → firsts_so b firsts ≡ true
  pub sealings_so : (b : Bool) → seals_so b zeros sealings ≡ true
  pub namings_so : (b : Bool) → seals_so b named namings ≡ true
  pub keepings_so : (b : Bool) → keeps_so b keepings ≡ true
  pub empties-so : empties_so empties ≡ true
  pub carryings_so : (b : Bool) → carries_so b carryings ≡ true
