-- The records of a script: the ledger that each of them asks for. A record is a string of 64 bytes; the head of src/main.rt says what
-- stands where.
-- Assumes nothing.
use Rattle.std.specs.Prelude.{List, ℕ, ◌+◌, min, get_or, set}
use Rattle.script.specs.Strings.{filled}
use Rattle.script.specs.Records.{two, four, eight, flag, part}
use Rattle.ledger_rules.specs.Ledger.{Heading, Ledger, no_headings, made_ledger, next_ledger, kept_ledger}
use Rattle.ledger_rules.specs.Ledger.Source.{given, named}

-- make
abbrev pub made_by : List ℕ → Ledger
made_by r = made_ledger (four r 1) (part r 8 (8 + min (get_or r 7 0) 56)) (two r 5)

-- put
abbrev pub put_by : List ℕ → Ledger
put_by r =
    record {
      set = four r 1;
      key = part r 5 37;
      console = two r 37;
      total = eight r 39;
      heartbeats = flag r 60;
      begun = flag r 47;
      last = part r 48 60;
      headings = no_headings;
    }

-- hold: these headings in the place of its own
abbrev pub held_with : Ledger → List Heading → Ledger
held_with l hs =
    record {
      set = l.set;
      key = l.key;
      console = l.console;
      total = l.total;
      heartbeats = l.heartbeats;
      begun = l.begun;
      last = l.last;
      headings = hs;
    }

abbrev pub held_by : Ledger → List ℕ → Ledger
held_by l r = held_with l (set l.headings (min (get_or r 1 0) 7) (record { kept = flag r 2; sum = part r 3 19 }))

-- keep, with data of n bytes
abbrev pub kept_by : Ledger → List ℕ → ℕ → Ledger
kept_by l r n = kept_ledger l (four r 1) (filled (get_or r 8 0) n)

-- seal and lent, with data, message and output of so many bytes
abbrev pub sealed_by : Ledger → List ℕ → ℕ → ℕ → ℕ → Ledger
sealed_by l r ad message out = next_ledger l (part r 13 (13 + min (get_or r 1 0) 51)) (given (filled (get_or r 11 0) ad)) message out

-- name
abbrev pub named_by : Ledger → List ℕ → ℕ → ℕ → Ledger
named_by l r message out = next_ledger l (part r 13 (13 + min (get_or r 5 0) 51)) (named (four r 1)) message out
