-- What a record `hold` asks for, from the values that the code reads in it.
-- Assumes nothing.
use mathlib.Core.Path.{◌≡◌, sym, ap}
use mathlib.Core.List.{List, map}
use Prim.Native.Nat.{ℕ, min}
use lib.ListN.{get_or, set}
use Rattle.script.specs.Records.{flag, part}
use Rattle.ledger.specs.declared.ledger.Heading as heading
use Rattle.ledger.specs.declared.ledger.Ledger as code
use Rattle.ledger.specs.Values.{heading_of, value_of}
use Rattle.ledger.proofs.HeadingLaws.{stored}
use Rattle.ledger_script.specs.Records.{held_with, held_by}

pub held_so : (l : code.Ledger) (r : List ℕ) (h : heading.Heading) {i : ℕ} → i ≡ min (get_or r 1 0) 7 → h.kept ≡ flag r 2 → h.sum ≡ part r 3 19 →
    held_with (value_of l) (map heading_of (set l.headings i h)) ≡ held_by (value_of l) r
held_so l r h e k s = rw (e, sym k, sym s) (ap (held_with (value_of l)) (stored l.headings _ h))
