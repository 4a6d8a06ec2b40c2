-- The code's ledger as the definitions' one, field by field, and what its calls promise.
-- Assumes nothing.
use Rattle.std.specs.Prelude.{List, map, ℕ, Result, Ok, Err}
use Rattle.answers.specs.declared.refusals.Refusal.{Refusal}
use Rattle.answers.specs.Refusals.{number_of}
use Rattle.answers.specs.Rows.{answer, first_of}
use Rattle.cba_mode.specs.Sets.{tag_bytes}
use Rattle.cba_rules.specs.Checks.{message_rows}
use Rattle.cba_steps.specs.declared.parameters.Parameters.{Parameters}
use Rattle.ledger.specs.declared.ledger.Heading.{Heading}
use Rattle.ledger.specs.declared.ledger.Ledger.{Ledger}
use Rattle.ledger_rules.specs.Ledger.{nonce_rows, stale, charge_by, spent, own_rows, Source, LedgerCall, KeepCall, CarryCall}
use Rattle.ledger_rules.specs.Ledger.Source.{given, named}
use Rattle.ledger_rules.specs.Ledger as rules

abbrev pub heading_of : Heading → rules.Heading
heading_of h = record { kept = h.kept; sum = h.sum }

abbrev pub value_of : Ledger → rules.Ledger
value_of l =
    record {
      set = l.set;
      key = l.key;
      console = l.console;
      total = l.total;
      heartbeats = l.heartbeats;
      begun = l.begun;
      last = l.last;
      headings = map heading_of l.headings;
    }

-- the checks of a sealing after the set's and before the ledger's own, where its data are answered source
abbrev pub first_checks : ℕ → Parameters → List ℕ → ℕ → ℕ → ℕ → ℕ
first_checks console p N source message room =
    first_of (first_of (answer (nonce_rows console N)) source) (answer (message_rows (tag_bytes p.tau) message room))

-- and the ledger's own after them, where ad is the length that its data are charged for
abbrev pub all_checks : Ledger → Parameters → List ℕ → ℕ → ℕ → ℕ → ℕ → ℕ
all_checks l p N source ad message room =
    let own = own_rows (stale (value_of l) N) (spent (value_of l) (charge_by l.heartbeats ad message)) in
    first_of (first_checks l.console p N source message room) (answer own)

-- a sealing: its answer r, the next ledger l', and out', the output at exit
abbrev pub Ran : Ledger → List ℕ → List ℕ → List ℕ → List ℕ → ℕ → Ledger → List ℕ → Type 0
Ran l N A M out r l' out' = LedgerCall (value_of l) N (given A) M out r (value_of l') out'

-- a sealing by name
abbrev pub RanByName : Ledger → List ℕ → ℕ → List ℕ → List ℕ → ℕ → Ledger → List ℕ → Type 0
RanByName l N name M out r l' out' = LedgerCall (value_of l) N (named name) M out r (value_of l') out'

-- a keeping: its answer r and the next ledger l'
abbrev pub RanKeeping : Ledger → ℕ → List ℕ → ℕ → Ledger → Type 0
RanKeeping l name A r l' = KeepCall (value_of l) name A r (value_of l')

-- a carrying: its answer r and the next ledger l'
abbrev pub RanCarrying : Ledger → ℕ → Ledger → Type 0
RanCarrying l r l' = CarryCall (value_of l) r (value_of l')

-- ---- the same of the next ledger, or the refusal

-- the ledger after it: the next one, or as it was
abbrev pub after : Ledger → Result Ledger Refusal → Ledger
after l (Ok l') = l'
after l (Err r) = l

abbrev pub Tried : Ledger → List ℕ → Source → List ℕ → List ℕ → Result Ledger Refusal → List ℕ → Type 0
Tried l N S M out r out' = LedgerCall (value_of l) N S M out (number_of r) (value_of (after l r)) out'

abbrev pub TriedKeeping : Ledger → ℕ → List ℕ → Result Ledger Refusal → Type 0
TriedKeeping l name A r = KeepCall (value_of l) name A (number_of r) (value_of (after l r))
