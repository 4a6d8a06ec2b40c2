-- The key ledger of document 01, with requests F-2 to F-4 of document 02: what a making, a sealing, a keeping and a carrying over answer,
-- the next ledger, and the output.
-- Assumes nothing.
use Rattle.std.specs.Prelude.{◌≡◌, Bool, true, false, cond, not, ◌&&◌, List, [], ◌∷◌, ◌++◌, ℕ, ◌+◌, ◌-◌, ◌^◌, eqb, ltb, leb}
use lib.ListN.{length, take, replicate, get_or}
use Rattle.octets.specs.Numbers.{number}
use Rattle.fips197.specs.Cipher.{cipher}
use Rattle.answers.specs.Rows.{Row, answer}
use Rattle.cba_mode.specs.Sets.{key_bytes, tag_bits, capacity}
use Rattle.cba_mode.specs.Data.{data_hash}
use Rattle.cba_mode.specs.Seal.{seal_with}
use Rattle.cba_mode.specs.Charge.{old_charge, charge}
use Rattle.cba_rules.specs.Checks.{set_tag, bad_set, bad_nonce, bad_start, long_data, key_rows, message_rows}
use Rattle.cba_rules.specs.Refusals.{sealing, seal_leaves}

-- what is kept under a name, document 02's heading: whether there is something, and the sum of the data
pub record Heading : Type 0 where
  pub kept : Bool
  pub sum : List ℕ

-- the set, the key with zeros after it up to 32 bytes, the number of the console that seals, the total of blocks charged, whether a
-- sealing or keeping with nothing to count is charged a block (document 02's heartbeat is such a sealing), whether a nonce was accepted
-- and the last that was, and what is kept under the eight names
pub record Ledger : Type 0 where
  pub set : ℕ
  pub key : List ℕ
  pub console : ℕ
  pub total : ℕ
  pub heartbeats : Bool
  pub begun : Bool
  pub last : List ℕ
  pub headings : List Heading

-- nothing under any name
abbrev pub no_headings : List Heading
no_headings = replicate 8 (record { kept = false; sum = replicate 16 0 })

-- no ledger: set 0, a key of zeros, console 0, total 0, the older charge, no nonce and no heading
abbrev pub no_ledger : Ledger
no_ledger =
    record {
      set = 0;
      key = replicate 32 0;
      console = 0;
      total = 0;
      heartbeats = false;
      begun = false;
      last = replicate 12 0;
      headings = no_headings;
    }

-- ---- making: 1, then 2

unfoldable pub make_rows : ℕ → ℕ → List Row
make_rows set key = key_rows set key

unfoldable pub make_answer : ℕ → List ℕ → ℕ
make_answer set key = answer (make_rows set (length key))

-- a fresh ledger, with the new charge or the older one: the key with zeros after it, total 0, no nonce and no heading
abbrev pub fresh : Bool → ℕ → List ℕ → ℕ → Ledger
fresh heartbeats set key console =
    record {
      set = set;
      key = key ++ replicate (32 - length key) 0;
      console = console;
      total = 0;
      heartbeats = heartbeats;
      begun = false;
      last = replicate 12 0;
      headings = no_headings;
    }

unfoldable pub made_ledger : ℕ → List ℕ → ℕ → Ledger
made_ledger set key console = cond (eqb (make_answer set key) 0) (fresh true set key console) no_ledger

-- ---- what the calls look at

-- the key's first bytes, as many as the set's key has
unfoldable pub key_of : Ledger → List ℕ
key_of l = take (key_bytes l.set) l.key

-- the number that a nonce begins with: its first two bytes, big-endian
unfoldable pub console_of : List ℕ → ℕ
console_of N = number (take 2 N)

-- 12, console: that is another number
abbrev pub bad_console : ℕ → List ℕ → Row
bad_console console N = bad_start console (console_of N)

-- the nonce's own checks: 3, 12
abbrev pub nonce_rows : ℕ → List ℕ → List Row
nonce_rows console N = bad_nonce (length N) ∷ bad_console console N ∷ []

-- 9: the nonce is not above the last accepted, as numbers of 96 bits
unfoldable pub stale : Ledger → List ℕ → Bool
stale l N = l.begun && leb (number N) (number l.last)

-- the charge for so many bytes of data and message, on a ledger that charges heartbeats or not
unfoldable pub charge_by : Bool → ℕ → ℕ → ℕ
charge_by heartbeats ad message = cond heartbeats (charge ad message) (old_charge ad message)

-- 10: total + charge above 2^b
unfoldable pub spent : Ledger → ℕ → Bool
spent l c = ltb (2 ^ capacity l.set) (l.total + c)

abbrev pub has_no_blocks : Bool → Row
has_no_blocks spent = record { number = 10; when = spent }

-- the ledger's own checks
abbrev pub own_rows : Bool → Bool → List Row
own_rows stale spent = record { number = 9; when = stale } ∷ has_no_blocks spent ∷ []

-- what there is under a name
unfoldable pub heading_at : Ledger → ℕ → Heading
heading_at l name = get_or l.headings name (record { kept = false; sum = [] })

-- a name is 0 to 7; a sealing asks for one with something kept
unfoldable pub is_heading_name : ℕ → Bool
is_heading_name name = ltb name 8

unfoldable pub is_kept : Ledger → ℕ → Bool
is_kept l name = is_heading_name name && (heading_at l name).kept

-- 13, name: not such a one
abbrev pub bad_name : Bool → Row
bad_name good = record { number = 13; when = not good }

-- ---- sealing with data that are given: 1, 3, 12, 4, 5, 7, 9, 10; by name: 1, 3, 12, 13, 5, 7, 9, 10

-- the associated data of a sealing: given, or those kept under a name
pub data Source : Type 0 where
  given : List ℕ → Source
  named : ℕ → Source

-- their check
unfoldable pub source_row : Ledger → Source → Row
source_row l (given A) = long_data (length A)
source_row l (named name) = bad_name (is_kept l name)

-- the charge, for a message of so many bytes: by name it is the message's alone
unfoldable pub seal_charge : Bool → Source → ℕ → ℕ
seal_charge heartbeats (given A) message = charge_by heartbeats (length A) message
seal_charge heartbeats (named name) message = charge_by heartbeats 0 message

-- in order; after the set, by its t
abbrev pub ledger_checks : ℕ → ℕ → List ℕ → Row → ℕ → ℕ → List Row
ledger_checks t console N source message out = nonce_rows console N ++ (source ∷ message_rows t message out)

unfoldable pub ledger_rows : Ledger → List ℕ → Source → ℕ → ℕ → List Row
ledger_rows l N S message out =
    bad_set l.set
    ∷ (ledger_checks (set_tag l.set) l.console N (source_row l S) message out
    ++ own_rows (stale l N) (spent l (seal_charge l.heartbeats S message)))

unfoldable pub ledger_answer : Ledger → List ℕ → Source → ℕ → ℕ → ℕ
ledger_answer l N S message out = answer (ledger_rows l N S message out)

-- a charge added and a nonce kept, all else as before
abbrev pub charged : Ledger → List ℕ → ℕ → Ledger
charged l N c =
    record {
      set = l.set;
      key = l.key;
      console = l.console;
      total = l.total + c;
      heartbeats = l.heartbeats;
      begun = true;
      last = N;
      headings = l.headings;
    }

-- the next ledger: accepted, charged; refused, as before
unfoldable pub next_ledger : Ledger → List ℕ → Source → ℕ → ℕ → Ledger
next_ledger l N S message out =
    cond (eqb (ledger_answer l N S message out) 0) (charged l N (seal_charge l.heartbeats S message)) l

-- what is written: with data that are given plain sealing's; by name ENC after its first step, T_A being the first t bytes of the sum
unfoldable pub ledger_sealing : Ledger → List ℕ → Source → List ℕ → List ℕ
ledger_sealing l N (given A) M = sealing l.set (key_of l) N A M
ledger_sealing l N (named name) M =
    seal_with (cipher (key_of l)) (tag_bits l.set) (capacity l.set) N (take (set_tag l.set) (heading_at l name).sum) M

-- the output: accepted, that and the bytes after it as before; refused, as before
unfoldable pub ledger_output : Ledger → List ℕ → Source → List ℕ → List ℕ → List ℕ
ledger_output l N S M out = seal_leaves (ledger_answer l N S (length M) (length out)) (ledger_sealing l N S M) out

-- what a sealing promises: its answer r, the next ledger l', and out', the output at exit
pub record LedgerCall (l : Ledger) (N : List ℕ) (S : Source) (M out : List ℕ) (r : ℕ) (l' : Ledger) (out' : List ℕ) : Type 0 where
  pub answer-is : r ≡ ledger_answer l N S (length M) (length out)
  pub next-is : l' ≡ next_ledger l N S (length M) (length out)
  pub output-is : out' ≡ ledger_output l N S M out

-- ---- keeping: 1, 13, 4, 10

-- the charge of data of so many bytes
abbrev pub keep_charge : Bool → ℕ → ℕ
keep_charge heartbeats ad = charge_by heartbeats ad 0

unfoldable pub keep_rows : Ledger → ℕ → ℕ → List Row
keep_rows l name ad =
    bad_set l.set ∷ bad_name (is_heading_name name) ∷ long_data ad ∷ has_no_blocks (spent l (keep_charge l.heartbeats ad)) ∷ []

unfoldable pub keep_answer : Ledger → ℕ → ℕ → ℕ
keep_answer l name ad = answer (keep_rows l name ad)

-- the data's sum H under the ledger's set and key, before the cut to τ bits
unfoldable pub sum_of : Ledger → List ℕ → List ℕ
sum_of l A = data_hash (cipher (key_of l)) (tag_bits l.set) (capacity l.set) A

-- a charge added and a sum kept under a name, all else as before
abbrev pub keeping : Ledger → ℕ → List ℕ → ℕ → Ledger
keeping l name sum blocks =
    record {
      set = l.set;
      key = l.key;
      console = l.console;
      total = l.total + blocks;
      heartbeats = l.heartbeats;
      begun = l.begun;
      last = l.last;
      headings = lib.ListN.set l.headings name (record { kept = true; sum = sum });
    }

-- the next ledger: accepted, the sum kept; refused, as before
unfoldable pub kept_ledger : Ledger → ℕ → List ℕ → Ledger
kept_ledger l name A =
    cond (eqb (keep_answer l name (length A)) 0) (keeping l name (sum_of l A) (keep_charge l.heartbeats (length A))) l

-- what a keeping promises: its answer r and the next ledger l'
pub record KeepCall (l : Ledger) (name : ℕ) (A : List ℕ) (r : ℕ) (l' : Ledger) : Type 0 where
  pub answer-is : r ≡ keep_answer l name (length A)
  pub next-is : l' ≡ kept_ledger l name A

-- ---- carrying an older ledger over: 1

unfoldable pub carry_rows : Ledger → List Row
carry_rows l = bad_set l.set ∷ []

unfoldable pub carry_answer : Ledger → ℕ
carry_answer l = answer (carry_rows l)

-- with the new charge or the older one, all else as before
abbrev pub with_charge : Bool → Ledger → Ledger
with_charge heartbeats l =
    record {
      set = l.set;
      key = l.key;
      console = l.console;
      total = l.total;
      heartbeats = heartbeats;
      begun = l.begun;
      last = l.last;
      headings = l.headings;
    }

-- the next ledger: accepted, with the new charge; refused, as before
unfoldable pub carried_ledger : Ledger → Ledger
carried_ledger l = cond (eqb (carry_answer l) 0) (with_charge true l) l

-- what a carrying promises: its answer r and the next ledger l'
pub record CarryCall (l : Ledger) (r : ℕ) (l' : Ledger) : Type 0 where
  pub answer-is : r ≡ carry_answer l
  pub next-is : l' ≡ carried_ledger l
