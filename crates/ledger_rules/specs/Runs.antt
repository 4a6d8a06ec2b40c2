-- Lists of calls on one ledger, what is owed to the capacity, to the nonces and to sealings by name, and lists on two ledgers.
-- Assumes nothing.
use Rattle.std.specs.Prelude.{◌≡◌, Bool, true, false, cond, List, [], ◌∷◌, ◌++◌, ◌⊎◌, ℕ, zero, suc, ◌+◌, ◌^◌, ◌<◌, ◌≤◌, eqb, length, replicate}
use Rattle.std.proofs.Math.Option.{Option, none, some}
use Rattle.octets.specs.Numbers.{number, digits}
use Rattle.answers.specs.Rows.{Decides}
use Rattle.answers.specs.Calls.{Gave, InTurn, ByList}
use Rattle.cba_mode.specs.Sets.{is_set, key_bytes, capacity}
use Rattle.cba_rules.specs.Checks.{set_tag}
use Rattle.cba_rules.specs.Refusals.{SealCall}
use Rattle.ledger_rules.specs.Ledger.{Ledger, no_headings, make_rows, make_answer, fresh, made_ledger, key_of, console_of, is_kept, Source, seal_charge, ledger_rows, ledger_answer, next_ledger, ledger_output, LedgerCall, keep_charge, keep_rows, keep_answer, kept_ledger, KeepCall, carry_rows, carry_answer, with_charge, carried_ledger, CarryCall}
use Rattle.ledger_rules.specs.Ledger.Source.{given, named}
use Rattle.ledger_rules.specs.Examples.{LedgerExamples}

-- what one sealing is given
pub record Sealing : Type 0 where
  pub nonce : List ℕ
  pub source : Source
  pub message : List ℕ
  pub out : List ℕ

-- and one keeping
pub record Keeping : Type 0 where
  pub name : ℕ
  pub ad : List ℕ

-- a call on a ledger; a carrying over is given nothing
pub data Call : Type 0 where
  seals : Sealing → Call
  keeps : Keeping → Call
  carries : Call

unfoldable pub answer_on : Ledger → Call → ℕ
answer_on l (seals s) = ledger_answer l s.nonce s.source (length s.message) (length s.out)
answer_on l (keeps k) = keep_answer l k.name (length k.ad)
answer_on l carries = carry_answer l

-- the ledger after it
unfoldable pub after : Ledger → Call → Ledger
after l (seals s) = next_ledger l s.nonce s.source (length s.message) (length s.out)
after l (keeps k) = kept_ledger l k.name k.ad
after l carries = carried_ledger l

-- the output, at entry and at exit; a sealing alone has one
unfoldable pub out_of : Call → List ℕ
out_of (seals s) = s.out
out_of (keeps k) = []
out_of carries = []

unfoldable pub output_on : Ledger → Call → List ℕ
output_on l (seals s) = ledger_output l s.nonce s.source s.message s.out
output_on l (keeps k) = []
output_on l carries = []

-- what a call gives, and what its contract promises of it
abbrev pub gives : Ledger → Call → Gave Ledger
gives l c = record { answer = answer_on l c; next = after l c; out = output_on l c }

abbrev pub Promised : Ledger → Call → Gave Ledger → Type 0
Promised l (seals s) g = LedgerCall l s.nonce s.source s.message s.out g.answer g.next g.out
Promised l (keeps k) g = KeepCall l k.name k.ad g.answer g.next × (g.out ≡ [])
Promised l carries g = CarryCall l g.answer g.next × (g.out ≡ [])

-- what an accepted call charges, on a ledger that charges heartbeats or not
unfoldable pub charge_of : Bool → Call → ℕ
charge_of heartbeats (seals s) = seal_charge heartbeats s.source (length s.message)
charge_of heartbeats (keeps k) = keep_charge heartbeats (length k.ad)
charge_of heartbeats carries = 0

-- the ledger after a list of calls
unfoldable pub run : Ledger → List Call → Ledger
run l [] = l
run l (c ∷ cs) = run (after l c) cs

-- those of them that were accepted
unfoldable pub accepted : Ledger → List Call → List Call
accepted l [] = []
accepted l (c ∷ cs) = cond (eqb (answer_on l c) 0) (c ∷ accepted (after l c) cs) (accepted (after l c) cs)

-- the sum of their charges: of the older ones, or of the new ones
unfoldable pub charges : Bool → List Call → ℕ
charges heartbeats [] = 0
charges heartbeats (c ∷ cs) = charge_of heartbeats c + charges heartbeats cs

-- those before the first carrying among them, and those after it
unfoldable pub before_carrying : List Call → List Call
before_carrying [] = []
before_carrying (seals s ∷ cs) = seals s ∷ before_carrying cs
before_carrying (keeps k ∷ cs) = keeps k ∷ before_carrying cs
before_carrying (carries ∷ cs) = []

unfoldable pub since_carrying : List Call → List Call
since_carrying [] = []
since_carrying (seals s ∷ cs) = since_carrying cs
since_carrying (keeps k ∷ cs) = since_carrying cs
since_carrying (carries ∷ cs) = cs

-- there is none among them
abbrev pub NoCarrying : List Call → Type 0
NoCarrying [] = Unit {0}
NoCarrying (seals s ∷ cs) = NoCarrying cs
NoCarrying (keeps k ∷ cs) = NoCarrying cs
NoCarrying (carries ∷ cs) = ⊥

-- what they add to the total of a ledger that accepted them: up to the first carrying by the charge that it has, after it by the new one
abbrev pub added : Ledger → List Call → ℕ
added l cs = charges l.heartbeats (before_carrying cs) + charges true (since_carrying cs)

-- the nonces of the sealings among them, with data that are given and by name
unfoldable pub nonces : List Call → List (List ℕ)
nonces [] = []
nonces (seals s ∷ cs) = s.nonce ∷ nonces cs
nonces (keeps k ∷ cs) = nonces cs
nonces (carries ∷ cs) = nonces cs

-- the data of the last keeping under a name among them; those that were kept there before, where there is none
unfoldable pub last_kept : ℕ → Option (List ℕ) → List Call → Option (List ℕ)
last_kept name before [] = before
last_kept name before (seals s ∷ cs) = last_kept name before cs
last_kept name before (keeps k ∷ cs) = last_kept name (cond (eqb k.name name) (some k.ad) before) cs
last_kept name before (carries ∷ cs) = last_kept name before cs

unfoldable pub is_some : Option (List ℕ) → Bool
is_some none = false
is_some (some A) = true

-- as numbers each is above the one before it, the first above n
abbrev pub RisingFrom : ℕ → List (List ℕ) → Type 0
RisingFrom n [] = Unit {0}
RisingFrom n (N ∷ Ns) = (n < number N) × RisingFrom (number N) Ns

abbrev pub Rising : List (List ℕ) → Type 0
Rising [] = Unit {0}
Rising (N ∷ Ns) = RisingFrom (number N) Ns

-- a nonce is one of them
abbrev pub Among : List ℕ → List (List ℕ) → Type 0
Among N [] = ⊥
Among N (K ∷ Ns) = (N ≡ K) ⊎ Among N Ns

-- what a refused making gives: zeros in every field, no nonce and no heading
pub record Blank (l : Ledger) : Type 0 where
  pub set_is : l.set ≡ 0
  pub key-is : l.key ≡ replicate 32 0
  pub console-is : l.console ≡ 0
  pub total-is : l.total ≡ 0
  pub charge-is : l.heartbeats ≡ false
  pub begun-is : l.begun ≡ false
  pub last-is : l.last ≡ replicate 12 0
  pub headings-are : l.headings ≡ no_headings

-- two ledgers of one set, key and console
pub record SameMaking (l l' : Ledger) : Type 0 where
  pub set-stays : l'.set ≡ l.set
  pub key-stays : l'.key ≡ l.key
  pub console-stays : l'.console ≡ l.console

-- the data of a sealing are within the limit, or something is kept under their name
abbrev pub Good : Ledger → Source → Type 0
Good l (given A) = length A ≤ 4096
Good l (named name) = is_kept l name ≡ true

-- a sealing to which no check applies, in the documents' words
pub record Sealable (l : Ledger) (N : List ℕ) (S : Source) (message out : ℕ) : Type 0 where
  pub its_set : is_set l.set ≡ true
  pub nonce-length : length N ≡ 12
  pub begins : console_of N ≡ l.console
  pub source : Good l S
  pub limit : message ≤ 65536
  pub room : message + set_tag l.set ≤ out
  pub above-last : l.begun ≡ true → number l.last < number N
  pub within : l.total + seal_charge l.heartbeats S message ≤ 2 ^ capacity l.set

-- what a list of calls from l counts
pub record Counted (l : Ledger) (cs : List Call) : Type 0 where
  pub total : (run l cs).total ≡ added l (accepted l cs)
  pub most : (run l cs).total ≤ 2 ^ capacity l.set
  pub rising : Rising (nonces (accepted l cs))

-- a nonce of a console: its number in two bytes, then n in ten
abbrev pub nonce_of : ℕ → ℕ → List ℕ
nonce_of console n = digits 2 console ++ digits 10 n

-- n messages of one text under a console's nonces 1 to n
unfoldable pub repeated : ℕ → ℕ → List ℕ → List ℕ → List Call
repeated console zero M out = []
repeated console (suc n) M out =
    repeated console n M out ++ (seals (record { nonce = nonce_of console (suc n); source = given []; message = M; out = out }) ∷ [])

-- set 1 after them
abbrev pub filled : Bool → List ℕ → ℕ → ℕ → List ℕ → List ℕ → Ledger
filled heartbeats key console n M out = run (fresh heartbeats 1 key console) (repeated console n M out)

-- what the examples of the capacity are given: a console, a message of so many bytes and an output with room
pub record Filling (console message : ℕ) (M out : List ℕ) : Type 0 where
  pub console-number : console < 65536
  pub message-length : length M ≡ message
  pub out-room : message + 4 ≤ length out

-- what is owed to a sealing by name that is accepted after a list of calls from l: data were kept there, and its answer and output are
-- those of plain sealing with the data last kept there
pub record ByName (l : Ledger) (set : ℕ) (key : List ℕ) (cs : List Call) (name : ℕ) (N M out : List ℕ) : Type 0 where
  pub ad : List ℕ
  pub last-kept : last_kept name none (accepted l cs) ≡ some ad
  pub plain : SealCall set key N ad M out 0 (ledger_output (run l cs) N (named name) M out)

pub record LedgerTheorems : Type 0 where
  -- the tables of example calls, by computation
  pub examples : LedgerExamples
  -- a making, a sealing of either kind, a keeping and a carrying answer by their rows, on any ledger
  pub making : (set : ℕ) (key : List ℕ) → Decides (make_rows set (length key)) (make_answer set key)
  pub sealing : (l : Ledger) (N : List ℕ) (S : Source) (message out : ℕ) →
      Decides (ledger_rows l N S message out) (ledger_answer l N S message out)
  pub keeping : (l : Ledger) (name ad : ℕ) → Decides (keep_rows l name ad) (keep_answer l name ad)
  pub carrying : (l : Ledger) → Decides (carry_rows l) (carry_answer l)
  -- and each is accepted wherever the documents say: a making with a set and a key of its length; such a sealing; a keeping under one of
  -- eight names, of at most 4,096 bytes, that the capacity has room for; every carrying
  pub makes_where : (set : ℕ) (key : List ℕ) → is_set set ≡ true → length key ≡ key_bytes set → make_answer set key ≡ 0
  pub seals_where : (l : Ledger) (N : List ℕ) (S : Source) (message out : ℕ) → Sealable l N S message out →
      ledger_answer l N S message out ≡ 0
  pub keeps_where : (l : Ledger) (name ad : ℕ) → is_set l.set ≡ true → name < 8 → ad ≤ 4096 →
      l.total + keep_charge l.heartbeats ad ≤ 2 ^ capacity l.set → keep_answer l name ad ≡ 0
  pub carries_where : (l : Ledger) → is_set l.set ≡ true → carry_answer l ≡ 0
  -- a sealing with data that are given never answers 13
  pub not-name : (l : Ledger) (N A : List ℕ) (message out : ℕ) → ledger_answer l N (given A) message out ≡ 13 → ⊥
  -- a making that is not refused gives a fresh ledger with the new charge; a refused one has zeros in every field
  pub made : (set : ℕ) (key : List ℕ) (console : ℕ) → make_answer set key ≡ 0 → made_ledger set key console ≡ fresh true set key console
  pub unmade : (set : ℕ) (key : List ℕ) (console : ℕ) → (make_answer set key ≡ 0 → ⊥) → Blank (made_ledger set key console)
  -- along every list of calls, on any ledger, set, key and console stay
  pub same-making : (l : Ledger) (cs : List Call) → SameMaking l (run l cs)
  -- whoever makes the calls of a list one after the other, each as its contract promises, gets the answers and the outputs above, and has
  -- the ledger after the list
  pub calls : (l : Ledger) (cs : List Call) (gs : List (Gave Ledger)) → InTurn Promised l cs gs → ByList gives run l cs gs
  -- for every list of calls from a fresh ledger with either charge
  pub counted : (b : Bool) (set : ℕ) (key : List ℕ) (console : ℕ) (cs : List Call) → Counted (fresh b set key console) cs
  -- with the new charge the total is the sum of the new charges; with the older one, where no carrying was accepted, that of the old ones
  pub newer : (set : ℕ) (key : List ℕ) (console : ℕ) (cs : List Call) →
      (run (fresh true set key console) cs).total ≡ charges true (accepted (fresh true set key console) cs)
  pub older : (set : ℕ) (key : List ℕ) (console : ℕ) (cs : List Call) → NoCarrying (accepted (fresh false set key console) cs) →
      (run (fresh false set key console) cs).total ≡ charges false (accepted (fresh false set key console) cs)
  -- with the older one and one carrying among the accepted calls it is that of the old charges before plus the new charges after
  pub carried : (set : ℕ) (key : List ℕ) (console : ℕ) (cs before later : List Call) → NoCarrying before →
      accepted (fresh false set key console) cs ≡ before ++ (carries ∷ later) →
      (run (fresh false set key console) cs).total ≡ charges false before + charges true later
  -- the same by the list of calls: a carrying is accepted wherever there is a set, whatever came before it
  pub carried-at : (set : ℕ) (key : List ℕ) (console : ℕ) (before later : List Call) → is_set set ≡ true → NoCarrying before →
      let l = run (fresh false set key console) before in
      (run (fresh false set key console) (before ++ (carries ∷ later))).total
      ≡ charges false (accepted (fresh false set key console) before) + charges true (accepted (after l carries) later)
  -- a carrying, on any ledger, changes nothing but the charge; where it is accepted, that is then the new one
  pub only-charge : (l : Ledger) → with_charge l.heartbeats (after l carries) ≡ l
  pub new-charge : (l : Ledger) → carry_answer l ≡ 0 → (after l carries).heartbeats ≡ true
  -- the new charge stays along every list of calls, and where a ledger has it a carrying changes nothing
  pub stays : (l : Ledger) (cs : List Call) → l.heartbeats ≡ true → (run l cs).heartbeats ≡ true
  pub same : (l : Ledger) → l.heartbeats ≡ true → after l carries ≡ l
  -- so carrying again changes nothing, nor does carrying what a making gave
  pub again : (l : Ledger) → after (after l carries) carries ≡ after l carries
  pub made-carried : (set : ℕ) (key : List ℕ) (console : ℕ) → after (made_ledger set key console) carries ≡ made_ledger set key console
  -- an accepted sealing with data that are given, on any ledger, has the answer and the output of plain sealing under the ledger's set and
  -- key; in a ledger value the key has 32 bytes
  pub plain : (l : Ledger) (N A M out : List ℕ) → length l.key ≡ 32 → ledger_answer l N (given A) (length M) (length out) ≡ 0 →
      SealCall l.set (key_of l) N A M out 0 (ledger_output l N (given A) M out)
  -- after every list of calls from a fresh ledger it has those under the set and the key of the making
  pub by_value : (b : Bool) (set : ℕ) (key : List ℕ) (console : ℕ) (cs : List Call) (N A M out : List ℕ) → make_answer set key ≡ 0 →
      let l = run (fresh b set key console) cs in
      ledger_answer l N (given A) (length M) (length out) ≡ 0 → SealCall set key N A M out 0 (ledger_output l N (given A) M out)
  -- and an accepted sealing by name has those of plain sealing with the data last kept there
  pub by_name : (b : Bool) (set : ℕ) (key : List ℕ) (console : ℕ) (cs : List Call) (name : ℕ) (N M out : List ℕ) →
      make_answer set key ≡ 0 → ledger_answer (run (fresh b set key console) cs) N (named name) (length M) (length out) ≡ 0 →
      ByName (fresh b set key console) set key cs name N M out
  -- and in a sealing a name passes check 13 exactly where an accepted keeping was under it
  pub is-kept : (b : Bool) (set : ℕ) (key : List ℕ) (console : ℕ) (cs : List Call) (name : ℕ) →
      is_kept (run (fresh b set key console) cs) name ≡ is_some (last_kept name none (accepted (fresh b set key console) cs))
  -- a keeping, on any ledger, leaves the last nonce
  pub no-nonce : (l : Ledger) (k : Keeping) → ((after l (keeps k)).begun ≡ l.begun) × ((after l (keeps k)).last ≡ l.last)
  -- every refused call, on any ledger, changes neither the ledger nor the output
  pub refused : (l : Ledger) (c : Call) → (answer_on l c ≡ 0 → ⊥) → (after l c ≡ l) × (output_on l c ≡ out_of c)
  -- every nonce that a list of calls on any ledger accepts begins with the ledger's number
  pub begins : (l : Ledger) (cs : List Call) (N : List ℕ) → Among N (nonces (accepted l cs)) → console_of N ≡ l.console
  -- so for every two lists on any two ledgers of different numbers no nonce is accepted in both
  pub apart : (k l : Ledger) (cs ds : List Call) (N : List ℕ) → (k.console ≡ l.console → ⊥) →
      Among N (nonces (accepted k cs)) → Among N (nonces (accepted l ds)) → ⊥
  -- a fresh ledger never answers 9: it takes any nonce of 12 bytes that begins with its number
  pub not-stale : (b : Bool) (set : ℕ) (key : List ℕ) (console : ℕ) (N : List ℕ) (S : Source) (message out : ℕ) →
      ledger_answer (fresh b set key console) N S message out ≡ 9 → ⊥
  pub takes : (b : Bool) (set : ℕ) (key : List ℕ) (console : ℕ) (N A : List ℕ) (message out : ℕ) → make_answer set key ≡ 0 →
      length N ≡ 12 → console_of N ≡ console → length A ≤ 4096 → message ≤ 65536 → message + set_tag set ≤ out →
      ledger_answer (fresh b set key console) N (given A) message out ≡ 0
  -- on set 1 sixteen messages of 65,536 bytes fill the capacity, with either charge
  pub full : (b : Bool) (key : List ℕ) (console : ℕ) (M out : List ℕ) → Filling console 65536 M out →
      (filled b key console 16 M out).total ≡ 65536
  -- then one block more is refused; an empty sealing is accepted with the older charge and refused with the new one
  pub one-block-more : (b : Bool) (key : List ℕ) (console : ℕ) (M out : List ℕ) (room : ℕ) → Filling console 65536 M out → 5 ≤ room →
      ledger_answer (filled b key console 16 M out) (nonce_of console 17) (given []) 1 room ≡ 10
  pub nothing : (key : List ℕ) (console : ℕ) (M out : List ℕ) (room : ℕ) → Filling console 65536 M out → 4 ≤ room →
      ledger_answer (filled false key console 16 M out) (nonce_of console 17) (given []) 0 room ≡ 0
  pub heartbeat : (key : List ℕ) (console : ℕ) (M out : List ℕ) (room : ℕ) → Filling console 65536 M out → 4 ≤ room →
      ledger_answer (filled true key console 16 M out) (nonce_of console 17) (given []) 0 room ≡ 10
  -- with the new charge 65,536 empty sealings fill it, and the next is refused
  pub heartbeats_fill : (key : List ℕ) (console : ℕ) (M out : List ℕ) → Filling console 0 M out →
      (filled true key console 65536 M out).total ≡ 65536
  pub heartbeats_end : (key : List ℕ) (console : ℕ) (M out : List ℕ) (room : ℕ) → Filling console 0 M out → 4 ≤ room →
      ledger_answer (filled true key console 65536 M out) (nonce_of console 65537) (given []) 0 room ≡ 10
