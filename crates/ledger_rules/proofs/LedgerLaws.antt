-- What a making, a sealing of either kind, a keeping and a carrying on a ledger answer, and what they leave.
-- Assumes nothing.
use mathlib.Core.Path.{◌≡◌, refl, sym, ap, ap₂, subst, ◌∙◌}
use mathlib.Core.Bool.{Bool, true, false, not, ◌&&◌, false≢true}
use mathlib.Core.List.{List, [], ◌∷◌, ◌++◌}
use Prim.Native.Nat.{ℕ, ◌+◌, ◌^◌, ◌<◌, ◌≤◌}
use native.Mathlib.Omega.{arith}
use borrow.Author.Tests.{eqb-true, eqb-false, ne_eqb, ltb-false, le-ltb, lt-ltb, lt-leb}
use lib.Dec.{eqb, leb}
use lib.ListN.{length, take}
use lib.Pow.{pow-lt, pow_mono}
use lib.Seq.{length-take-le}
use Rattle.octets.specs.Numbers.{number}
use Rattle.answers.specs.Rows.{Row, answer, first_of, Passes, numbers, is_in, own_numbers, Decides}
use Rattle.answers.proofs.RowLaws.{not-false, accepts, passes-parts, decides, two-parts, goes_on}
use Rattle.fips197.specs.Cipher.{cipher}
use Rattle.cba_mode.specs.Sets.{is_set, column, key_bytes, tag_bits, capacity}
use Rattle.cba_mode.specs.Data.{tag_of_data}
use Rattle.cba_mode.specs.Seal.{seal_with}
use Rattle.cba_mode.specs.Charge.{old_charge, charge}
use Rattle.cba_rules.specs.Checks.{set_tag, bad_set, message_rows}
use Rattle.cba_rules.specs.Refusals.{sealing, seal_answer, seal_leaves, seal_output, SealCall}
use Rattle.cba_rules.proofs.SetLaws.{set-fits, capacity-least}
use Rattle.cba_rules.proofs.RefusalLaws.{Seals, is-length, has_length, key-passed, message-passes, message-passed, seal_untouched, seal_accepts}
use Rattle.ledger_rules.specs.Ledger.{Ledger, no_ledger, fresh, make_rows, make_answer, made_ledger, key_of, console_of, nonce_rows, stale, charge_by, spent, own_rows, heading_at, is_heading_name, is_kept, Source, source_row, seal_charge, ledger_checks, ledger_rows, ledger_answer, charged, next_ledger, ledger_sealing, ledger_output, LedgerCall, keep_charge, keep_rows, keep_answer, sum_of, keeping, kept_ledger, carry_rows, carry_answer, with_charge, carried_ledger}
use Rattle.ledger_rules.specs.Ledger.Source.{given, named}
use Rattle.ledger_rules.specs.Runs.{Good, Sealable, Blank}

-- ---- making

module _ (set : ℕ) (key : List ℕ) where
  pub make_accepted : make_answer set key ≡ 0 → (is_set set ≡ true) × (length key ≡ key_bytes set)
  unfolding make_answer make_rows
  make_accepted e = key-passed set (length key) e

  -- a ledger that is not refused is fresh, and one that is refused is none
  pub made-fresh : (console : ℕ) → make_answer set key ≡ 0 → made_ledger set key console ≡ fresh true set key console
  unfolding made_ledger
  made-fresh console e = rw e refl

  pub made_none : (console : ℕ) → (make_answer set key ≡ 0 → ⊥) → made_ledger set key console ≡ no_ledger
  unfolding made_ledger
  made_none console n = rw (ne_eqb (make_answer set key) 0 n) refl

  pub made_blank : (console : ℕ) → (make_answer set key ≡ 0 → ⊥) → Blank (made_ledger set key console)
  made_blank console n =
      subst Blank (sym (made_none console n))
      (record { set_is = refl; key-is = refl; console-is = refl; total-is = refl; charge-is = refl; begun-is = refl; last-is = refl; headings-are = refl })

-- ---- the capacity

module _ (l : Ledger) (c : ℕ) (fits : spent l c ≡ false) where
  -- a total that an acceptance leaves is within the capacity, and a word
  pub total-within : l.total + c ≤ 2 ^ capacity l.set
  unfolding spent
  total-within = ltb-false (2 ^ capacity l.set) (l.total + c) fits

  pub total-word : is_set l.set ≡ true → l.total + c < 18446744073709551616
  total-word s = let p = pow-lt {i = capacity l.set} {j = 64} (omega (arith, (set-fits l.set s).1)) in omega (arith, total-within, p)

-- ---- sealing

module _ (t console : ℕ) (N : List ℕ) (source : Row) (message out : ℕ) where
  -- what the checks before the ledger's own say
  pub record Ready : Type 0 where
    pub nonce-length : length N ≡ 12
    pub begins : console_of N ≡ console
    pub source-passes : source.when ≡ false
    pub seals : Seals t message out

  ready-passes : Ready → Passes (ledger_checks t console N source message out)
  ready-passes r = (
    has_length (length N) 12 r.nonce-length,
    (has_length (console_of N) console r.begins, (r.source-passes, message-passes t message out r.seals)),
  )

  ready-passed : Passes (ledger_checks t console N source message out) → Ready
  ready-passed p =
      record {
        nonce-length = is-length (length N) 12 p.0;
        begins = is-length (console_of N) console p.1.0;
        source-passes = p.1.1.0;
        seals = message-passed t message out p.1.1.1;
      }

-- the rows of either kind have numbers of their own
own-rows : (l : Ledger) (N : List ℕ) (S : Source) (message out : ℕ) → own_numbers (numbers (ledger_rows l N S message out)) ≡ true
unfolding ledger_rows source_row numbers is_in own_numbers
own-rows l N (given A) message out = refl
own-rows l N (named name) message out = refl

module _ (l : Ledger) (t console : ℕ) (N : List ℕ) (message out : ℕ) where
  pub own-checks : (S : Source) → own_numbers (numbers (ledger_checks t console N (source_row l S) message out)) ≡ true
  unfolding source_row numbers is_in own_numbers
  own-checks (given A) = refl
  own-checks (named name) = refl

  own-start : (S : Source) → own_numbers (numbers (nonce_rows console N ++ (source_row l S ∷ []))) ≡ true
  unfolding source_row numbers is_in own_numbers
  own-start (given A) = refl
  own-start (named name) = refl

  -- the checks before the ledger's own, in their groups
  pub in_groups : (S : Source) → answer (ledger_checks t console N (source_row l S) message out)
      ≡ first_of (first_of (answer (nonce_rows console N)) (answer (source_row l S ∷ []))) (answer (message_rows t message out))
  unfolding numbers is_in own_numbers
  in_groups S =
      two-parts (nonce_rows console N ++ (source_row l S ∷ [])) (message_rows t message out) (own-start S)
      ∙ ap (λ (x : ℕ). first_of x (answer (message_rows t message out))) (two-parts (nonce_rows console N) (source_row l S ∷ []) refl)

module _ (l : Ledger) (N : List ℕ) (S : Source) (message out : ℕ) where
  abbrev checks : List Row
  checks = ledger_checks (set_tag l.set) l.console N (source_row l S) message out

  abbrev its_charge : ℕ
  its_charge = seal_charge l.heartbeats S message

  abbrev own : List Row
  own = own_rows (stale l N) (spent l its_charge)

  abbrev AllReady : Type 0
  AllReady = Ready (set_tag l.set) l.console N (source_row l S) message out

  -- on a set, the checks before the ledger's own, then those
  pub ledger_known : is_set l.set ≡ true → ledger_answer l N S message out ≡ answer (checks ++ own)
  unfolding ledger_answer ledger_rows answer
  ledger_known s = rw s refl

  ledger_own : is_set l.set ≡ true → AllReady → ledger_answer l N S message out ≡ answer own
  ledger_own s r =
      let z = accepts checks (ready-passes (set_tag l.set) l.console N (source_row l S) message out r) in
      ledger_known s ∙ sym (goes_on checks own (own-checks l (set_tag l.set) l.console N message out S) (sym z) refl refl)

  pub ledger_decides : Decides (ledger_rows l N S message out) (ledger_answer l N S message out)
  unfolding ledger_answer
  ledger_decides = decides (ledger_rows l N S message out) (own-rows l N S message out)

  pub ledger_accepts : is_set l.set ≡ true → AllReady → stale l N ≡ false → spent l its_charge ≡ false → ledger_answer l N S message out ≡ 0
  ledger_accepts s r x y = ledger_own s r ∙ accepts own (x, (y, tt))

  pub ledger_spent : is_set l.set ≡ true → AllReady → stale l N ≡ false → spent l its_charge ≡ true → ledger_answer l N S message out ≡ 10
  unfolding answer
  ledger_spent s r x y = ledger_own s r ∙ rw (x, y) refl

  -- what an acceptance says
  pub record Accepted : Type 0 where
    pub is-set : is_set l.set ≡ true
    pub ready : AllReady
    pub not-stale : stale l N ≡ false
    pub not-spent : spent l its_charge ≡ false

  pub ledger_accepted : ledger_answer l N S message out ≡ 0 → Accepted
  unfolding ledger_rows
  ledger_accepted e =
      let p = ledger_decides.accepted e in
      let q = passes-parts checks own p.1 in
      record {
        is-set = not-false (is_set l.set) p.0;
        ready = ready-passed (set_tag l.set) l.console N (source_row l S) message out q.0;
        not-stale = q.1.0;
        not-spent = q.1.1.0;
      }

  next-refused : (ledger_answer l N S message out ≡ 0 → ⊥) → next_ledger l N S message out ≡ l
  unfolding next_ledger
  next-refused n = rw (ne_eqb (ledger_answer l N S message out) 0 n) refl

  pub next-accepted : ledger_answer l N S message out ≡ 0 → next_ledger l N S message out ≡ charged l N its_charge
  unfolding next_ledger
  next-accepted e = rw e refl

-- where no check applies it is accepted
sourced : (l : Ledger) (S : Source) → Good l S → (source_row l S).when ≡ false
unfolding source_row
sourced l (given A) h = le-ltb 4096 (length A) h
sourced l (named name) h = ap not h

above-stale : (l : Ledger) (N : List ℕ) → (l.begun ≡ true → number l.last < number N) → stale l N ≡ false
unfolding stale
above-stale l N h = go l.begun refl
  where
    go : (x : Bool) → l.begun ≡ x → l.begun && leb (number N) (number l.last) ≡ false
    go true e = rw e (lt-leb (number N) (number l.last) (h e))
    go false e = rw e refl

pub seal_accepted : (l : Ledger) (N : List ℕ) (S : Source) (message out : ℕ) → Sealable l N S message out → ledger_answer l N S message out ≡ 0
unfolding spent
seal_accepted l N S message out a =
    ledger_accepts l N S message out a.its_set
    (record { nonce-length = a.nonce-length; begins = a.begins; source-passes = sourced l S a.source; seals = record { limit = a.limit; room = a.room } })
    (above-stale l N a.above-last) (le-ltb (2 ^ capacity l.set) (l.total + seal_charge l.heartbeats S message) a.within)

-- what an acceptance says of the data
pub given-limit : (l : Ledger) (N A : List ℕ) (message out : ℕ) → ledger_answer l N (given A) message out ≡ 0 → length A ≤ 4096
unfolding source_row
given-limit l N A message out e = ltb-false 4096 (length A) (ledger_accepted l N (given A) message out e).ready.source-passes

pub named-kept : (l : Ledger) (N : List ℕ) (name message out : ℕ) → ledger_answer l N (named name) message out ≡ 0 → is_kept l name ≡ true
unfolding source_row
named-kept l N name message out e = not-false (is_kept l name) (ledger_accepted l N (named name) message out e).ready.source-passes

pub given-name : (l : Ledger) (N A : List ℕ) (message out : ℕ) → ledger_answer l N (given A) message out ≡ 13 → ⊥
unfolding ledger_rows source_row numbers is_in
given-name l N A message out e = not_in e (ledger_decides l N (given A) message out).listed
  where
    not_in : {a : ℕ} → a ≡ 13 → is_in a (0 ∷ numbers (ledger_rows l N (given A) message out)) ≡ true → ⊥
    not_in z i = false≢true (sym (ap (λ (n : ℕ). is_in n (0 ∷ numbers (ledger_rows l N (given A) message out))) z) ∙ i)

module _ (l : Ledger) (N : List ℕ) (S : Source) (M out : List ℕ) where
  abbrev its_answer : ℕ
  its_answer = ledger_answer l N S (length M) (length out)

  -- a refusal leaves ledger and output
  pub ledger_refused : (a : ℕ) → a ≡ its_answer → (a ≡ 0 → ⊥) → LedgerCall l N S M out a l out
  unfolding ledger_output
  ledger_refused a e n =
      let k : its_answer ≡ 0 → ⊥ = λ z. n (e ∙ z) in
      record {
        answer-is = e;
        next-is = sym (next-refused l N S (length M) (length out) k);
        output-is = sym (seal_untouched its_answer (ledger_sealing l N S M) out k);
      }

  -- an acceptance is one of plain sealing with data A, where it writes what that does
  pub ledger_plain : (A : List ℕ) → length A ≤ 4096 → ledger_sealing l N S M ≡ sealing l.set (key_of l) N A M → key_bytes l.set ≤ length l.key →
      its_answer ≡ 0 → SealCall l.set (key_of l) N A M out 0 (ledger_output l N S M out)
  unfolding ledger_output key_of seal_output
  ledger_plain A la w lk e =
      let a = ledger_accepted l N S (length M) (length out) e in
      let z : seal_answer l.set (key_of l) N A M out ≡ 0 =
      seal_accepts l.set (key_of l) N A M out
      (record {
        is-set = a.is-set;
        key-length = length-take-le (key_bytes l.set) l.key lk;
        nonce-length = a.ready.nonce-length;
        data_limit = la;
      })
      a.ready.seals in
      (sym z, ap₂ (λ (x : ℕ) (C : List ℕ). seal_leaves x C out) (e ∙ sym z) w)

  -- an accepted call, by what it leaves
  pub ledger_done : (a : ℕ) (l' : Ledger) (out' : List ℕ) → its_answer ≡ 0 → a ≡ 0 → l' ≡ charged l N (seal_charge l.heartbeats S (length M)) →
      out' ≡ ledger_output l N S M out → LedgerCall l N S M out a l' out'
  ledger_done a l' out' e z el eo =
      record { answer-is = z ∙ sym e; next-is = el ∙ sym (next-accepted l N S (length M) (length out) e); output-is = eo }

-- with data that are given it is plain sealing; by name it is, where the sum is that of A
pub given-plain : (l : Ledger) (N A M out : List ℕ) → key_bytes l.set ≤ length l.key → ledger_answer l N (given A) (length M) (length out) ≡ 0 →
    SealCall l.set (key_of l) N A M out 0 (ledger_output l N (given A) M out)
unfolding ledger_sealing
given-plain l N A M out lk e = ledger_plain l N (given A) M out A (given-limit l N A (length M) (length out) e) refl lk e

pub named-plain : (l : Ledger) (N : List ℕ) (name : ℕ) (A M out : List ℕ) → length A ≤ 4096 → (heading_at l name).sum ≡ sum_of l A → key_bytes l.set ≤ length l.key →
    ledger_answer l N (named name) (length M) (length out) ≡ 0 → SealCall l.set (key_of l) N A M out 0 (ledger_output l N (named name) M out)
unfolding ledger_sealing sealing sum_of tag_of_data
named-plain l N name A M out la h lk e =
    ledger_plain l N (named name) M out A la
    (ap (λ (s : List ℕ). seal_with (cipher (key_of l)) (tag_bits l.set) (capacity l.set) N (take (set_tag l.set) s) M) h) lk e

-- ---- keeping

module _ (l : Ledger) (name ad : ℕ) where
  pub keep_decides : Decides (keep_rows l name ad) (keep_answer l name ad)
  unfolding keep_answer keep_rows numbers is_in own_numbers
  keep_decides = decides (keep_rows l name ad) refl

  pub keep_accepts : is_set l.set ≡ true → name < 8 → ad ≤ 4096 → l.total + keep_charge l.heartbeats ad ≤ 2 ^ capacity l.set → keep_answer l name ad ≡ 0
  unfolding keep_answer keep_rows is_heading_name spent
  keep_accepts s n a c =
      accepts (keep_rows l name ad)
      (ap not s, (ap not (lt-ltb name 8 n), (le-ltb 4096 ad a, (le-ltb (2 ^ capacity l.set) (l.total + keep_charge l.heartbeats ad) c, tt))))

  -- what an acceptance says
  pub record KeepAccepted : Type 0 where
    pub is-set : is_set l.set ≡ true
    pub is_name : is_heading_name name ≡ true
    pub data_limit : ad ≤ 4096
    pub not-spent : spent l (keep_charge l.heartbeats ad) ≡ false

  pub keep_accepted : keep_answer l name ad ≡ 0 → KeepAccepted
  unfolding keep_rows
  keep_accepted e =
      let p = keep_decides.accepted e in
      record {
        is-set = not-false (is_set l.set) p.0;
        is_name = not-false (is_heading_name name) p.1.0;
        data_limit = ltb-false 4096 ad p.1.1.0;
        not-spent = p.1.1.1.0;
      }

module _ (l : Ledger) (name : ℕ) (A : List ℕ) where
  pub kept-refused : (keep_answer l name (length A) ≡ 0 → ⊥) → kept_ledger l name A ≡ l
  unfolding kept_ledger
  kept-refused n = rw (ne_eqb (keep_answer l name (length A)) 0 n) refl

  pub kept-accepted : keep_answer l name (length A) ≡ 0 → kept_ledger l name A ≡ keeping l name (sum_of l A) (keep_charge l.heartbeats (length A))
  unfolding kept_ledger
  kept-accepted e = rw e refl

  -- either way it leaves the last nonce
  pub kept-nonce : ((kept_ledger l name A).begun ≡ l.begun) × ((kept_ledger l name A).last ≡ l.last)
  unfolding kept_ledger
  kept-nonce = go (eqb (keep_answer l name (length A)) 0) refl
    where
      go : (x : Bool) → eqb (keep_answer l name (length A)) 0 ≡ x → ((kept_ledger l name A).begun ≡ l.begun) × ((kept_ledger l name A).last ≡ l.last)
      go true e = rw e (refl, refl)
      go false e = rw e (refl, refl)

-- ---- carrying over

module _ (l : Ledger) where
  pub carry_decides : Decides (carry_rows l) (carry_answer l)
  unfolding carry_answer carry_rows numbers is_in own_numbers
  carry_decides = decides (carry_rows l) refl

  -- accepted or refused, it changes the charge alone
  pub carried-only : with_charge l.heartbeats (carried_ledger l) ≡ l
  unfolding carried_ledger
  carried-only = go (eqb (carry_answer l) 0) refl
    where
      go : (x : Bool) → eqb (carry_answer l) 0 ≡ x → with_charge l.heartbeats (carried_ledger l) ≡ l
      go true e = rw e refl
      go false e = rw e refl

  -- and nothing, where the ledger has the new charge
  pub carried_same : l.heartbeats ≡ true → carried_ledger l ≡ l
  unfolding carried_ledger
  carried_same h = go (eqb (carry_answer l) 0) refl
    where
      go : (x : Bool) → eqb (carry_answer l) 0 ≡ x → carried_ledger l ≡ l
      go true e = rw e (ap (λ (b : Bool). with_charge b l) (sym h))
      go false e = rw e refl

  -- it is accepted wherever there is a set
  pub carry_set : is_set l.set ≡ true → carry_answer l ≡ 0
  unfolding carry_answer carry_rows answer
  carry_set s = rw s refl

  pub carried-refused : (carry_answer l ≡ 0 → ⊥) → carried_ledger l ≡ l
  unfolding carried_ledger
  carried-refused n = rw (ne_eqb (carry_answer l) 0 n) refl

  pub carried-accepted : carry_answer l ≡ 0 → carried_ledger l ≡ with_charge true l
  unfolding carried_ledger
  carried-accepted e = rw e refl

pub carried-twice : (l : Ledger) → carried_ledger (carried_ledger l) ≡ carried_ledger l
carried-twice l = go (eqb (carry_answer l) 0) refl
  where
    go : (x : Bool) → eqb (carry_answer l) 0 ≡ x → carried_ledger (carried_ledger l) ≡ carried_ledger l
    go true e = carried_same (carried_ledger l) (ap (λ (m : Ledger). m.heartbeats) (carried-accepted l (eqb-true (carry_answer l) 0 e)))
    go false e = ap carried_ledger (carried-refused l (eqb-false (carry_answer l) 0 e))

-- what a making gave has the new charge, or no set
pub made-same : (set : ℕ) (key : List ℕ) (console : ℕ) → carried_ledger (made_ledger set key console) ≡ made_ledger set key console
unfolding made_ledger carry_answer carry_rows answer is_set column
made-same set key console = go (eqb (make_answer set key) 0) refl
  where
    go : (x : Bool) → eqb (make_answer set key) 0 ≡ x → carried_ledger (made_ledger set key console) ≡ made_ledger set key console
    go true e = rw e (carried_same (fresh true set key console) refl)
    go false e = rw e (carried-refused no_ledger (λ z. omega (arith, z)))

-- ---- a fresh ledger

-- its first charge is within every capacity
charge-most : (b : Bool) (ad message : ℕ) → ad ≤ 4096 → message ≤ 65536 → charge_by b ad message ≤ 65536
unfolding charge_by charge old_charge
charge-most true ad message h k = omega arith
charge-most false ad message h k = omega arith

module _ (b : Bool) (set : ℕ) (key : List ℕ) (console : ℕ) (N : List ℕ) where
  pub never-stale : (S : Source) (message out : ℕ) → ledger_answer (fresh b set key console) N S message out ≡ 9 → ⊥
  unfolding ledger_rows stale
  never-stale S message out e =
      let l = fresh b set key console in
      let checks = bad_set set ∷ ledger_checks (set_tag set) console N (source_row l S) message out in
      false≢true ((ledger_decides l N S message out).refused checks _ _ refl e).1

  pub takes_first : (A : List ℕ) (message out : ℕ) → make_answer set key ≡ 0 → length N ≡ 12 → console_of N ≡ console → length A ≤ 4096 → message ≤ 65536 →
      message + set_tag set ≤ out → ledger_answer (fresh b set key console) N (given A) message out ≡ 0
  unfolding seal_charge
  takes_first A message out e n c a m o =
      let s = (make_accepted set key e).0 in
      let k = pow_mono {i = 16} {j = capacity set} (capacity-least set s) in
      seal_accepted (fresh b set key console) N (given A) message out
      (record {
        its_set = s;
        nonce-length = n;
        begins = c;
        source = a;
        limit = m;
        room = o;
        above-last = λ x. absurd (false≢true x);
        within = omega (arith, k, charge-most b (length A) message a m);
      })
