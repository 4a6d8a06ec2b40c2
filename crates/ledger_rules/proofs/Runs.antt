-- Lists of calls: the total is the sum of the accepted charges, up to a carrying and after it, and within the capacity; the nonces rise and
-- begin with the console; and what is under a name is the sum of the data last kept there.
-- Assumes nothing.
use mathlib.Core.Path.{◌≡◌, refl, sym, ap, subst, ◌∙◌}
use mathlib.Core.Bool.{Bool, true, false, cond, ◌&&◌}
use mathlib.Core.List.{List, [], ◌∷◌, ◌++◌}
use mathlib.Core.Logic.{⊎_elim}
use mathlib.Core.Option.{Option, none, some}
use Prim.Native.Nat.{ℕ, ◌+◌, ◌^◌, ◌<◌, ◌≤◌}
use native.Mathlib.Omega.{arith}
use borrow.Author.Tests.{eqb-true, eqb-false, leb-false, ltb-true}
use lib.Dec.{eqb, leb}
use lib.ListN.{length, length-set}
use lib.Seq.{get_or-set_same, get_or-set_other}
use Rattle.octets.specs.Numbers.{number}
use Rattle.answers.specs.Calls.{Gave, InTurn, ByList}
use Rattle.answers.proofs.CallLaws.{by_list}
use Rattle.cba_mode.specs.Sets.{capacity}
use Rattle.ledger_rules.specs.Ledger.{Heading, Ledger, key_of, console_of, stale, heading_at, is_heading_name, charged, sum_of, keeping, with_charge}
use Rattle.ledger_rules.specs.Runs.{Call, Sealing, Keeping, answer_on, after, out_of, output_on, gives, Promised, charge_of, run, accepted, charges, before_carrying, since_carrying, NoCarrying, added, nonces, last_kept, RisingFrom, Rising, Among, SameMaking}
use Rattle.ledger_rules.specs.Runs.Call.{seals, keeps, carries}
use Rattle.ledger_rules.proofs.LedgerLaws.{total-within, ledger_accepted, ledger_refused, next-accepted, keep_accepted, kept-refused, kept-accepted, carried-refused, carried-accepted}

-- ---- sums of charges

-- cut at the first carrying
pub in_two : (b : Bool) (cs : List Call) → charges b (before_carrying cs) + charges b (since_carrying cs) ≡ charges b cs
unfolding charges before_carrying since_carrying charge_of
in_two b [] = refl
in_two b (seals s ∷ cs) = omega (arith, in_two b cs)
in_two b (keeps k ∷ cs) = omega (arith, in_two b cs)
in_two b (carries ∷ cs) = refl

pub cut : (xs ys : List Call) → NoCarrying xs → before_carrying ys ≡ [] →
    (before_carrying (xs ++ ys) ≡ xs) × (since_carrying (xs ++ ys) ≡ since_carrying ys)
unfolding before_carrying since_carrying
cut [] ys n e = (e, refl)
cut (seals s ∷ xs) ys n e = let h = cut xs ys n e in (ap (λ (zs : List Call). seals s ∷ zs) h.0, h.1)
cut (keeps k ∷ xs) ys n e = let h = cut xs ys n e in (ap (λ (zs : List Call). keeps k ∷ zs) h.0, h.1)
cut (carries ∷ xs) ys n e = absurd n

-- ---- one call

pub after-refused : (l : Ledger) (c : Call) → (answer_on l c ≡ 0 → ⊥) → (after l c ≡ l) × (output_on l c ≡ out_of c)
unfolding answer_on after output_on out_of
after-refused l (seals s) n = let r = ledger_refused l s.nonce s.source s.message s.out _ refl n in (sym r.next-is, sym r.output-is)
after-refused l (keeps k) n = (kept-refused l k.name k.ad n, refl)
after-refused l carries n = (carried-refused l n, refl)

-- the ledger after an accepted one
abbrev done : Ledger → Call → Ledger
done l (seals s) = charged l s.nonce (charge_of l.heartbeats (seals s))
done l (keeps k) = keeping l k.name (sum_of l k.ad) (charge_of l.heartbeats (keeps k))
done l carries = with_charge true l

after-accepted : (l : Ledger) (c : Call) → answer_on l c ≡ 0 → after l c ≡ done l c
unfolding answer_on after charge_of
after-accepted l (seals s) e = next-accepted l s.nonce s.source (length s.message) (length s.out) e
after-accepted l (keeps k) e = kept-accepted l k.name k.ad e
after-accepted l carries e = carried-accepted l e

-- an accepted nonce is above the last
above-last : (l : Ledger) (s : Sealing) → answer_on l (seals s) ≡ 0 → l.begun ≡ true → number l.last < number s.nonce
unfolding answer_on stale
above-last l s e b =
    let x = (ledger_accepted l s.nonce s.source (length s.message) (length s.out) e).not-stale in
    leb-false (number s.nonce) (number l.last) (ap (λ (x : Bool). x && leb (number s.nonce) (number l.last)) (sym b) ∙ x)

-- and it begins with the ledger's number
begins_with : (l : Ledger) (s : Sealing) → answer_on l (seals s) ≡ 0 → console_of s.nonce ≡ l.console
unfolding answer_on
begins_with l s e = (ledger_accepted l s.nonce s.source (length s.message) (length s.out) e).ready.begins

-- ---- a list of them: what holds of a ledger, the one after the list and the accepted calls, where it holds of none and of one more

module _ (P : Ledger → Ledger → List Call → Type 0) (start : (l : Ledger) → P l l [])
    (more : (l m : Ledger) (c : Call) (cs : List Call) → answer_on l c ≡ 0 → P (done l c) m cs → P l m (c ∷ cs)) where
  on_answer : (l : Ledger) (c : Call) (cs : List Call) → ((m : Ledger) → P m (run m cs) (accepted m cs)) → P l (run l (c ∷ cs)) (accepted l (c ∷ cs))
  unfolding run accepted
  on_answer l c cs h = go (eqb (answer_on l c) 0) refl
    where
      go : (x : Bool) → eqb (answer_on l c) 0 ≡ x → P l (run (after l c) cs) (cond (eqb (answer_on l c) 0) (c ∷ accepted (after l c) cs) (accepted (after l c) cs))
      go true e =
          let z = eqb-true (answer_on l c) 0 e in
          rw (e, after-accepted l c z) (more l (run (done l c) cs) c (accepted (done l c) cs) z (h (done l c)))
      go false e = rw (e, (after-refused l c (eqb-false (answer_on l c) 0 e)).0) (h l)

  by_calls : (cs : List Call) (l : Ledger) → P l (run l cs) (accepted l cs)
  unfolding run accepted
  by_calls [] l = start l
  by_calls (c ∷ cs) l = on_answer l c cs (λ m. by_calls cs m)

pub run_append : (l : Ledger) (xs ys : List Call) → run l (xs ++ ys) ≡ run (run l xs) ys
unfolding run
run_append l [] ys = refl
run_append l (x ∷ xs) ys = run_append (after l x) xs ys

-- ---- set, key and console

one_same : (l m : Ledger) (c : Call) (cs : List Call) → answer_on l c ≡ 0 → SameMaking (done l c) m → SameMaking l m
one_same l m (seals s) cs e h = record { set-stays = h.set-stays; key-stays = h.key-stays; console-stays = h.console-stays }
one_same l m (keeps k) cs e h = record { set-stays = h.set-stays; key-stays = h.key-stays; console-stays = h.console-stays }
one_same l m carries cs e h = record { set-stays = h.set-stays; key-stays = h.key-stays; console-stays = h.console-stays }

pub same-making : (cs : List Call) (l : Ledger) → SameMaking l (run l cs)
same-making = by_calls (λ l m cs. SameMaking l m) (λ l. record { set-stays = refl; key-stays = refl; console-stays = refl }) one_same

-- ---- calls made one after the other

all-given : (l : Ledger) (c : Call) (g : Gave Ledger) → Promised l c g → g ≡ gives l c
unfolding answer_on after output_on
all-given l (seals s) g p = rw (sym p.answer-is, sym p.next-is, sym p.output-is) refl
all-given l (keeps k) g p = rw (sym p.0.answer-is, sym p.0.next-is, sym p.1) refl
all-given l carries g p = rw (sym p.0.answer-is, sym p.0.next-is, sym p.1) refl

pub in_turn : (l : Ledger) (cs : List Call) (gs : List (Gave Ledger)) → InTurn Promised l cs gs → ByList gives run l cs gs
unfolding run
in_turn = by_list Promised gives run all-given (λ l. refl) (λ l c cs. refl)

-- ---- the total

pub record Sums (l m : Ledger) (cs : List Call) : Type 0 where
  pub charge-stays : l.heartbeats ≡ true → m.heartbeats ≡ true
  pub sum : m.total ≡ l.total + added l cs
  pub within : l.total ≤ 2 ^ capacity l.set → m.total ≤ 2 ^ capacity l.set

one-sum : (l m : Ledger) (c : Call) (cs : List Call) → answer_on l c ≡ 0 → Sums (done l c) m cs → Sums l m (c ∷ cs)
unfolding answer_on charge_of charges before_carrying since_carrying
one-sum l m (seals s) cs e h =
    let w = total-within l _ (ledger_accepted l s.nonce s.source (length s.message) (length s.out) e).not-spent in
    record { charge-stays = h.charge-stays; sum = h.sum ∙ omega arith; within = λ k. h.within w }
one-sum l m (keeps k) cs e h =
    let w = total-within l _ (keep_accepted l k.name (length k.ad) e).not-spent in
    record { charge-stays = h.charge-stays; sum = h.sum ∙ omega arith; within = λ k. h.within w }
one-sum l m carries cs e h =
    record {
      charge-stays = λ b. h.charge-stays refl;
      sum = h.sum ∙ omega (arith, in_two true cs);
      within = h.within;
    }

pub sums : (cs : List Call) (l : Ledger) → Sums l (run l cs) (accepted l cs)
unfolding charges before_carrying since_carrying
sums = by_calls Sums (λ l. record { charge-stays = λ b. b; sum = omega arith; within = λ k. k }) one-sum

-- ---- the nonces

pub record Rises (l m : Ledger) (cs : List Call) : Type 0 where
  pub rise : l.begun ≡ true → RisingFrom (number l.last) (nonces cs)
  pub rise-new : Rising (nonces cs)
  pub begin : (N : List ℕ) → Among N (nonces cs) → console_of N ≡ l.console

one-rise : (l m : Ledger) (c : Call) (cs : List Call) → answer_on l c ≡ 0 → Rises (done l c) m cs → Rises l m (c ∷ cs)
unfolding nonces
one-rise l m (seals s) cs e h =
    record {
      rise = λ b. (above-last l s e b, h.rise refl);
      rise-new = h.rise refl;
      begin = λ N i. ⊎_elim (λ (x : N ≡ s.nonce). ap console_of x ∙ begins_with l s e) (h.begin N) i;
    }
one-rise l m (keeps k) cs e h = record { rise = h.rise; rise-new = h.rise-new; begin = h.begin }
one-rise l m carries cs e h = record { rise = h.rise; rise-new = h.rise-new; begin = h.begin }

pub rises : (cs : List Call) (l : Ledger) → Rises l (run l cs) (accepted l cs)
unfolding nonces
rises = by_calls Rises (λ l. record { rise = λ b. tt; rise-new = tt; begin = λ N i. absurd i }) one-rise

-- ---- what is under a name

-- a heading x by the data last kept there, with their sum by H
abbrev pub Under : Bool → Heading → (List ℕ → List ℕ) → Option (List ℕ) → Type 0
Under name x H none = name && x.kept ≡ false
Under name x H (some A) = (name && x.kept ≡ true) × (x.sum ≡ H A) × (length A ≤ 4096)

module _ (name : ℕ) where
  abbrev pub On : Ledger → Option (List ℕ) → Type 0
  On l o = Under (is_heading_name name) (heading_at l name) (sum_of l) o

  -- where the ledger has eight headings, as each value has
  abbrev pub Names : Ledger → Ledger → List Call → Type 0
  Names l m cs = (o : Option (List ℕ)) → length l.headings ≡ 8 → On l o → On m (last_kept name o cs)

  one_kept : (l : Ledger) (k : Keeping) (o : Option (List ℕ)) → answer_on l (keeps k) ≡ 0 → length l.headings ≡ 8 → On l o →
      On (done l (keeps k)) (cond (eqb k.name name) (some k.ad) o)
  unfolding answer_on heading_at is_heading_name sum_of key_of
  one_kept l k o e n u = go (eqb k.name name) refl
    where
      go : (x : Bool) → eqb k.name name ≡ x → On (done l (keeps k)) (cond (eqb k.name name) (some k.ad) o)
      go true f =
          let i : k.name ≡ name = eqb-true k.name name f in
          let a = keep_accepted l k.name (length k.ad) e in
          let low = ltb-true k.name 8 a.is_name in
          let same = get_or-set_same l.headings k.name (record { kept = true; sum = sum_of l k.ad }) (record { kept = false; sum = [] }) (omega (arith, n, low)) in
          rw f
          (subst (λ (j : ℕ). Under (is_heading_name j) (heading_at (done l (keeps k)) j) (sum_of l) (some k.ad)) i
          (subst (λ (x : Heading). Under (is_heading_name k.name) x (sum_of l) (some k.ad)) (sym same) (ap (λ (b : Bool). b && true) a.is_name, refl, a.data_limit)))
      go false f =
          let other = get_or-set_other l.headings k.name name (record { kept = true; sum = sum_of l k.ad }) (record { kept = false; sum = [] }) (λ i. eqb-false k.name name f (sym i)) in
          rw f (subst (λ (x : Heading). Under (is_heading_name name) x (sum_of l) o) (sym other) u)

  one_name : (l m : Ledger) (c : Call) (cs : List Call) → answer_on l c ≡ 0 → Names (done l c) m cs → Names l m (c ∷ cs)
  unfolding last_kept heading_at sum_of key_of
  one_name l m (seals s) cs e h o n u = h o n u
  one_name l m (keeps k) cs e h o n u = h _ (length-set l.headings k.name _ ∙ n) (one_kept l k o e n u)
  one_name l m carries cs e h o n u = h o n u

  pub names : (cs : List Call) (l : Ledger) → Names l (run l cs) (accepted l cs)
  unfolding last_kept
  names = by_calls Names (λ l o n u. u) one_name
