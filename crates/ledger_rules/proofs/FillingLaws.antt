-- The capacity of set 1: messages of one text fill it, with either charge and for every console.
-- Assumes nothing.
use mathlib.Core.Path.{◌≡◌, refl, sym, ap, ap₂, subst, ◌∙◌}
use mathlib.Core.Bool.{Bool, true, false}
use mathlib.Core.List.{List, []}
use Prim.Native.Nat.{ℕ, zero, suc, ◌+◌, ◌*◌, ◌^◌, ◌<◌, ◌≤◌}
use native.Mathlib.Nat.{mod-eq_of_lt, suc-mul}
use native.Mathlib.Omega.{arith}
use borrow.Author.Tests.{lt-ltb, le-ltb, lt-leb}
use lib.ListN.{length, length-append}
use Rattle.octets.specs.Numbers.{number, digits}
use Rattle.octets.proofs.Numbers.{length_digits, number_digits, number_append}
use Rattle.cba_mode.specs.Sets.{is_set, capacity, column}
use Rattle.cba_mode.specs.Charge.{old_charge, charge}
use Rattle.cba_rules.specs.Checks.{set_tag}
use Rattle.ledger_rules.specs.Ledger.{Ledger, fresh, console_of, stale, charge_by, spent, source_row, seal_charge, ledger_answer, next_ledger}
use Rattle.ledger_rules.specs.Ledger.Source.{given}
use Rattle.ledger_rules.specs.Runs.{after, run, nonce_of, repeated, filled, Filling}
use Rattle.ledger_rules.proofs.LedgerLaws.{Ready, ledger_accepts, ledger_spent, next-accepted}
use Rattle.ledger_rules.proofs.Runs.{run_append}

-- the values of set 1
set-one : (is_set 1 ≡ true) × (set_tag 1 ≡ 4) × (2 ^ capacity 1 ≡ 65536)
unfolding is_set column
set-one = (refl, refl, refl)

-- a console's nonces: their length, the number that they begin with, and their number
nonce-length : (console n : ℕ) → length (nonce_of console n) ≡ 12
nonce-length console n = length-append (digits 2 console) (digits 10 n) ∙ ap₂ (λ (x y : ℕ). x + y) (length_digits 2 console) (length_digits 10 n)

nonce-console : (console n : ℕ) → console < 65536 → console_of (nonce_of console n) ≡ console
unfolding console_of digits
nonce-console console n h = number_digits 2 console ∙ mod-eq_of_lt h

nonce-number : (console n : ℕ) → console < 65536 → n ≤ 65537 → number (nonce_of console n) ≡ console * 256 ^ 10 + n
nonce-number console n h k =
    number_append (digits 2 console) (digits 10 n)
    ∙ ap₂ (λ (x y : ℕ). x * 256 ^ y + number (digits 10 n)) (number_digits 2 console ∙ mod-eq_of_lt h) (length_digits 10 n)
    ∙ ap (λ (x : ℕ). console * 256 ^ 10 + x) (number_digits 10 n ∙ mod-eq_of_lt (omega arith))

-- what the examples charge
pub example-charges : (b : Bool) → (charge_by b 0 65536 ≡ 4096) × (charge_by b 0 1 ≡ 1)
unfolding charge_by charge old_charge
example-charges true = (refl, refl)
example-charges false = (refl, refl)

pub empty-charges : (charge_by true 0 0 ≡ 1) × (charge_by false 0 0 ≡ 0)
unfolding charge_by charge old_charge
empty-charges = (refl, refl)

-- a ledger of set 1 after n messages that were charged c blocks each, which the nonce of number n + 1 follows
pub record Filled (b : Bool) (console c n : ℕ) (l : Ledger) : Type 0 where
  pub set_is : l.set ≡ 1
  pub console-is : l.console ≡ console
  pub charge-is : l.heartbeats ≡ b
  pub total-is : l.total ≡ n * c
  pub next-nonce : stale l (nonce_of console (suc n)) ≡ false

module _ {b : Bool} {console c n : ℕ} {l : Ledger} (small : console < 65536) (f : Filled b console c n l) where
  its_set : (is_set l.set ≡ true) × (set_tag l.set ≡ 4) × (2 ^ capacity l.set ≡ 65536)
  its_set = rw f.set_is set-one

  its_charge : (message : ℕ) → seal_charge l.heartbeats (given []) message ≡ charge_by b 0 message
  unfolding seal_charge
  its_charge message = ap (λ (x : Bool). charge_by x 0 message) f.charge-is

  ready : (message room : ℕ) → message ≤ 65536 → message + 4 ≤ room → Ready (set_tag l.set) l.console (nonce_of console (suc n)) (source_row l (given [])) message room
  unfolding source_row
  ready message room h k =
      record {
        nonce-length = nonce-length console (suc n);
        begins = nonce-console console (suc n) small ∙ sym f.console-is;
        source-passes = refl;
        seals = record { limit = h; room = omega (arith, its_set.1) };
      }

  pub takes-more : (message room : ℕ) → message ≤ 65536 → message + 4 ≤ room → n * c + charge_by b 0 message ≤ 65536 →
      ledger_answer l (nonce_of console (suc n)) (given []) message room ≡ 0
  unfolding spent
  takes-more message room h k fits =
      ledger_accepts l (nonce_of console (suc n)) (given []) message room its_set.0 (ready message room h k) f.next-nonce
      (le-ltb (2 ^ capacity l.set) (l.total + seal_charge l.heartbeats (given []) message) (omega (arith, its_set.2, f.total-is, its_charge message)))

  pub takes-no-more : (message room : ℕ) → message ≤ 65536 → message + 4 ≤ room → 65536 < n * c + charge_by b 0 message →
      ledger_answer l (nonce_of console (suc n)) (given []) message room ≡ 10
  unfolding spent
  takes-no-more message room h k over =
      ledger_spent l (nonce_of console (suc n)) (given []) message room its_set.0 (ready message room h k) f.next-nonce
      (lt-ltb (2 ^ capacity l.set) (l.total + seal_charge l.heartbeats (given []) message) (omega (arith, its_set.2, f.total-is, its_charge message)))

  -- after a further one of that charge
  one_more : (message room : ℕ) → message ≤ 65536 → message + 4 ≤ room → charge_by b 0 message ≡ c → n * c + c ≤ 65536 → n < 65536 →
      Filled b console c (suc n) (next_ledger l (nonce_of console (suc n)) (given []) message room)
  unfolding stale
  one_more message room h k e fits low =
      let N = nonce_of console (suc n) in
      let w = next-accepted l N (given []) message room (takes-more message room h k (omega (arith, e))) in
      let x : number N < number (nonce_of console (suc (suc n))) = omega (arith, nonce-number console (suc n) small (omega arith), nonce-number console (suc (suc n)) small (omega arith)) in
      subst (λ (l' : Ledger). Filled b console c (suc n) l') (sym w)
      (record {
        set_is = f.set_is;
        console-is = f.console-is;
        charge-is = f.charge-is;
        total-is = omega (arith, f.total-is, its_charge message, e, suc-mul n c);
        next-nonce = lt-leb (number (nonce_of console (suc (suc n)))) (number N) x;
      })

-- n messages from a fresh ledger
filled_to : {console message : ℕ} {M out : List ℕ} (b : Bool) (key : List ℕ) (c n : ℕ) → Filling console message M out → message ≤ 65536 →
    charge_by b 0 message ≡ c → n * c ≤ 65536 → n ≤ 65536 → Filled b console c n (filled b key console n M out)
unfolding run repeated after stale
filled_to b key c zero g h e fits low = record { set_is = refl; console-is = refl; charge-is = refl; total-is = omega arith; next-nonce = refl }
filled_to {console} {message} {M} {out} b key c (suc n) g h e fits low =
    let s = suc-mul n c in
    subst (λ (l : Ledger). Filled b console c (suc n) l) (sym (run_append (fresh b 1 key console) (repeated console n M out) _))
    (one_more g.console-number (filled_to b key c n g h e (omega (arith, s)) (omega arith)) (length M) (length out)
    (omega (arith, g.message-length)) (omega (arith, g.message-length, g.out-room)) (ap (λ (x : ℕ). charge_by b 0 x) g.message-length ∙ e) (omega (arith, s)) (omega arith))

-- sixteen messages of 65,536 bytes, and 65,536 empty ones
module _ {console : ℕ} {M out : List ℕ} where
  pub sixteen : (b : Bool) (key : List ℕ) → Filling console 65536 M out → Filled b console 4096 16 (filled b key console 16 M out)
  sixteen b key g = filled_to b key 4096 16 g (omega arith) (example-charges b).0 (omega arith) (omega arith)

  pub all-heartbeats : (key : List ℕ) → Filling console 0 M out → Filled true console 1 65536 (filled true key console 65536 M out)
  all-heartbeats key g = filled_to true key 1 65536 g (omega arith) empty-charges.0 (omega arith) (omega arith)
