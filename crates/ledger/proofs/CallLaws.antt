-- A making and a sealing on a ledger whose set is known: the checks in their groups, and the call.
-- Assumes nothing.
use mathlib.Core.Path.{◌≡◌, refl, sym, ap, ap₂, subst, ◌∙◌}
use mathlib.Core.Bool.{true, cond}
use mathlib.Core.List.{List, [], ◌∷◌, ◌++◌}
use Prim.Native.Nat.{ℕ, ◌+◌, ◌/◌, ◌≤◌}
use native.Mathlib.Omega.{arith}
use lib.Dec.{eqb}
use lib.ListN.{length, take, drop}
use Rattle.std.specs.Prelude.{Some, None, Result, Ok, Err, IsErrAnd}
use Rattle.octets.specs.Strings.{over}
use Rattle.octets.proofs.Parts.{size_of}
use Rattle.answers.specs.Rows.{Row, answer, first_of}
use Rattle.answers.specs.declared.refusals.Refusal.{Refusal}
use Rattle.answers.specs.Refusals.{number_of, number_of_refusal}
use Rattle.answers.proofs.RowLaws.{two-parts}
use Rattle.fips197.specs.Schedule.{is_key}
use Rattle.fips197.specs.Cipher.{cipher}
use Rattle.cba_mode.specs.Sets.{tag_bits, capacity, tag_bytes}
use Rattle.cba_mode.specs.Seal.{seal_with}
use Rattle.cba_rules.specs.Checks.{set_tag, message_rows}
use Rattle.cba_rules.specs.Refusals.{seal_leaves, SealCall}
use Rattle.cba_rules.proofs.SetLaws.{set-fits, set_key}
use Rattle.cba_sealing.specs.Calls.{Seals, Enc}
use Rattle.cba_steps.specs.declared.parameters.Parameters.{Parameters}
use Rattle.plain.specs.Lookup.{lookup_of}
use Rattle.plain.proofs.SetLaws.{is_known, its_values, its_key, its_tag, unknown-answers}
use Rattle.ledger.specs.declared.ledger.Ledger as code
use Rattle.ledger.specs.Values.{after}
use Rattle.ledger_rules.specs.Ledger.{Ledger, key_of, nonce_rows, stale, charge_by, spent, own_rows, heading_at, Source, source_row, seal_charge, ledger_checks, ledger_rows, ledger_answer, charged, ledger_sealing, ledger_output, LedgerCall, carry_rows, carry_answer, with_charge, CarryCall}
use Rattle.ledger_rules.specs.Ledger.Source.{given, named}
use Rattle.ledger_rules.proofs.LedgerLaws.{own-checks, in_groups, ledger_known, ledger_accepted, ledger_refused, ledger_done, given-plain, carried-refused, carried-accepted}

-- what `?` hands on leaves the ledger
pub handed_back : {l : code.Ledger} (P : ℕ → code.Ledger → Type 0) (r : Result code.Ledger Refusal) (x : Refusal) → IsErrAnd r (λ (y : Refusal). y ≡ x) →
    P (number_of_refusal x) l → P (number_of r) (after l r)
handed_back P (Ok a) x e p = absurd e
handed_back {l} P (Err y) x e p = subst (λ (z : Refusal). P (number_of_refusal z) l) (sym e) p

-- ---- sealing

-- the checks in their groups, by p's t, with source the answer of the data
module _ (l : Ledger) (p : Parameters) (known : lookup_of l.set ≡ Some p) (N : List ℕ) (source message room : ℕ) where
  abbrev groups : ℕ
  groups = first_of (first_of (answer (nonce_rows l.console N)) source) (answer (message_rows (tag_bytes p.tau) message room))

  -- with the ledger's own they are the answer, from whatever source the data come
  pub from-source : (S : Source) (c : ℕ) → source ≡ answer (source_row l S ∷ []) → c ≡ seal_charge l.heartbeats S message →
      first_of groups (answer (own_rows (stale l N) (spent l c))) ≡ ledger_answer l N S message room
  from-source S c e f =
      let t = set_tag l.set in
      let own : ℕ → List Row = λ c. own_rows (stale l N) (spent l c) in
      let its-checks : groups ≡ answer (ledger_checks t l.console N (source_row l S) message room) =
      ap₂ (λ (x y : ℕ). first_of (first_of (answer (nonce_rows l.console N)) x) (answer (message_rows y message room))) e (its_tag l.set p known)
      ∙ sym (in_groups l t l.console N message room S) in
      ap₂ (λ (x c : ℕ). first_of x (answer (own c))) its-checks f
      ∙ sym (two-parts (ledger_checks t l.console N (source_row l S) message room) (own (seal_charge l.heartbeats S message)) (own-checks l t l.console N message room S))
      ∙ sym (ledger_known l N S message room (is_known l.set p known))

pub unknown-refused : (l : Ledger) (N : List ℕ) (S : Source) (M out : List ℕ) → lookup_of l.set ≡ None → LedgerCall l N S M out 1 l out
unfolding ledger_answer ledger_rows
unknown-refused l N S M out h = ledger_refused l N S M out 1 (unknown-answers l.set _ h) (λ z. omega (arith, z))

-- the part of the key that a call uses
module _ (l : Ledger) (p : Parameters) (n : ℕ) (known : lookup_of l.set ≡ Some p) (e : n ≡ p.key / 8) where
  pub part-is : take n l.key ≡ key_of l
  unfolding key_of
  part-is = ap (λ (i : ℕ). take i l.key) (e ∙ its_key l.set p known)

  pub part-key : n ≡ length (take n l.key) → is_key (take n l.key) ≡ true
  part-key m = set_key l.set (take n l.key) (is_known l.set p known) (sym m ∙ e ∙ its_key l.set p known)

  -- what plain sealing left is the ledger's output
  pub accepted-call : (N A M out : List ℕ) (a : ℕ) (l' : Ledger) (out' : List ℕ) → n ≤ length l.key → ledger_answer l N (given A) (length M) (length out) ≡ 0 →
      SealCall l.set (take n l.key) N A M out a out' → l' ≡ charged l N (charge_by l.heartbeats (length A) (length M)) → LedgerCall l N (given A) M out a l' out'
  unfolding seal_charge
  accepted-call N A M out a l' out' m z call f =
      let call' = subst (λ (i : List ℕ). SealCall l.set i N A M out a out') part-is call in
      let plain = given-plain l N A M out (omega (arith, m, e ∙ its_key l.set p known)) z in
      ledger_done l N (given A) M out a l' out' z (call'.0 ∙ sym plain.0) f (call'.1 ∙ sym plain.1)

  -- and so is ENC with the sum that is kept
  pub named-call : (N : List ℕ) (name : ℕ) (M out sum : List ℕ) (l' : Ledger) (out' : List ℕ) → ledger_answer l N (named name) (length M) (length out) ≡ 0 →
      sum ≡ (heading_at l name).sum → Enc (take n l.key) p N sum M out out' → length out' ≡ length out → l' ≡ charged l N (charge_by l.heartbeats 0 (length M)) →
      LedgerCall l N (named name) M out 0 l' out'
  unfolding seal_charge ledger_sealing ledger_output seal_leaves
  named-call N name M out sum l' out' z h w same f =
      let v = its_values l.set p known in
      let C = ledger_sealing l N (named name) M in
      let all : List ℕ → List ℕ → ℕ → ℕ → List ℕ = λ k s τ b. seal_with (cipher k) τ b N (take (tag_bytes τ) s) M ++ drop (length M + tag_bytes τ) out in
      let w' : out' ≡ C ++ drop (length M + set_tag l.set) out =
      w ∙ ap₂ (all (take n l.key) sum) v.1 v.2 ∙ ap₂ (λ (k s : List ℕ). all k s (tag_bits l.set) (capacity l.set)) part-is h in
      let m : length C ≡ length M + set_tag l.set =
      size_of out C out' (length M + set_tag l.set) w' same (ledger_accepted l N (named name) (length M) (length out) z).ready.seals.room in
      ledger_done l N (named name) M out 0 l' out' z refl f
      (w' ∙ ap (λ (k : ℕ). C ++ drop k out) (sym m) ∙ ap (λ (a : ℕ). cond (eqb a 0) (over C out) out) (sym z))

-- what ENC by name is given
pub named-seals : (l : Ledger) (p : Parameters) (N : List ℕ) (name : ℕ) (M out : List ℕ) → lookup_of l.set ≡ Some p →
    ledger_answer l N (named name) (length M) (length out) ≡ 0 → Seals p N M out
named-seals l p N name M out known z =
    let v = its_values l.set p known in
    let r = (ledger_accepted l N (named name) (length M) (length out) z).ready in
    record {
      given = record { fits = rw (v.1, v.2) (set-fits l.set (is_known l.set p known)); nonce = r.nonce-length };
      room = rw v.1 r.seals.room;
    }

-- ---- carrying

module _ (l : Ledger) where
  pub carry_unknown : lookup_of l.set ≡ None → CarryCall l 1 l
  unfolding carry_answer carry_rows
  carry_unknown h =
      let e : 1 ≡ carry_answer l = unknown-answers l.set [] h in
      record { answer-is = e; next-is = sym (carried-refused l (λ z. omega (arith, e, z))) }

  pub carry_known : (p : Parameters) → lookup_of l.set ≡ Some p → CarryCall l 0 (with_charge true l)
  unfolding carry_answer carry_rows answer
  carry_known p h =
      let e : 0 ≡ carry_answer l = rw (is_known l.set p h) refl in
      record { answer-is = e; next-is = sym (carried-accepted l (sym e)) }
