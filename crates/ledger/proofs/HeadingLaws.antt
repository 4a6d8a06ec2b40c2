-- What is under a name, its checks, and a keeping on a ledger whose set is known.
-- Assumes nothing.
use mathlib.Core.Path.{◌≡◌, refl, sym, ap, ap₂, ◌∙◌}
use mathlib.Core.Bool.{Bool, true, false, not}
use mathlib.Core.List.{List, [], ◌∷◌, map}
use Prim.Native.Nat.{ℕ, zero, suc, ◌/◌, ◌<◌, ◌≤◌}
use native.Mathlib.Omega.{arith}
use borrow.Author.Tests.{lt-ltb, le-ltb, ltb-true}
use lib.ListN.{length, take, get_or, set, get_or-map}
use Rattle.fips197.specs.Cipher.{cipher}
use Rattle.answers.specs.Rows.{answer}
use Rattle.answers.proofs.RowLaws.{both, refuses, accepts}
use Rattle.cba_mode.specs.Sets.{tag_bits, capacity}
use Rattle.cba_mode.specs.Data.{data_hash}
use Rattle.cba_steps.specs.declared.parameters.Parameters.{Parameters}
use Rattle.std.specs.Prelude.{Some, None}
use Rattle.plain.specs.Lookup.{lookup_of}
use Rattle.plain.proofs.SetLaws.{is-unknown, its_values}
use Rattle.ledger_rules.specs.Ledger.{Ledger, heading_at, is_heading_name, is_kept, bad_name, ledger_answer, keep_charge, keep_rows, keep_answer, sum_of, keeping, kept_ledger, KeepCall}
use Rattle.ledger_rules.specs.Ledger.Source.{named}
use Rattle.ledger_rules.proofs.LedgerLaws.{named-kept, kept-refused, kept-accepted}
use Rattle.ledger.specs.declared.ledger.Heading.{Heading}
use Rattle.ledger.specs.declared.ledger.Ledger as code
use Rattle.ledger.specs.Values.{heading_of, value_of}
use Rattle.ledger.proofs.CallLaws.{part-is}

-- ---- headings as values

pub read : (l : code.Ledger) (name : ℕ) → heading_of (get_or l.headings name (record { kept = false; sum = [] })) ≡ heading_at (value_of l) name
unfolding heading_at
read l name = sym (get_or-map heading_of l.headings name (record { kept = false; sum = [] }))

pub stored : (hs : List Heading) (i : ℕ) (h : Heading) → map heading_of (set hs i h) ≡ set (map heading_of hs) i (heading_of h)
stored [] i h = refl
stored (x ∷ hs) zero h = refl
stored (x ∷ hs) (suc i) h = ap (λ r. heading_of x ∷ r) (stored hs i h)

-- ---- names

pub name-refused : (good : Bool) → not good ≡ true → 13 ≡ answer (bad_name good ∷ [])
name-refused good h = sym (refuses [] (bad_name good) [] tt h)

pub name-passed : (good : Bool) → not good ≡ false → 0 ≡ answer (bad_name good ∷ [])
name-passed good h = sym (accepts (bad_name good ∷ []) (h, tt))

module _ (l : Ledger) (name : ℕ) where
  pub kept_above : 8 ≤ name → false ≡ is_kept l name
  unfolding is_kept is_heading_name
  kept_above h = rw (le-ltb name 8 h) refl

  pub kept-below : {b : Bool} → name < 8 → b ≡ (heading_at l name).kept → b ≡ is_kept l name
  unfolding is_kept is_heading_name
  kept-below h e = e ∙ rw (lt-ltb name 8 h) refl

pub its_name : (name : ℕ) → is_heading_name name ≡ true → name < 8
unfolding is_heading_name
its_name name h = ltb-true name 8 h

pub named-name : (l : Ledger) (N : List ℕ) (name message out : ℕ) → ledger_answer l N (named name) message out ≡ 0 → name < 8
unfolding is_kept
named-name l N name message out e = its_name name (both (is_heading_name name) (heading_at l name).kept (named-kept l N name message out e)).0

-- ---- keeping

module _ (l : Ledger) (name : ℕ) (A : List ℕ) where
  pub keep_refused : {r : ℕ} → r ≡ keep_answer l name (length A) → (r ≡ 0 → ⊥) → KeepCall l name A r l
  keep_refused e n = record { answer-is = e; next-is = sym (kept-refused l name A (λ z. n (e ∙ z))) }

  pub keep_unknown : lookup_of l.set ≡ None → KeepCall l name A 1 l
  unfolding keep_answer keep_rows answer
  keep_unknown h = keep_refused (rw (is-unknown l.set h) refl) (λ z. omega (arith, z))

  -- an accepted keeping, with the sum under the part of the key that it uses
  pub kept-call : {c : ℕ} {sum : List ℕ} (p : Parameters) (n : ℕ) (l' : Ledger) → lookup_of l.set ≡ Some p → n ≡ p.key / 8 → keep_answer l name (length A) ≡ 0 →
      sum ≡ data_hash (cipher (take n l.key)) p.tau p.capacity A → c ≡ keep_charge l.heartbeats (length A) → l' ≡ keeping l name sum c → l' ≡ kept_ledger l name A
  unfolding sum_of
  kept-call p n l' known m z s c f =
      let v = its_values l.set p known in
      let k = ap (λ (k : List ℕ). data_hash (cipher k) (tag_bits l.set) (capacity l.set) A) (part-is l p n known m) in
      f ∙ ap₂ (keeping l name) (s ∙ ap₂ (λ (τ b : ℕ). data_hash (cipher (take n l.key)) τ b A) v.1 v.2 ∙ k) c ∙ sym (kept-accepted l name A z)
