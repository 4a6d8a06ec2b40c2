-- An opening on a receiver whose set is known: the checks in their groups, and the call.
-- Assumes nothing.
use mathlib.Core.Path.{◌≡◌, refl, sym, ap, subst, ◌∙◌}
use mathlib.Core.Bool.{Bool, true, false}
use mathlib.Core.List.{List, [], ◌∷◌, ◌++◌}
use Prim.Native.Nat.{ℕ, ◌/◌}
use native.Mathlib.Omega.{arith}
use lib.Dec.{T}
use Rattle.std.specs.Prelude.{Some, None, Result, Ok, Err, IsErrAnd, replicate}
use lib.ListN.{length, take}
use Rattle.answers.specs.Rows.{Row, answer, numbers, is_in, own_numbers}
use Rattle.answers.specs.declared.refusals.Refusal.{Refusal}
use Rattle.answers.specs.Refusals.{number_of_refusal}
use Rattle.octets.specs.Strings.{over}
use Rattle.octets.proofs.Strings.{drop-replicate}
use Rattle.answers.proofs.RowLaws.{refuses, listed, stops, goes_on}
use Rattle.cba_mode.specs.Sets.{tag_bytes}
use Rattle.cba_mode.specs.Open.{is_false}
use Rattle.cba_rules.specs.Checks.{set_tag, forged}
use Rattle.cba_rules.specs.Refusals.{opening, OpenCall}
use Rattle.cba_steps.specs.declared.parameters.Parameters.{Parameters}
use Rattle.plain.specs.Lookup.{lookup_of}
use Rattle.plain.proofs.SetLaws.{its_key, its_tag, unknown-answers, known-goes_on}
use Rattle.window_rules.specs.Window.{Window, is_repeat, recorded}
use Rattle.receiver_rules.specs.Receiver.{Receiver, no_window, begin, key_of, counter_of, repeated, length_checks, receiver_rows, receiver_answer, with_counter, receiver_output, ReceiverCall}
use Rattle.receiver_rules.proofs.ReceiverLaws.{call-refused, next-refused, next-accepted, plain-call}
use Rattle.receiver.specs.declared.receiver.Receiver as code
use Rattle.receiver.specs.Values.{value_of, Tried}

-- ---- receivers as values

abbrev with_parts : ℕ → List ℕ → ℕ → Window → Receiver
with_parts set key prefix w = record { set = set; key = key; prefix = prefix; window = w }

pub begin_is : {k : List ℕ} {w : Window} (set : ℕ) (key : List ℕ) (prefix : ℕ) → k ≡ over key (replicate 32 0) → w ≡ no_window →
    with_parts set k prefix w ≡ begin set key prefix
begin_is set key prefix e f = rw (e, f, drop-replicate (length key) 32 0) refl

pub next_is : {w : Window} {c c' : ℕ} (v : Receiver) → w ≡ recorded v.window c → c ≡ c' → with_parts v.set v.key v.prefix w ≡ with_counter v c'
next_is v e f = rw (e, f) refl

-- what `?` hands on leaves the receiver
pub handed_back : {v : code.Receiver} {N A C out out' : List ℕ} (r : Result code.Receiver Refusal) (x : Refusal) → IsErrAnd r (λ (y : Refusal). y ≡ x) →
    ReceiverCall (value_of v) N A C out (number_of_refusal x) (value_of v) out' → Tried v N A C out r out'
handed_back (Ok a) x e call = absurd e
handed_back {v} {N} {A} {C} {out} {out'} (Err y) x e call =
    subst (λ (z : Refusal). ReceiverCall (value_of v) N A C out (number_of_refusal z) (value_of v) out') (sym e) call

-- ---- the checks of an opening

module _ (t prefix : ℕ) (N : List ℕ) (ad ciphertext room : ℕ) where
  abbrev lengths : List Row
  lengths = length_checks t prefix N ad ciphertext room

  -- none of them answers 8
  lengths-eight : answer lengths ≡ 8 → ⊥
  unfolding numbers is_in
  lengths-eight e = subst T (sym (ap (λ (n : ℕ). is_in n (0 ∷ numbers lengths)) (sym e) ∙ listed lengths)) tt

-- ---- an opening

pub unknown-refused : (v : Receiver) (N A C out : List ℕ) → lookup_of v.set ≡ None → ReceiverCall v N A C out 1 v out
unfolding receiver_answer receiver_rows
unknown-refused v N A C out h = call-refused v N A C out 1 (unknown-answers v.set _ h) (λ z. omega (arith, z)) (λ z. omega (arith, z))

module _ (v : Receiver) (p : Parameters) (known : lookup_of v.set ≡ Some p) (N A C out : List ℕ) where
  abbrev its_answer : ℕ
  its_answer = receiver_answer v N A C (length out)

  abbrev its_lengths : ℕ → List Row
  its_lengths t = lengths t v.prefix N (length A) (length C) (length out)

  -- 15, then 8
  abbrev last-two : List Row
  last-two = repeated (is_repeat v.window (counter_of N)) ∷ forged (is_false (opening v.set (key_of v) N A C)) ∷ []

  -- on a set, the lengths and then these
  on_set : answer (its_lengths (tag_bytes p.tau) ++ last-two) ≡ its_answer
  unfolding receiver_answer receiver_rows
  on_set = ap (λ (t : ℕ). answer (its_lengths t ++ last-two)) (its_tag v.set p known) ∙ known-goes_on v.set p (its_lengths (set_tag v.set) ++ last-two) known

  module _ {r : ℕ} (e : r ≡ answer (its_lengths (tag_bytes p.tau))) where
    pub lengths-refused : (r ≡ 0 → ⊥) → ReceiverCall v N A C out r v out
    unfolding numbers is_in own_numbers
    lengths-refused n =
        call-refused v N A C out r (stops (its_lengths (tag_bytes p.tau)) last-two refl e n ∙ on_set) n
        (λ z. lengths-eight (tag_bytes p.tau) v.prefix N (length A) (length C) (length out) (sym e ∙ z))

    -- where they pass, the answer is that of the last two
    then : r ≡ 0 → answer last-two ≡ its_answer
    unfolding numbers is_in own_numbers
    then z = goes_on (its_lengths (tag_bytes p.tau)) last-two refl e z refl ∙ on_set

    pub repeat_refused : r ≡ 0 → is_repeat v.window (counter_of N) ≡ true → ReceiverCall v N A C out 15 v out
    repeat_refused z h =
        call-refused v N A C out 15 (sym (refuses [] (repeated (is_repeat v.window (counter_of N))) _ tt h) ∙ then z) (λ k. omega (arith, k)) (λ k. omega (arith, k))

    -- and of a new counter plain opening decides
    module _ (k : length v.key ≡ 32) (z : r ≡ 0) (new : is_repeat v.window (counter_of N) ≡ false) where
      neither_of : (n : ℕ) → (n ≡ 8 → ⊥) → (n ≡ 0 → ⊥) → its_answer ≡ n → ⊥
      unfolding answer
      neither_of n a b f = go (is_false (opening v.set (key_of v) N A C)) refl
        where
          go : (x : Bool) → is_false (opening v.set (key_of v) N A C) ≡ x → ⊥
          go true h = a (sym f ∙ sym (then z) ∙ rw (new, h) refl)
          go false h = b (sym f ∙ sym (then z) ∙ rw (new, h) refl)

      module _ (n : ℕ) (i : n ≡ p.key / 8) (a : ℕ) (out' : List ℕ) (call : OpenCall v.set (take n v.key) N A C out a out') where
        its_call : (a ≡ its_answer) × (out' ≡ receiver_output v N A C out)
        unfolding key_of
        its_call =
            let m = subst (λ (j : ℕ). OpenCall v.set (take j v.key) N A C out a out') (i ∙ its_key v.set p known) call in
            let c = plain-call v N A C out k (neither_of 12 (λ f. omega (arith, f)) (λ f. omega (arith, f))) (neither_of 15 (λ f. omega (arith, f)) (λ f. omega (arith, f))) in
            (m.0 ∙ sym c.0, m.1 ∙ sym c.1)

        pub call-false : (a ≡ 0 → ⊥) → ReceiverCall v N A C out a v out'
        call-false h = record { answer-is = its_call.0; next-is = sym (next-refused v N A C out (λ f. h (its_call.0 ∙ f))); output-is = its_call.1 }

        pub call-true : (v' : Receiver) → a ≡ 0 → v' ≡ with_counter v (counter_of N) → ReceiverCall v N A C out 0 v' out'
        call-true v' h f =
            let y = sym h ∙ its_call.0 in
            record { answer-is = y; next-is = f ∙ sym (next-accepted v N A C out (sym y)); output-is = its_call.1 }
