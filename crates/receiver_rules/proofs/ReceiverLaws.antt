-- What a making and an opening on a receiver answer, and what they leave.
-- Assumes nothing.
use mathlib.Core.Path.{◌≡◌, refl, sym, ap, subst, ◌∙◌}
use mathlib.Core.Bool.{Bool, true, false, false≢true}
use mathlib.Core.List.{List, [], ◌∷◌, ◌++◌}
use Prim.Native.Nat.{ℕ, ◌-◌}
use native.Mathlib.Omega.{arith}
use borrow.Author.Tests.{ne_eqb}
use lib.ListN.{length}
use lib.Seq.{length-take-le}
use Rattle.answers.specs.Rows.{Row, answer, numbers, is_in, own_numbers, Decides}
use Rattle.answers.proofs.RowLaws.{decides, without}
use Rattle.cba_mode.specs.Sets.{is_set, key_bytes}
use Rattle.cba_mode.specs.Open.{is_false, message_of}
use Rattle.cba_rules.specs.Checks.{set_tag, bad_set, bad_key, bad_nonce, long_data, forged, ciphertext_rows, open_rows}
use Rattle.cba_rules.specs.Refusals.{opening, open_answer, open_leaves, open_output, OpenCall}
use Rattle.cba_rules.proofs.SetLaws.{key-most, held-key}
use Rattle.cba_rules.proofs.RefusalLaws.{key-passed, has_length, false-leaves, open_untouched}
use Rattle.window_rules.specs.Window.{is_repeat}
use Rattle.window_rules.proofs.WindowLaws.{none_yet}
use Rattle.receiver_rules.specs.Receiver.{Receiver, no_receiver, make_rows, make_answer, begin, made_receiver, Fresh, key_of, prefix_of, counter_of, bad_prefix, repeated, receiver_rows, receiver_answer, with_counter, next_receiver, receiver_output, ReceiverCall}
use Rattle.receiver_rules.specs.Runs.{FreshFor, Blank, Left}

-- ---- making

module _ (set : ℕ) (key : List ℕ) (prefix : ℕ) where
  pub made_so : make_answer set key ≡ 0 → made_receiver set key prefix ≡ begin set key prefix
  unfolding made_receiver
  made_so e = rw e refl

  pub made_none : (make_answer set key ≡ 0 → ⊥) → made_receiver set key prefix ≡ no_receiver
  unfolding made_receiver
  made_none n = rw (ne_eqb (make_answer set key) 0 n) refl

  pub made-fresh : make_answer set key ≡ 0 → FreshFor set key prefix (made_receiver set key prefix)
  unfolding make_answer make_rows key_of
  made-fresh e =
      let p = key-passed set (length key) e in
      let k = held-key set key p.0 p.1 in
      subst (FreshFor set key prefix) (sym (made_so e))
      (record { fresh = refl; set_is = refl; prefix-is = refl; key-length = k.0; key-is = k.1; highest-is = refl; marks-are = refl })

  pub made_blank : (make_answer set key ≡ 0 → ⊥) → Blank (made_receiver set key prefix)
  made_blank n =
      subst Blank (sym (made_none n))
      (record { fresh = refl; set_is = refl; prefix-is = refl; key-is = refl; highest-is = refl; marks-are = refl })

-- ---- opening

-- on what a refused making gave it answers 1
pub none_answers : (set : ℕ) (key : List ℕ) (prefix : ℕ) (N A C : List ℕ) (out : ℕ) → (make_answer set key ≡ 0 → ⊥) →
    receiver_answer (made_receiver set key prefix) N A C out ≡ 1
unfolding receiver_answer receiver_rows answer is_set
none_answers set key prefix N A C out n = rw (made_none set key prefix n) refl

-- a key of the set's length passes 2
key-passes : (set : ℕ) (key : List ℕ) (rest : List Row) → (is_set set ≡ true → length key ≡ key_bytes set) →
    answer (bad_set set ∷ rest) ≡ answer (bad_set set ∷ bad_key (key_bytes set) (length key) ∷ rest)
unfolding answer
key-passes set key rest h = go (is_set set) refl
  where
    go : (b : Bool) → is_set set ≡ b → answer (bad_set set ∷ rest) ≡ answer (bad_set set ∷ bad_key (key_bytes set) (length key) ∷ rest)
    go true e = rw (e, has_length (length key) (key_bytes set) (h e)) refl
    go false e = rw e refl

set_key : (v : Receiver) → length v.key ≡ 32 → is_set v.set ≡ true → length (key_of v) ≡ key_bytes v.set
unfolding key_of
set_key v k s = length-take-le (key_bytes v.set) v.key (omega (arith, key-most v.set s, k))

module _ (v : Receiver) (N A C : List ℕ) (out : ℕ) where
  abbrev its_false : Bool
  its_false = is_false (opening v.set (key_of v) N A C)

  abbrev ciphertext : List Row
  ciphertext = ciphertext_rows (set_tag v.set) (length C) out

  abbrev again : Row
  again = repeated (is_repeat v.window (counter_of N))

  pub receiver_decides : Decides (receiver_rows v N (length A) (length C) out its_false) (receiver_answer v N A C out)
  unfolding receiver_answer receiver_rows numbers is_in own_numbers
  receiver_decides = decides (receiver_rows v N (length A) (length C) out its_false) refl

  -- what an acceptance says of the counter
  pub not-repeated : receiver_answer v N A C out ≡ 0 → is_repeat v.window (counter_of N) ≡ false
  unfolding receiver_rows
  not-repeated e = (receiver_decides.accepted e).1.1.1.1.1.1.1.0

  -- and where 12 and 15 are not the answer
  pub not_twelve : prefix_of N ≡ v.prefix → receiver_answer v N A C out ≡ 12 → ⊥
  unfolding receiver_rows
  not_twelve h e =
      let p = (receiver_decides.refused (bad_set v.set ∷ bad_nonce (length N) ∷ []) (bad_prefix v.prefix N) _ refl e).1 in
      false≢true (sym (has_length (prefix_of N) v.prefix h) ∙ p)

  pub not_fifteen : is_repeat v.window (counter_of N) ≡ false → receiver_answer v N A C out ≡ 15 → ⊥
  unfolding receiver_rows
  not_fifteen h e =
      let rows = bad_set v.set ∷ bad_nonce (length N) ∷ bad_prefix v.prefix N ∷ long_data (length A) ∷ ciphertext in
      false≢true (sym h ∙ (receiver_decides.refused rows again _ refl e).1)

  -- without 12 and 15 the rows are those of plain opening but for 2, which a key of the set's length passes
  pub as_plain : length v.key ≡ 32 → (receiver_answer v N A C out ≡ 12 → ⊥) → (receiver_answer v N A C out ≡ 15 → ⊥) →
      receiver_answer v N A C out ≡ answer (open_rows v.set (length (key_of v)) (length N) (length A) (length C) out its_false)
  unfolding receiver_answer receiver_rows open_rows
  as_plain k n12 n15 = e ∙ f ∙ key-passes v.set (key_of v) rest (set_key v k)
    where
      rest : List Row
      rest = bad_nonce (length N) ∷ long_data (length A) ∷ (ciphertext ++ (forged its_false ∷ []))

      e : receiver_answer v N A C out ≡ answer (bad_set v.set ∷ bad_nonce (length N) ∷ long_data (length A) ∷ (ciphertext ++ (again ∷ forged its_false ∷ [])))
      e = without (bad_set v.set ∷ bad_nonce (length N) ∷ []) (bad_prefix v.prefix N) _ n12

      f : answer (bad_set v.set ∷ bad_nonce (length N) ∷ long_data (length A) ∷ (ciphertext ++ (again ∷ forged its_false ∷ []))) ≡ answer (bad_set v.set ∷ rest)
      f = without (bad_set v.set ∷ bad_nonce (length N) ∷ long_data (length A) ∷ ciphertext) again (forged its_false ∷ []) (λ z. n15 (e ∙ z))

module _ (v : Receiver) (N A C out : List ℕ) where
  -- the output goes by the answer
  pub plain-call : length v.key ≡ 32 → (receiver_answer v N A C (length out) ≡ 12 → ⊥) → (receiver_answer v N A C (length out) ≡ 15 → ⊥) →
      OpenCall v.set (key_of v) N A C out (receiver_answer v N A C (length out)) (receiver_output v N A C out)
  unfolding open_answer open_output receiver_output
  plain-call k n12 n15 =
      let e = as_plain v N A C (length out) k n12 n15 in
      (e, ap (λ (a : ℕ). open_leaves a (length C - set_tag v.set) (message_of (opening v.set (key_of v) N A C)) out) e)

  pub new-call : is_repeat v.window (counter_of N) ≡ false → length v.key ≡ 32 → prefix_of N ≡ v.prefix →
      OpenCall v.set (key_of v) N A C out (receiver_answer v N A C (length out)) (receiver_output v N A C out)
  new-call f k h = plain-call k (not_twelve v N A C (length out) h) (not_fifteen v N A C (length out) f)

  pub fresh-call : Fresh v → length v.key ≡ 32 → prefix_of N ≡ v.prefix →
      OpenCall v.set (key_of v) N A C out (receiver_answer v N A C (length out)) (receiver_output v N A C out)
  fresh-call f = new-call (none_yet v.window (counter_of N) f)

  -- what a call leaves
  pub next-refused : (receiver_answer v N A C (length out) ≡ 0 → ⊥) → next_receiver v N A C (length out) ≡ v
  unfolding next_receiver
  next-refused n = rw (ne_eqb (receiver_answer v N A C (length out)) 0 n) refl

  pub next-accepted : receiver_answer v N A C (length out) ≡ 0 → next_receiver v N A C (length out) ≡ with_counter v (counter_of N)
  unfolding next_receiver
  next-accepted e = rw e refl

  pub call-refused : (r : ℕ) → r ≡ receiver_answer v N A C (length out) → (r ≡ 0 → ⊥) → (r ≡ 8 → ⊥) → ReceiverCall v N A C out r v out
  unfolding receiver_output
  call-refused r e p q =
      record { answer-is = e; next-is = sym (next-refused (λ z. p (e ∙ z))); output-is = sym (open_untouched _ _ _ out (λ z. p (e ∙ z)) (λ z. q (e ∙ z))) }

  pub left : (r : ℕ) (v' : Receiver) (out' : List ℕ) → ReceiverCall v N A C out r v' out' → Left v N C out r v' out'
  unfolding receiver_output
  left r v' out' c =
      let a = receiver_answer v N A C (length out) in
      let n = length C - set_tag v.set in
      let M = message_of (opening v.set (key_of v) N A C) in
      record {
        untouched = λ p q. c.output-is ∙ open_untouched a n M out (λ z. p (c.answer-is ∙ z)) (λ z. q (c.answer-is ∙ z));
        zeros = λ e. c.output-is ∙ ap (λ (x : ℕ). open_leaves x n M out) (sym c.answer-is ∙ e) ∙ false-leaves n M out;
        unrecorded = λ n. c.next-is ∙ next-refused (λ z. n (c.answer-is ∙ z));
        recorded = λ e. c.next-is ∙ next-accepted (sym c.answer-is ∙ e);
      }
