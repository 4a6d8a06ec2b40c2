-- Where the two calls about marks end: what they answer there is what the rows say.
-- Assumes nothing.
use mathlib.Core.Path.{◌≡◌, sym, ap, ◌∙◌}
use mathlib.Core.Bool.{Bool, true, false, cond, not}
use mathlib.Core.List.{List, [], ◌∷◌}
use Prim.Native.Nat.{ℕ, ◌<◌, ◌≤◌}
use native.Mathlib.Omega.{arith}
use borrow.Author.Tests.{lt-ltb, le-ltb}
use lib.Dec.{eqb}
use lib.ListN.{length, take}
use Rattle.octets.specs.Strings.{over, eqs}
use Rattle.answers.specs.Rows.{answer}
use Rattle.std.specs.Prelude.{Result, IsErrAnd, ⊤}
use Rattle.answers.specs.declared.refusals.Refusal.{Refusal}
use Rattle.answers.specs.Refusals.{number_of_refusal, number_of}
use Rattle.answers.proofs.RowLaws.{refuses, accepts}
use Rattle.answers.proofs.RefusalLaws.{refusal_not_zero, handed_on, refused_first, passed_first}
use Rattle.cba_rules.specs.Checks.{no_room, forged}
use Rattle.cmac_rules.specs.Cmac.{cmac, mark}
use Rattle.cmac_rules.specs.Marks.{mark_rows, make_answer, make_output, is_start, is_wrong, check_answer, MakeCall, CheckCall}
use Rattle.cmac_rules.proofs.MarkLaws.{own-mark, make_untouched}

-- ---- a call that stops at a refusal of what both begin with, and one that goes on

module _ (key log : List ℕ) (n : ℕ) (out : List ℕ) where
  pub make_refused : (r : Result ⊤ Refusal) (x : Refusal) → IsErrAnd r (λ (y : Refusal). y ≡ x) → number_of_refusal x ≡ answer (mark_rows key (length log) n) →
      MakeCall key log n out (number_of r) out
  unfolding make_answer
  make_refused r x h e =
      let a = refused_first (mark_rows key (length log) n) (no_room n (length out) ∷ []) (own-mark key (length log) n) r x h e in
      (a, sym (make_untouched key log n out (λ z. refusal_not_zero x (sym (handed_on r x h) ∙ a ∙ z))))

  module _ (e : 0 ≡ answer (mark_rows key (length log) n)) where
    -- the last check decides
    room : {a : ℕ} → a ≡ answer (no_room n (length out) ∷ []) → a ≡ make_answer key log n out
    unfolding make_answer
    room f = passed_first (mark_rows key (length log) n) (no_room n (length out) ∷ []) (own-mark key (length log) n) e f

    pub make_no-room : length out < n → MakeCall key log n out 7 out
    make_no-room h =
        let a = room (sym (refuses [] (no_room n (length out)) [] tt (lt-ltb (length out) n h))) in
        (a, sym (make_untouched key log n out (λ y. omega (arith, a ∙ y))))

    pub made : (t out' : List ℕ) → n ≤ length out → t ≡ cmac key log → out' ≡ over (take n t) out → MakeCall key log n out 0 out'
    unfolding make_output mark
    made t out' h f g =
        let a = room (sym (accepts (no_room n (length out) ∷ []) (le-ltb (length out) n h, tt))) in
        (a, g ∙ ap (λ (x : List ℕ). over (take n x) out) f ∙ ap (λ (b : ℕ). cond (eqb b 0) (over (mark key log n) out) out) a)

module _ (key log m : List ℕ) where
  pub check-refused : (r : Result ⊤ Refusal) (x : Refusal) → IsErrAnd r (λ (y : Refusal). y ≡ x) → number_of_refusal x ≡ answer (mark_rows key (length log) (length m)) →
      CheckCall key log m (number_of r)
  unfolding check_answer
  check-refused r x h e = refused_first (mark_rows key (length log) (length m)) (forged (is_wrong key log m) ∷ []) (own-mark key (length log) (length m)) r x h e

  -- b is what the comparison says
  pub compared : 0 ≡ answer (mark_rows key (length log) (length m)) → (t : List ℕ) {b : Bool} → t ≡ cmac key log → b ≡ eqs m (take (length m) t) →
      CheckCall key log m (cond b 0 8)
  unfolding check_answer is_start is_wrong mark
  compared e t {b} f g =
      passed_first (mark_rows key (length log) (length m)) (forged (is_wrong key log m) ∷ []) (own-mark key (length log) (length m)) e
      (go b (g ∙ ap (λ (x : List ℕ). eqs m (take (length m) x)) f))
    where
      go : (x : Bool) → x ≡ eqs m (mark key log (length m)) → cond {A = ℕ} x 0 8 ≡ answer (forged (is_wrong key log m) ∷ [])
      go true h = sym (accepts (forged (is_wrong key log m) ∷ []) (sym (ap not h), tt))
      go false h = sym (refuses [] (forged (is_wrong key log m)) [] tt (sym (ap not h)))
