-- Plain sealing and plain opening of a known set: what the checks answer, what an accepted input has, and the output.
-- Assumes nothing.
use mathlib.Core.Path.{◌≡◌, refl, sym, ap, ap₂, subst, ◌∙◌}
use mathlib.Core.Bool.{Bool, cond}
use mathlib.Core.List.{List, [], ◌∷◌, ◌++◌}
use Rattle.std.specs.Prelude.{Some, None, Result, IsErrAnd, ⊤}
use Prim.Native.Nat.{ℕ, ◌+◌, ◌-◌, ◌/◌}
use native.Mathlib.Omega.{arith}
use borrow.Author.Tests.{ne_eqb}
use lib.Dec.{T, eqb}
use lib.ListN.{length, drop, replicate, length-replicate}
use Rattle.octets.proofs.Parts.{size_of}
use Rattle.answers.specs.Rows.{Row, answer, first_of, numbers, is_in}
use Rattle.answers.specs.declared.refusals.Refusal.{Refusal}
use Rattle.answers.specs.Refusals.{number_of_refusal, number_of}
use Rattle.answers.proofs.RowLaws.{listed}
use Rattle.answers.proofs.RefusalLaws.{refusal_not_zero, handed_on}
use Rattle.fips197.specs.Cipher.{cipher, inv_cipher}
use Rattle.cba_mode.specs.Sets.{capacity, key_bytes, tag_bytes}
use Rattle.cba_mode.specs.Seal.{ENC}
use Rattle.cba_mode.specs.Open.{Opened, Answered, is_false, message_of, DEC}
use Rattle.cba_mode.specs.Open.Opened.{opened, refused}
use Rattle.octets.specs.Strings.{over}
use Rattle.cba_rules.specs.Checks.{set_tag, bad_set, seal_checks, seal_rows, open_checks, open_rows}
use Rattle.cba_rules.specs.Refusals.{sealing, opening, seal_answer, open_answer, seal_leaves, seal_output, open_leaves, open_output, SealCall, OpenCall}
use Rattle.cba_rules.proofs.SetLaws.{set-fits, set_key}
use Rattle.cba_rules.proofs.RefusalLaws.{Common, Opens, seal_refusals, seal_accepted, open_refusals, open_checked, open_parts, open_decides}
use Rattle.cba_steps.specs.declared.parameters.Parameters.{Parameters}
use Rattle.plain.specs.Lookup.{lookup_of}
use Rattle.plain.specs.Accepted.{Sealable, SealedBy, Openable, OpenedBy}
use Rattle.plain.proofs.SetLaws.{is_known, its_values, unknown-answers}

-- ---- sealing

-- a refusal leaves the output
pub seal_refused : (set : ℕ) (key N A M out : List ℕ) (r : ℕ) → r ≡ seal_answer set key N A M out → (r ≡ 0 → ⊥) → SealCall set key N A M out r out
seal_refused set key N A M out r e n = (e, sym ((seal_refusals set key N A M out _ _ (refl, refl)).untouched (λ z. n (e ∙ z))))

pub seal_unknown : (set : ℕ) (key N A M out : List ℕ) → lookup_of set ≡ None → SealCall set key N A M out 1 out
unfolding seal_answer seal_rows
seal_unknown set key N A M out h = seal_refused set key N A M out 1 (unknown-answers set _ h) (λ z. omega (arith, z))

module _ (set : ℕ) (p : Parameters) (known : lookup_of set ≡ Some p) (key N A M out : List ℕ) where
  abbrev seal_list : List Row
  seal_list = seal_checks (p.key / 8) (tag_bytes p.tau) (length key) (length N) (length A) (length M) (length out)

  -- the checks by p's values are those by the set's
  seal_checked : answer seal_list ≡ seal_answer set key N A M out
  unfolding seal_answer seal_rows answer
  seal_checked =
      let v = its_values set p known in
      ap₂ (λ (x y : ℕ). answer (seal_checks (x / 8) (tag_bytes y) (length key) (length N) (length A) (length M) (length out))) v.0 v.1
      ∙ rw (is_known set p known) refl

  pub seal_stopped : (r : Result ⊤ Refusal) (x : Refusal) → IsErrAnd r (λ (y : Refusal). y ≡ x) → number_of_refusal x ≡ answer seal_list → SealCall set key N A M out (number_of r) out
  seal_stopped r x h e =
      let n = handed_on r x h in
      seal_refused set key N A M out _ (n ∙ e ∙ seal_checked) (λ z. refusal_not_zero x (sym n ∙ z))

  pub seal_ready : 0 ≡ answer seal_list → Sealable p key N A M out
  seal_ready e =
      let a = seal_accepted set key N A M out (sym (e ∙ seal_checked)) in
      let v = its_values set p known in
      record {
        is-key = set_key set key a.0.is-set a.0.key-length;
        data_limit = a.0.data_limit;
        seals = record { given = record { fits = rw (v.1, v.2) (set-fits set a.0.is-set); nonce = a.0.nonce-length }; room = rw v.1 a.1.room };
      }

  -- where the code wrote ENC
  pub seal_written : (r : List ℕ) → 0 ≡ answer seal_list → SealedBy p key N A M out r → length r ≡ length out → SealCall set key N A M out 0 r
  unfolding seal_output seal_leaves sealing
  seal_written r f w l =
      let e = sym (f ∙ seal_checked) in
      let C = sealing set key N A M in
      let v = its_values set p known in
      let w' : r ≡ C ++ drop (length M + set_tag set) out = w ∙ ap₂ (λ (x y : ℕ). ENC (cipher key) x y N A M ++ drop (length M + tag_bytes x) out) v.1 v.2 in
      let n : length C ≡ length M + set_tag set = size_of out C r (length M + set_tag set) w' l (seal_accepted set key N A M out e).1.room in
      (sym e, w' ∙ ap (λ (k : ℕ). C ++ drop k out) (sym n) ∙ ap (λ (a : ℕ). cond (eqb a 0) (over C out) out) (sym e))

-- ---- opening

open_refused : (set : ℕ) (key N A C out : List ℕ) (r : ℕ) → r ≡ open_answer set key N A C out → (r ≡ 0 → ⊥) → (r ≡ 8 → ⊥) → OpenCall set key N A C out r out
open_refused set key N A C out r e n m = (e, sym ((open_refusals set key N A C out _ _ (refl, refl)).untouched (λ z. n (e ∙ z)) (λ z. m (e ∙ z))))

pub open_unknown : (set : ℕ) (key N A C out : List ℕ) → lookup_of set ≡ None → OpenCall set key N A C out 1 out
unfolding open_answer open_rows
open_unknown set key N A C out h = open_refused set key N A C out 1 (unknown-answers set _ h) (λ z. omega (arith, z)) (λ z. omega (arith, z))

module _ (set : ℕ) (p : Parameters) (known : lookup_of set ≡ Some p) (key N A C out : List ℕ) where
  abbrev open_list : List Row
  open_list = open_checks (p.key / 8) (tag_bytes p.tau) (length key) (length N) (length A) (length C) (length out)

  -- the checks by p's values are those by the set's
  before-false : answer open_list ≡ answer (bad_set set ∷ open_checks (key_bytes set) (set_tag set) (length key) (length N) (length A) (length C) (length out))
  unfolding answer
  before-false =
      let v = its_values set p known in
      ap₂ (λ (x y : ℕ). answer (open_checks (x / 8) (tag_bytes y) (length key) (length N) (length A) (length C) (length out))) v.0 v.1
      ∙ rw (is_known set p known) refl

  -- none of them answers 8
  not_eight : answer open_list ≡ 8 → ⊥
  unfolding numbers is_in
  not_eight e = subst T (sym (ap (λ (n : ℕ). is_in n (0 ∷ numbers open_list)) (sym e) ∙ listed open_list)) tt

  pub open_stopped : (r : Result ⊤ Refusal) (x : Refusal) → IsErrAnd r (λ (y : Refusal). y ≡ x) → number_of_refusal x ≡ answer open_list → OpenCall set key N A C out (number_of r) out
  unfolding first_of
  open_stopped r x h f =
      let b = before-false in
      let n = handed_on r x h in
      let e = n ∙ f in
      open_refused set key N A C out _
      (e ∙ b ∙ sym (open_parts set key N A C out ∙ rw (ne_eqb (answer (bad_set set ∷ open_checks (key_bytes set) (set_tag set) (length key) (length N) (length A) (length C) (length out))) 0 (λ z. refusal_not_zero x (f ∙ b ∙ z))) refl))
      (λ z. refusal_not_zero x (sym n ∙ z)) (λ z. not_eight (sym e ∙ z))

  pub open_ready : 0 ≡ answer open_list → Openable p key N A C out
  open_ready e =
      let a = open_checked set key N A C out (sym (e ∙ before-false)) in
      let v = its_values set p known in
      record {
        is-key = set_key set key a.0.is-set a.0.key-length;
        data_limit = a.0.data_limit;
        opens =
            record {
              given = record { fits = rw (v.1, v.2) (set-fits set a.0.is-set); nonce = a.0.nonce-length };
              least = rw v.1 a.1.least;
              room = rw v.1 (omega (arith, a.1.room));
            };
      }

  -- the code's decision b, where it wrote the message or zeros
  pub open_decided : (r : List ℕ) (b : Bool) → 0 ≡ answer open_list → OpenedBy p key N A C b out r → length r ≡ length out → OpenCall set key N A C out (cond b 0 8) r
  unfolding opening open_output open_leaves is_false message_of
  open_decided r b e w l = go (opening set key N A C) refl its_own
    where
      n : ℕ
      n = length C - set_tag set

      passed : Common set (length key) (length N) (length A) × Opens (set_tag set) (length C) (length out)
      passed = open_checked set key N A C out (sym (e ∙ before-false))

      -- with the set's values for p's
      its_own : Answered (opening set key N A C) n b out r
      its_own =
          let v = its_values set p known in
          subst (λ (τ : ℕ). Answered (DEC (cipher key) (inv_cipher key) τ (capacity set) N A C) (length C - tag_bytes τ) b out r) v.1
          (subst (λ (c : ℕ). Answered (DEC (cipher key) (inv_cipher key) p.tau c N A C) (length C - tag_bytes p.tau) b out r) v.2 w)

      answered : (x : Opened) → opening set key N A C ≡ x → open_answer set key N A C out ≡ cond (is_false x) 8 0
      answered x f = open_decides set key N A C out passed.0 passed.1 ∙ ap (λ (y : Opened). cond (is_false y) 8 0) f

      left : (x : Opened) (a : ℕ) → opening set key N A C ≡ x → open_answer set key N A C out ≡ a → open_leaves a n (message_of x) out ≡ open_output set key N A C out
      left x a f g = sym (ap₂ (λ (j : ℕ) (y : Opened). open_leaves j n (message_of y) out) g f)

      go : (x : Opened) → opening set key N A C ≡ x → Answered x n b out r → OpenCall set key N A C out (cond b 0 8) r
      go (opened M) e f =
          let a = answered (opened M) e in
          let z : r ≡ M ++ drop n out = f.1 ∙ ap (λ (x : Bool). cond x M (replicate n 0) ++ drop n out) f.0 in
          let m : length M ≡ n = size_of out M r n z l passed.1.room in
          (ap (λ (x : Bool). cond {A = ℕ} x 0 8) f.0 ∙ sym a, z ∙ ap (λ (j : ℕ). M ++ drop j out) (sym m) ∙ left (opened M) 0 e a)
      go refused e f =
          let a = answered refused e in
          (ap (λ (x : Bool). cond {A = ℕ} x 0 8) f.0 ∙ sym a, f.1 ∙ ap (λ (x : Bool). cond x [] (replicate n 0) ++ drop n out) f.0 ∙ ap (λ (j : ℕ). replicate n 0 ++ drop j out) (sym (length-replicate n 0)) ∙ left refused 8 e a)
