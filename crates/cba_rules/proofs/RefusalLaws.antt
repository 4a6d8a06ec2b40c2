-- What the plain calls answer: the checks as facts about lengths, and what a refusal leaves in the output. The example calls are
-- checked before these laws.
-- Assumes nothing.
use mathlib.Core.Path.{◌≡◌, refl, sym, ap, subst, ◌∙◌}
use mathlib.Core.Bool.{true, false, cond, not}
use mathlib.Core.List.{List, [], ◌∷◌, ◌++◌}
use Prim.Native.Nat.{ℕ, ◌+◌, ◌-◌, ◌≤◌}
use borrow.Author.Tests.{eq-eqb, ne_eqb, eqb-true, le-ltb, ltb-false}
use lib.Dec.{eqb}
use lib.ListN.{length, drop, replicate, length-replicate}
use Rattle.answers.specs.Rows.{Row, answer, first_of, Passes, numbers, is_in, own_numbers, Decides}
use Rattle.answers.proofs.RowLaws.{not-false, accepts, passes-parts, passed, refused, decides, two-parts}
use Rattle.cba_mode.specs.Sets.{is_set, key_bytes}
use Rattle.cba_mode.specs.Open.{is_false, message_of}
use Rattle.cba_rules.specs.Checks.{set_tag, bad_set, bad_key, bad_nonce, long_data, forged, key_rows, message_rows, ciphertext_rows, seal_rows, open_checks, open_rows}
use Rattle.cba_rules.specs.Refusals.{sealing, opening, seal_answer, open_answer, seal_leaves, seal_output, open_leaves, open_output, SealCall, OpenCall}
use Rattle.cba_rules.specs.Demands.{SealRefusals, OpenRefusals}
use Rattle.cba_rules.proofs.Examples

-- ---- the checks as facts about lengths

-- what every plain call begins with passes
pub record Common (set key nonce ad : ℕ) : Type 0 where
  pub is-set : is_set set ≡ true
  pub key-length : key ≡ key_bytes set
  pub nonce-length : nonce ≡ 12
  pub data_limit : ad ≤ 4096

pub is-length : (k n : ℕ) → not (eqb k n) ≡ false → k ≡ n
is-length k n h = eqb-true k n (not-false (eqb k n) h)

pub has_length : (k n : ℕ) → k ≡ n → not (eqb k n) ≡ false
has_length k n e = ap not (eq-eqb k n e)

pub other_length : (k n : ℕ) → (k ≡ n → ⊥) → not (eqb k n) ≡ true
other_length k n h = ap not (ne_eqb k n h)

module _ (set key nonce ad : ℕ) (rows : List Row) where
  begin_with : Common set key nonce ad → Passes rows → Passes (bad_set set ∷ bad_key (key_bytes set) key ∷ bad_nonce nonce ∷ long_data ad ∷ rows)
  begin_with c p =
      (ap not c.is-set, (has_length key (key_bytes set) c.key-length, (has_length nonce 12 c.nonce-length, (le-ltb 4096 ad c.data_limit, p))))

  begun_with : Passes (bad_set set ∷ bad_key (key_bytes set) key ∷ bad_nonce nonce ∷ long_data ad ∷ rows) → Common set key nonce ad × Passes rows
  begun_with p = (
    record {
      is-set = not-false (is_set set) p.0;
      key-length = is-length key (key_bytes set) p.1.0;
      nonce-length = is-length nonce 12 p.1.1.0;
      data_limit = ltb-false 4096 ad p.1.1.1.0;
    },
    p.1.1.1.1,
  )

-- a set and a key of its length pass, and nothing else does
pub key-accepts : (set key : ℕ) → is_set set ≡ true → key ≡ key_bytes set → answer (key_rows set key) ≡ 0
key-accepts set key s k = accepts (key_rows set key) (ap not s, (has_length key (key_bytes set) k, tt))

pub key-passed : (set key : ℕ) → answer (key_rows set key) ≡ 0 → (is_set set ≡ true) × (key ≡ key_bytes set)
unfolding numbers is_in own_numbers
key-passed set key e = let p = passed (key_rows set key) refl e in (not-false (is_set set) p.0, is-length key (key_bytes set) p.1.0)

-- a message that goes into out with its tag, and a ciphertext whose message does
pub record Seals (t message out : ℕ) : Type 0 where
  pub limit : message ≤ 65536
  pub room : message + t ≤ out

pub record Opens (t ciphertext out : ℕ) : Type 0 where
  pub limit : ciphertext ≤ 65536 + t
  pub least : t ≤ ciphertext
  pub room : ciphertext - t ≤ out

pub message-passes : (t message out : ℕ) → Seals t message out → Passes (message_rows t message out)
message-passes t message out s = (le-ltb 65536 message s.limit, (le-ltb out (message + t) s.room, tt))

pub message-passed : (t message out : ℕ) → Passes (message_rows t message out) → Seals t message out
message-passed t message out p = record { limit = ltb-false 65536 message p.0; room = ltb-false out (message + t) p.1.0 }

ciphertext-passes : (t ciphertext out : ℕ) → Opens t ciphertext out → Passes (ciphertext_rows t ciphertext out)
ciphertext-passes t ciphertext out s =
    (le-ltb (65536 + t) ciphertext s.limit, (le-ltb ciphertext t s.least, (le-ltb out (ciphertext - t) s.room, tt)))

ciphertext-passed : (t ciphertext out : ℕ) → Passes (ciphertext_rows t ciphertext out) → Opens t ciphertext out
ciphertext-passed t ciphertext out p =
    record {
      limit = ltb-false (65536 + t) ciphertext p.0;
      least = ltb-false ciphertext t p.1.0;
      room = ltb-false out (ciphertext - t) p.1.1.0;
    }

-- ---- what a refusal leaves

-- 8: zeros over the first n bytes, and the others as before
pub false-leaves : (n : ℕ) (M out : List ℕ) → open_leaves 8 n M out ≡ replicate n 0 ++ drop n out
unfolding open_leaves
false-leaves n M out = ap (λ (k : ℕ). replicate n 0 ++ drop k out) (length-replicate n 0)

-- every other refusal: nothing is written
pub open_untouched : (a n : ℕ) (M out : List ℕ) → (a ≡ 0 → ⊥) → (a ≡ 8 → ⊥) → open_leaves a n M out ≡ out
unfolding open_leaves
open_untouched a n M out p q = rw (ne_eqb a 0 p, ne_eqb a 8 q)

pub seal_untouched : (a : ℕ) (C out : List ℕ) → (a ≡ 0 → ⊥) → seal_leaves a C out ≡ out
unfolding seal_leaves
seal_untouched a C out p = rw (ne_eqb a 0 p)

-- ---- sealing

module _ (set : ℕ) (key N A M out : List ℕ) where
  pub seal_refusals : (r : ℕ) (out' : List ℕ) → SealCall set key N A M out r out' → SealRefusals set key N A M out r out'
  unfolding seal_answer seal_output seal_rows numbers is_in own_numbers
  seal_refusals r out' c =
      let rows = seal_rows set (length key) (length N) (length A) (length M) (length out) in
      record {
        decides = subst (Decides rows) (sym c.0) (decides rows refl);
        untouched = λ n. c.1 ∙ seal_untouched (seal_answer set key N A M out) (sealing set key N A M) out (λ z. n (c.0 ∙ z));
      }

  pub seal_accepts : Common set (length key) (length N) (length A) → Seals (set_tag set) (length M) (length out) → seal_answer set key N A M out ≡ 0
  unfolding seal_answer seal_rows
  seal_accepts c s =
      accepts (seal_rows set (length key) (length N) (length A) (length M) (length out))
      (begin_with set (length key) (length N) (length A) (message_rows (set_tag set) (length M) (length out)) c (message-passes (set_tag set) (length M) (length out) s))

  pub seal_accepted : seal_answer set key N A M out ≡ 0 → Common set (length key) (length N) (length A) × Seals (set_tag set) (length M) (length out)
  unfolding seal_answer seal_rows numbers is_in own_numbers
  seal_accepted e =
      let p = begun_with set (length key) (length N) (length A) (message_rows (set_tag set) (length M) (length out)) (passed (seal_rows set (length key) (length N) (length A) (length M) (length out)) refl e) in
      (p.0, message-passed (set_tag set) (length M) (length out) p.1)

-- ---- opening

module _ (set : ℕ) (key N A C out : List ℕ) where
  pub open_refusals : (r : ℕ) (out' : List ℕ) → OpenCall set key N A C out r out' → OpenRefusals set key N A C out r out'
  unfolding open_answer open_output open_rows numbers is_in own_numbers
  open_refusals r out' c =
      let rows = open_rows set (length key) (length N) (length A) (length C) (length out) (is_false (opening set key N A C)) in
      let n = length C - set_tag set in
      let M = message_of (opening set key N A C) in
      record {
        decides = subst (Decides rows) (sym c.0) (decides rows refl);
        untouched = λ p q. c.1 ∙ open_untouched (open_answer set key N A C out) n M out (λ z. p (c.0 ∙ z)) (λ z. q (c.0 ∙ z));
        zeros = λ e. c.1 ∙ ap (λ (a : ℕ). open_leaves a n M out) (sym c.0 ∙ e) ∙ false-leaves n M out;
      }

  -- the checks before 8
  abbrev before : List Row
  before = bad_set set ∷ open_checks (key_bytes set) (set_tag set) (length key) (length N) (length A) (length C) (length out)

  before-passed : Passes before → Common set (length key) (length N) (length A) × Opens (set_tag set) (length C) (length out)
  before-passed q =
      let p = begun_with set (length key) (length N) (length A) (ciphertext_rows (set_tag set) (length C) (length out)) q in
      (p.0, ciphertext-passed (set_tag set) (length C) (length out) p.1)

  pub open_checked : answer before ≡ 0 → Common set (length key) (length N) (length A) × Opens (set_tag set) (length C) (length out)
  unfolding numbers is_in own_numbers
  open_checked e = before-passed (passed before refl e)

  pub open_parts : open_answer set key N A C out ≡ first_of (answer before) (cond (is_false (opening set key N A C)) 8 0)
  unfolding open_answer open_rows answer numbers is_in own_numbers
  open_parts = two-parts before (forged (is_false (opening set key N A C)) ∷ []) refl

  -- then DEC decides
  pub open_decides : Common set (length key) (length N) (length A) → Opens (set_tag set) (length C) (length out) →
      open_answer set key N A C out ≡ cond (is_false (opening set key N A C)) 8 0
  unfolding first_of
  open_decides c s =
      let z = accepts before (begin_with set (length key) (length N) (length A) (ciphertext_rows (set_tag set) (length C) (length out)) c (ciphertext-passes (set_tag set) (length C) (length out) s)) in
      open_parts ∙ ap (λ (a : ℕ). first_of a (cond (is_false (opening set key N A C)) 8 0)) z

  pub open_accepted : open_answer set key N A C out ≡ 0 →
      (Common set (length key) (length N) (length A) × Opens (set_tag set) (length C) (length out)) × (is_false (opening set key N A C) ≡ false)
  unfolding open_answer open_rows numbers is_in own_numbers
  open_accepted e =
      let p = passes-parts before (forged (is_false (opening set key N A C)) ∷ []) (passed (before ++ (forged (is_false (opening set key N A C)) ∷ [])) refl e) in
      (before-passed p.0, p.1.0)

  pub open_false : open_answer set key N A C out ≡ 8 →
      (Common set (length key) (length N) (length A) × Opens (set_tag set) (length C) (length out)) × (is_false (opening set key N A C) ≡ true)
  unfolding open_answer open_rows numbers is_in own_numbers
  open_false e = let p = refused before (forged (is_false (opening set key N A C))) [] refl e in (before-passed p.0, p.1)
