-- What a line is answered: the rows, the numbers that there are, and the plain calls.
-- Assumes nothing.
use mathlib.Core.Path.{◌≡◌, refl, sym, ap, subst, ◌∙◌}
use mathlib.Core.Bool.{Bool, true, false, cond, ◌&&◌, ◌||◌}
use mathlib.Core.List.{List, [], ◌∷◌, ◌++◌}
use Prim.Native.Nat.{ℕ, ◌+◌, ◌-◌, ◌≤◌}
use native.Mathlib.Omega.{arith}
use borrow.Author.Tests.{eq-eqb, ne_eqb, eqb-true, leb-true, le-ltb, ltb-true}
use lib.Dec.{T, eqb, leb, ltb}
use lib.ListN.{length, length-replicate}
use Rattle.octets.specs.Strings.{over}
use Rattle.answers.specs.Rows.{Row, answer, numbers, is_in, all_in, own_numbers}
use Rattle.answers.specs.Table.{table, numbers_of}
use Rattle.answers.proofs.RowLaws.{not-false, both, decides}
use Rattle.cba_mode.specs.Sets.{is_set, key_bytes}
use Rattle.cba_rules.specs.Checks.{set_tag, bad_set, bad_key, bad_nonce, long_data, forged, message_rows, ciphertext_rows, seal_rows, open_rows}
use Rattle.cba_rules.specs.Refusals.{seal_answer, open_answer, seal_leaves, seal_output, open_leaves, open_output, SealCall, OpenCall}
use Rattle.cba_rules.specs.Demands.{AllBytes}
use Rattle.cba_rules.proofs.SetLaws.{set-fits}
use Rattle.hub_grammar.specs.Lines.{line_limit, Request, Parsed, Writable, written, parse}
use Rattle.hub_grammar.specs.Lines.Parsed.{asked, malformed}
use Rattle.hub_grammar.proofs.Grammar.{grammar, half, parse-long}
use Rattle.hub_rules.specs.Answers.{room, request_answer, request_result, answer_of, result_of, accepted_set}
use Rattle.hub_rules.specs.Calls.{is_malformed, call_rows, line_rows, Says, LineTheorems}
use Rattle.hub_rules.proofs.Examples.{examples}

-- ---- an output that is long enough does not count

pub tag-most : (set : ℕ) → is_set set ≡ true → set_tag set ≤ 16
tag-most set h = let f = (set-fits set h).0 in omega arith

module _ (set : ℕ) (key N A text o o' : List ℕ) where
  pub seal_any : (is_set set ≡ true → length text + set_tag set ≤ length o) → (is_set set ≡ true → length text + set_tag set ≤ length o') →
      seal_answer set key N A text o ≡ seal_answer set key N A text o'
  unfolding seal_answer seal_rows answer
  seal_any h h' = go (is_set set) refl
    where
      go : (b : Bool) → is_set set ≡ b → seal_answer set key N A text o ≡ seal_answer set key N A text o'
      go false e = rw e
      go true e = rw (le-ltb (length o) (length text + set_tag set) (h e), le-ltb (length o') (length text + set_tag set) (h' e))

  pub open_any : length text - set_tag set ≤ length o → length text - set_tag set ≤ length o' → open_answer set key N A text o ≡ open_answer set key N A text o'
  unfolding open_answer open_rows answer
  open_any h h' = rw (le-ltb (length o) (length text - set_tag set) h, le-ltb (length o') (length text - set_tag set) h')

-- the program's own output is
module _ (q : Request) where
  room-length : length (room q) ≡ length q.text + 16
  room-length = length-replicate (length q.text + 16) 0

  pub room-seals : is_set q.set ≡ true → length q.text + set_tag q.set ≤ length (room q)
  room-seals e = omega (arith, room-length, tag-most q.set e)

  pub room-opens : length q.text - set_tag q.set ≤ length (room q)
  room-opens = omega (arith, room-length)

-- ---- the rows

rows_are : (p : Parsed) → answer_of p ≡ answer (line_rows p)
unfolding answer line_rows call_rows is_malformed answer_of request_answer seal_answer open_answer
rows_are malformed = refl
rows_are (asked q) = go q.seals refl
  where
    go : (b : Bool) → q.seals ≡ b → answer_of (asked q) ≡ answer (line_rows (asked q))
    go true e = rw (e, room-length q)
    go false e = rw (e, room-length q)

own : (p : Parsed) → own_numbers (numbers (line_rows p)) ≡ true
unfolding line_rows call_rows seal_rows open_rows numbers is_in own_numbers
own malformed = refl
own (asked q) = go q.seals refl
  where
    go : (b : Bool) → q.seals ≡ b → own_numbers (numbers (line_rows (asked q))) ≡ true
    go true e = rw e
    go false e = rw e

known : (p : Parsed) → all_in (numbers (line_rows p)) (numbers_of table) ≡ true
unfolding line_rows call_rows seal_rows open_rows numbers is_in all_in numbers_of
known malformed = refl
known (asked q) = go q.seals refl
  where
    go : (b : Bool) → q.seals ≡ b → all_in (numbers (line_rows (asked q))) (numbers_of table) ≡ true
    go true e = rw e
    go false e = rw e

-- ---- the numbers

-- every row that applies, those before it passed, has a number of a list
abbrev Within : List ℕ → List Row → Type 0
Within ns [] = Unit {0}
Within ns (x ∷ rows) = (x.when ≡ true → is_in x.number ns ≡ true) × (x.when ≡ false → Within ns rows)

within : (ns : List ℕ) (rows : List Row) → is_in 0 ns ≡ true → Within ns rows → is_in (answer rows) ns ≡ true
unfolding answer
within ns [] z w = z
within ns (x ∷ rows) z w = go (λ e. within ns rows z (w.1 e)) x.when refl
  where
    go : (x.when ≡ false → is_in (answer rows) ns ≡ true) → (b : Bool) → x.when ≡ b → is_in (cond x.when x.number (answer rows)) ns ≡ true
    go rest true e = rw e (w.0 e)
    go rest false e = rw e (rest e)

abbrev answers : List ℕ
answers = 0 ∷ 1 ∷ 2 ∷ 3 ∷ 6 ∷ 8 ∷ 11 ∷ []

-- a row that does not apply
no : {A : Type 0} (a b : ℕ) → b ≤ a → ltb a b ≡ true → A
no a b h e = absurd (omega (arith, ltb-true a b e, h))

numbered_as : (s : List ℕ) (p : Parsed) → parse s ≡ p → Within answers (line_rows p)
unfolding line_rows call_rows is_malformed seal_rows open_rows is_in
numbered_as s malformed e = (λ z. refl, λ z. tt)
numbered_as s (asked q) e = (λ z. refl, λ z. go q.seals refl)
  where
    short : length q.ad + length q.text ≤ 2048
    short = omega (arith, half q, (grammar.only s q e).0.line-most)

    -- every plain call begins with 1, 2, 3 and 4
    first : (rows : List Row) → (is_set q.set ≡ true → Within answers rows) →
        Within answers (bad_set q.set ∷ bad_key (key_bytes q.set) (length q.key) ∷ bad_nonce (length q.nonce) ∷ long_data (length q.ad) ∷ rows)
    first rows w =
        (λ x. refl, λ i. (λ x. refl, λ x. (λ x. refl, λ x. (no 4096 (length q.ad) (omega (arith, short)), λ x. w (not-false (is_set q.set) i)))))

    go : (b : Bool) → q.seals ≡ b → Within answers (call_rows (asked q))
    go true z =
        rw z
        (first (message_rows (set_tag q.set) (length q.text) (length q.text + 16))
        (λ i. (no 65536 (length q.text) (omega (arith, short)), λ x. (no (length q.text + 16) (length q.text + set_tag q.set) (omega (arith, tag-most q.set i)), λ x. tt))))
    go false z =
        rw z
        (first (ciphertext_rows (set_tag q.set) (length q.text) (length q.text + 16) ++ (forged _ ∷ []))
        (λ i. (no (65536 + set_tag q.set) (length q.text) (omega (arith, short)), λ x. (λ x. refl, λ x. (no (length q.text + 16) (length q.text - set_tag q.set) (omega arith), λ x. (λ x. refl, λ x. tt))))))

-- ---- the plain calls

-- what a request's line is answered
module _ (q : Request) (w : Writable q) {r : ℕ} {out out' : List ℕ} (a : r ≡ request_answer q) where
  said : (r ≡ 0 → out' ≡ over (request_result q) out) → Says (parse (written q)) q.set r out out'
  unfolding answer_of result_of accepted_set request_result
  said h =
      rw (grammar.reads q w)
      (record {
        answer-is = sym a;
        result_is = h;
        refused = λ n. rw (ne_eqb (request_answer q) 0 (λ z. n (a ∙ z)));
        counts = ap (λ (n : ℕ). cond (eqb n 0) q.set 0) (sym a);
      })

module _ (q : Request) (w : Writable q) {r : ℕ} {out out' : List ℕ} where
  seal_says : q.seals ≡ true → length q.text + set_tag q.set ≤ length out →
      SealCall q.set q.key q.nonce q.ad q.text out r out' → Says (parse (written q)) q.set r out out'
  unfolding request_answer request_result seal_output seal_leaves
  seal_says s h c =
      let a : r ≡ request_answer q = rw s (c.0 ∙ seal_any q.set q.key q.nonce q.ad q.text out (room q) (λ e. h) (room-seals q)) in
      said q w a (λ z. c.1 ∙ rw (eq-eqb (request_answer q) 0 (sym a ∙ z), eq-eqb _ 0 (sym c.0 ∙ z), s))

  open_says : q.seals ≡ false → length q.text - set_tag q.set ≤ length out →
      OpenCall q.set q.key q.nonce q.ad q.text out r out' → Says (parse (written q)) q.set r out out'
  unfolding request_answer request_result open_output open_leaves
  open_says s h c =
      let a : r ≡ request_answer q = rw s (c.0 ∙ open_any q.set q.key q.nonce q.ad q.text out (room q) h (room-opens q)) in
      said q w a (λ z. c.1 ∙ rw (eq-eqb (request_answer q) 0 (sym a ∙ z), eq-eqb _ 0 (sym c.0 ∙ z), s))

writable : (q : Request) → q.set ≤ 999 → AllBytes q.key q.nonce q.ad q.text → length (written q) ≤ line_limit → Writable q
writable q m b l =
    record { set-most = m; key-bytes = b.key-bytes; nonce-bytes = b.nonce-bytes; ad-bytes = b.data_bytes; text-bytes = b.text-bytes; line-most = l }

pub theorems : LineTheorems
unfolding answer_of written is_in
theorems =
    record {
      examples = examples;
      decides = λ s. rw (rows_are (parse s)) (decides (line_rows (parse s)) (own (parse s)));
      in_the_table = λ s. known (parse s);
      long = λ s h. ap answer_of (parse-long s h);
      numbered = λ s. rw (rows_are (parse s)) (within answers (line_rows (parse s)) refl (numbered_as s (parse s) refl));
      seals = λ set key N A M m b l out h r out' c.
          let q : Request = record { seals = true; set = set; key = key; nonce = N; ad = A; text = M } in
          seal_says q (writable q m b l) refl h c;
      opens = λ set key N A C m b l out h r out' c.
          let q : Request = record { seals = false; set = set; key = key; nonce = N; ad = A; text = C } in
          open_says q (writable q m b l) refl h c;
    }

-- a number of a list is at most m where all of them are
all_most : ℕ → List ℕ → Bool
all_most m [] = true
all_most m (k ∷ ns) = leb k m && all_most m ns

in_most : (m n : ℕ) (ns : List ℕ) → all_most m ns ≡ true → is_in n ns ≡ true → n ≤ m
unfolding all_most is_in
in_most m n [] a i = absurd (subst T (sym i) tt)
in_most m n (k ∷ ns) a i = let p = both (leb k m) (all_most m ns) a in go p.0 (in_most m n ns p.1) (eqb n k) refl i
  where
    go : leb k m ≡ true → (is_in n ns ≡ true → n ≤ m) → (b : Bool) → eqb n k ≡ b → b || is_in n ns ≡ true → n ≤ m
    go l rest true e j = omega (arith, leb-true k m l, eqb-true n k e)
    go l rest false e j = rest j

pub answer-most : (s : List ℕ) → answer_of (parse s) ≤ 11
unfolding all_most
answer-most s = in_most 11 (answer_of (parse s)) answers refl (theorems.numbered s)
