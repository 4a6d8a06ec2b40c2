-- What a line is answered: the plain calls with an output that is long enough, the reply, and the line of output.
-- Assumes nothing.
use mathlib.Core.Path.{◌≡◌, refl, sym, ap, ap₂, subst, ◌∙◌}
use mathlib.Core.Bool.{Bool, true, false}
use mathlib.Core.List.{List, []}
use Prim.Native.Nat.{ℕ, ◌+◌, ◌-◌, ◌≤◌}
use native.Mathlib.Omega.{arith}
use borrow.Author.Tests.{eq-eqb, ne_eqb}
use lib.Dec.{T, eqb}
use lib.ListN.{length, take}
use Rattle.cba_mode.specs.Open.{message_of}
use Rattle.cba_rules.specs.Refusals.{opening, SealCall, OpenCall}
use Rattle.cba_rules.specs.Demands.{AllBytes}
use Rattle.cba_rules.proofs.RefusalLaws.{seal_accepted, open_accepted}
use Rattle.cba_rules.proofs.Demands.{demand_2, speaks}
use Rattle.std.specs.Prelude.{Some, None, Result, Ok, Err}
use Rattle.std.specs.Result.{IsErrAnd}
use Rattle.answers.specs.declared.refusals.Refusal.{Refusal}
use Rattle.answers.specs.declared.refusals.Refusal.TheVariants.{Line}
use Rattle.answers.specs.Refusals.{number_of_refusal}
use Rattle.answers.proofs.RefusalLaws.{refusal_not_zero}
use Rattle.hub_answer.specs.declared.answer.Accepted.{Accepted}
use Rattle.hub_text.specs.declared.request.Asked.{Asked}
use Rattle.hub_grammar.specs.Lines.{Request, Parsed, Writable, parse}
use Rattle.hub_grammar.specs.Lines.Parsed.{asked, malformed}
use Rattle.hub_text.specs.Cuts.{part}
use Rattle.hub_text.specs.Requests.{seals, request_of, Asks}
use Rattle.hub_rules.specs.Answers.{room, request_answer, request_result, answer_of, result_of, accepted_set, line_text, line_for}
use Rattle.hub_rules.proofs.AnswerLaws.{tag-most, seal_any, open_any, room-seals, room-opens}
use Rattle.hub_text.proofs.CutLaws.{part_length}
use Rattle.text.specs.Writing.{Puts}
use Rattle.hub_answer.specs.Replies.{result_bytes, result_length, Sized, Called, Replies, Answers}
use Rattle.hub_grammar.proofs.Grammar.{grammar}

-- ---- the plain call of a request

-- what its answer r says, and what it leaves in the output, out
pub record Calls (q : Request) (r : ℕ) (out : List ℕ) : Type 0 where
  pub answer-is : r ≡ request_answer q
  pub sized : r ≡ 0 → Sized q.seals q.set (length q.text)
  pub result_is : r ≡ 0 → take (result_length q) out ≡ request_result q

module _ (q : Request) (w : Writable q) (out : List ℕ) (h : length q.text + 16 ≤ length out) (r : ℕ) (out' : List ℕ) where
  abbrev Seals : Type 0
  Seals = SealCall q.set q.key q.nonce q.ad q.text out r out'

  abbrev Opens : Type 0
  Opens = OpenCall q.set q.key q.nonce q.ad q.text out r out'

  seal_is : q.seals ≡ true → Seals → Calls q r out'
  unfolding request_answer request_result
  seal_is s c =
      let a : r ≡ request_answer q = rw s (c.0 ∙ seal_any q.set q.key q.nonce q.ad q.text out (room q) (λ e. omega (arith, tag-most q.set e)) (room-seals q)) in
      record {
        answer-is = a;
        sized = λ e. record { is-set = (seal_accepted q.set q.key q.nonce q.ad q.text out (sym c.0 ∙ e)).0.is-set; long = λ z. absurd (subst T (sym s ∙ z) tt) };
        result_is = λ e.
            let accepted = seal_accepted q.set q.key q.nonce q.ad q.text out (sym c.0 ∙ e) in
            let p = accepted.0 in
            rw (eq-eqb (request_answer q) 0 (sym a ∙ e), s)
            (speaks.seals q.set q.key q.nonce q.ad q.text
            (record {
              is-set = p.is-set;
              its_key = record { size = p.key-length; small = w.key-bytes };
              its_nonce = record { size = p.nonce-length; small = w.nonce-bytes };
              its_data = w.ad-bytes;
              data_limit = p.data_limit;
            })
            (record { bytes = w.text-bytes; limit = accepted.1.limit }) out (omega (arith, tag-most q.set p.is-set)) r out' c).1;
      }

  open_is : q.seals ≡ false → Opens → Calls q r out'
  unfolding request_answer request_result opening message_of
  open_is s c =
      let a : r ≡ request_answer q = rw s (c.0 ∙ open_any q.set q.key q.nonce q.ad q.text out (room q) (omega arith) (room-opens q)) in
      record {
        answer-is = a;
        sized = λ e.
            let accepted = (open_accepted q.set q.key q.nonce q.ad q.text out (sym c.0 ∙ e)).0 in
            record { is-set = accepted.0.is-set; long = λ z. accepted.1.least };
        result_is = λ e.
            let b : AllBytes q.key q.nonce q.ad q.text =
            record { key-bytes = w.key-bytes; nonce-bytes = w.nonce-bytes; data_bytes = w.ad-bytes; text-bytes = w.text-bytes } in
            rw (eq-eqb (request_answer q) 0 (sym a ∙ e), s)
            (sym (ap message_of (demand_2.opens q.set q.key q.nonce q.ad q.text out r out' b c e).0));
      }

  pub call-is : Called q out r out' → Calls q r out'
  call-is c = go q.seals refl
    where
      go : (b : Bool) → q.seals ≡ b → Calls q r out'
      go true s = seal_is s (c.sealed s)
      go false s = open_is s (c.opened s)

-- ---- the reply

pub reply_malformed : {p : Parsed} (b : List ℕ) → p ≡ malformed → Replies p (Err Line) b
unfolding answer_of accepted_set result_of
reply_malformed b e = rw e (record { answer-is = refl; set_is = refl; fits = omega arith; result_is = refl })

reply_refused : {q : Request} (e : Refusal) {b : List ℕ} → Calls q (number_of_refusal e) b → Replies (asked q) (Err e) b
unfolding answer_of accepted_set result_of request_result
reply_refused {q} e c =
    let z : eqb (request_answer q) 0 ≡ false = ne_eqb (request_answer q) 0 (λ z. refusal_not_zero e (c.answer-is ∙ z)) in
    record { answer-is = c.answer-is; set_is = rw z refl; fits = omega arith; result_is = rw z refl }

reply_accepted : {q : Request} {n : ℕ} {b : List ℕ} → Calls q 0 b → n ≡ result_length q → n ≤ length b → Replies (asked q) (Ok (record { set = q.set; size = n })) b
unfolding answer_of accepted_set result_of
reply_accepted {q} {b = b} c l h =
    record {
      answer-is = c.answer-is;
      set_is = rw (eq-eqb (request_answer q) 0 (sym c.answer-is)) refl;
      fits = h;
      result_is = ap (λ (k : ℕ). take k b) l ∙ c.result_is refl;
    }

result_most : (seals : Bool) (set n : ℕ) → Sized seals set n → result_bytes seals set n ≤ n + 16
result_most true set n s = omega (arith, tag-most set s.is-set)
result_most false set n s = omega arith

-- a line that was read, and the call that it asks for
text-length : {s b₀ b : List ℕ} {a : Asked} → Asks s a b₀ b → length (part b a.ad a.text) ≡ a.text - a.ad
text-length {b = b} {a = a} read = let o = read.placed.ordered in part_length b a.ad a.text o.2 o.3

module _ {s b₀ b out out' : List ℕ} {a : Asked} (read : Asks s a b₀ b) (h : length b + 16 ≤ length out) where
  call : {r : ℕ} → Called (request_of a b) out r out' → Calls (request_of a b) r out'
  call {r} called =
      let o = read.placed.ordered in
      call-is (request_of a b) (grammar.only s (request_of a b) read.asked_is).0 out (omega (arith, text-length read, o.3)) r out' called

  pub read-refused : (e : Refusal) → Called (request_of a b) out (number_of_refusal e) out' → Replies (parse s) (Err e) out'
  read-refused e called = rw read.asked_is (reply_refused e (call called))

  module _ (called : Called (request_of a b) out 0 out') where
    pub read-sized : Sized (seals a.act) a.set (a.text - a.ad)
    read-sized = subst (Sized (seals a.act) a.set) (text-length read) ((call called).sized refl)

    pub read-accepted : {n : ℕ} → n ≡ result_bytes (seals a.act) a.set (a.text - a.ad) → length out' ≡ length out →
        Replies (parse s) (Ok (record { set = a.set; size = n })) out'
    read-accepted {n} e l =
        let o = read.placed.ordered in
        let m = result_most (seals a.act) a.set (a.text - a.ad) read-sized in
        rw read.asked_is
        (reply_accepted (call called) (e ∙ ap (result_bytes (seals a.act) a.set) (sym (text-length read))) (omega (arith, m, e, o.3)))

-- what `?` hands on
pub handed_on : {p : Parsed} {b : List ℕ} (r : Result Accepted Refusal) (e : Refusal) → IsErrAnd r (λ (y : Refusal). y ≡ e) → Replies p (Err e) b → Replies p r b
handed_on (Ok a) e h w = absurd h
handed_on {p} {b} (Err y) e h w = subst (λ (x : Refusal). Replies p (Err x) b) (sym h) w

-- ---- the line of output

pub answered-ok : (n k : ℕ) (s b d out : List ℕ) (a : Accepted) → Replies (parse s) (Ok a) b → Puts (line_text n 0 (take a.size b)) k d out →
    Answers n s (record { set = Some a.set; written = k }) d out
unfolding line_for
answered-ok n k s b d out a p w =
    record {
      accepts = sym (eq-eqb (answer_of (parse s)) 0 (sym p.answer-is));
      set_is = p.set_is;
      line-is = rw (p.answer-is, p.result_is) at w;
    }

pub answered_not : (n k x : ℕ) (s b d out : List ℕ) (e : Refusal) → Replies (parse s) (Err e) b → x ≡ number_of_refusal e → Puts (line_text n x []) k d out →
    Answers n s (record { set = None; written = k }) d out
unfolding line_for
answered_not n k x s b d out e p i w =
    record {
      accepts = sym (ne_eqb (answer_of (parse s)) 0 (λ z. refusal_not_zero e (p.answer-is ∙ z)));
      set_is = p.set_is;
      line-is = subst (λ (l : List ℕ). Puts l k d out) (ap₂ (line_text n) (i ∙ p.answer-is) p.result_is) w;
    }
