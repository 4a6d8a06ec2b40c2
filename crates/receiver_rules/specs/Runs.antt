-- Lists of openings on one receiver, and the theorems of request F-7.
-- Assumes nothing.
use Rattle.std.specs.Prelude.{◌≡◌, true, false, cond, ◌||◌, List, [], ◌∷◌, ◌++◌, ℕ, ◌-◌, eqb, length, drop, replicate}
use Rattle.answers.specs.Rows.{is_in, Decides}
use Rattle.answers.specs.Calls.{Gave, InTurn, ByList}
use Rattle.cba_mode.specs.Sets.{is_set, key_bytes}
use Rattle.cba_mode.specs.Open.{is_false}
use Rattle.cba_rules.specs.Checks.{set_tag}
use Rattle.cba_rules.specs.Refusals.{opening, OpenCall}
use Rattle.window_rules.specs.Window.{is_repeat}
use Rattle.window_rules.specs.Theorems.{is_too_late, Holds}
use Rattle.receiver_rules.specs.Receiver.{Receiver, make_rows, make_answer, made_receiver, Fresh, key_of, prefix_of, counter_of, receiver_rows, receiver_answer, with_counter, next_receiver, receiver_output, ReceiverCall}

-- what one opening is given
pub record Opening : Type 0 where
  pub nonce : List ℕ
  pub ad : List ℕ
  pub ciphertext : List ℕ
  pub out : List ℕ

unfoldable pub answer_on : Receiver → Opening → ℕ
answer_on v o = receiver_answer v o.nonce o.ad o.ciphertext (length o.out)

-- the receiver after it
unfoldable pub after : Receiver → Opening → Receiver
after v o = next_receiver v o.nonce o.ad o.ciphertext (length o.out)

-- the output at exit
unfoldable pub output_on : Receiver → Opening → List ℕ
output_on v o = receiver_output v o.nonce o.ad o.ciphertext o.out

-- what an opening gives, and what its contract promises of it
abbrev pub gives : Receiver → Opening → Gave Receiver
gives v o = record { answer = answer_on v o; next = after v o; out = output_on v o }

abbrev pub Promised : Receiver → Opening → Gave Receiver → Type 0
Promised v o g = ReceiverCall v o.nonce o.ad o.ciphertext o.out g.answer g.next g.out

-- the receiver after a list of openings
unfoldable pub run : Receiver → List Opening → Receiver
run v [] = v
run v (o ∷ os) = run (after v o) os

-- the counters of those that were accepted, in their order
unfoldable pub accepted : Receiver → List Opening → List ℕ
accepted v [] = []
accepted v (o ∷ os) = cond (eqb (answer_on v o) 0) (counter_of o.nonce ∷ accepted (after v o) os) (accepted (after v o) os)

-- each is there at most once
abbrev pub NoneTwice : List ℕ → Type 0
NoneTwice [] = Unit {0}
NoneTwice (c ∷ cs) = (is_in c cs ≡ false) × NoneTwice cs

-- what an accepted making with a set, a key and a prefix gives
pub record FreshFor (set : ℕ) (key : List ℕ) (prefix : ℕ) (v : Receiver) : Type 0 where
  pub fresh : Fresh v
  pub set_is : v.set ≡ set
  pub prefix-is : v.prefix ≡ prefix
  -- the key has 32 bytes, and the bytes that an opening uses are the key given
  pub key-length : length v.key ≡ 32
  pub key-is : key_of v ≡ key
  pub highest-is : v.window.highest ≡ 0
  pub marks-are : v.window.marks ≡ 0

-- what a refused one gives: zeros in every field, and no counter
pub record Blank (v : Receiver) : Type 0 where
  pub fresh : Fresh v
  pub set_is : v.set ≡ 0
  pub prefix-is : v.prefix ≡ 0
  pub key-is : v.key ≡ replicate 32 0
  pub highest-is : v.window.highest ≡ 0
  pub marks-are : v.window.marks ≡ 0

-- two receivers of one set, key and prefix
pub record SameMaking (v v' : Receiver) : Type 0 where
  pub set-stays : v'.set ≡ v.set
  pub key-stays : v'.key ≡ v.key
  pub prefix-stays : v'.prefix ≡ v.prefix

-- an opening on v has the answer and the output of plain opening under a set and a key
abbrev pub AsPlain : ℕ → List ℕ → Receiver → Opening → Type 0
AsPlain set key v o = OpenCall set key o.nonce o.ad o.ciphertext o.out (answer_on v o) (output_on v o)

-- what an opening that answers r leaves, out' being the output at exit and v' the next receiver
pub record Left (v : Receiver) (N C out : List ℕ) (r : ℕ) (v' : Receiver) (out' : List ℕ) : Type 0 where
  -- every refusal but 8 leaves the output; 8 writes zeros over the first c − t bytes and leaves the others
  pub untouched : (r ≡ 0 → ⊥) → (r ≡ 8 → ⊥) → out' ≡ out
  pub zeros : r ≡ 8 → out' ≡ replicate (length C - set_tag v.set) 0 ++ drop (length C - set_tag v.set) out
  -- what is not accepted is not recorded, nor is anything else of the receiver changed; what is accepted is recorded
  pub unrecorded : (r ≡ 0 → ⊥) → v' ≡ v
  pub recorded : r ≡ 0 → v' ≡ with_counter v (counter_of N)

pub record ReceiverTheorems : Type 0 where
  -- a making and an opening answer by their rows, on any receiver
  pub making : (set : ℕ) (key : List ℕ) → Decides (make_rows set (length key)) (make_answer set key)
  pub opens : (v : Receiver) (N A C : List ℕ) (out : ℕ) →
      Decides (receiver_rows v N (length A) (length C) out (is_false (opening v.set (key_of v) N A C))) (receiver_answer v N A C out)
  -- a making with a set and a key of its length is accepted
  pub makes_where : (set : ℕ) (key : List ℕ) → is_set set ≡ true → length key ≡ key_bytes set → make_answer set key ≡ 0
  -- a making that is not refused gives a fresh receiver with the set, the key and the prefix that it was given
  pub made : (set : ℕ) (key : List ℕ) (prefix : ℕ) → make_answer set key ≡ 0 → FreshFor set key prefix (made_receiver set key prefix)
  -- a refused one has zeros in every field, and an opening on it answers 1
  pub unmade : (set : ℕ) (key : List ℕ) (prefix : ℕ) → (make_answer set key ≡ 0 → ⊥) → Blank (made_receiver set key prefix)
  pub on_unmade : (set : ℕ) (key : List ℕ) (prefix : ℕ) (N A C : List ℕ) (out : ℕ) → (make_answer set key ≡ 0 → ⊥) →
      receiver_answer (made_receiver set key prefix) N A C out ≡ 1
  -- what an opening leaves, on any receiver
  pub leaves : (v : Receiver) (N A C out : List ℕ) (r : ℕ) (v' : Receiver) (out' : List ℕ) → ReceiverCall v N A C out r v' out' →
      Left v N C out r v' out'
  -- each opening not answered 12 or 15, on any receiver, has plain opening's answer and output under the receiver's set and key; in a
  -- receiver value the key has 32 bytes
  pub plain : (v : Receiver) (N A C out : List ℕ) → length v.key ≡ 32 → (receiver_answer v N A C (length out) ≡ 12 → ⊥) →
      (receiver_answer v N A C (length out) ≡ 15 → ⊥) →
      OpenCall v.set (key_of v) N A C out (receiver_answer v N A C (length out)) (receiver_output v N A C out)
  -- so a counter that is no repeat may open: under a nonce that begins with the receiver's number the answer and the output are those of
  -- plain opening
  pub new : (v : Receiver) (N A C out : List ℕ) → is_repeat v.window (counter_of N) ≡ false → length v.key ≡ 32 →
      prefix_of N ≡ v.prefix → OpenCall v.set (key_of v) N A C out (receiver_answer v N A C (length out)) (receiver_output v N A C out)
  -- a fresh receiver takes every counter
  pub takes : (v : Receiver) (N A C out : List ℕ) → Fresh v → length v.key ≡ 32 → prefix_of N ≡ v.prefix →
      OpenCall v.set (key_of v) N A C out (receiver_answer v N A C (length out)) (receiver_output v N A C out)
  -- for every list of openings, on any receiver, each counter is accepted at most once
  pub once : (v : Receiver) (os : List Opening) → NoneTwice (accepted v os)
  -- after every list on a fresh receiver a counter is a repeat exactly where it was accepted, or some accepted counter is 64 or more
  -- above it
  pub history : (v : Receiver) (os : List Opening) (c : ℕ) → Fresh v →
      is_repeat (run v os).window c ≡ is_in c (accepted v os) || is_too_late c (accepted v os)
  -- and on any receiver exactly there, or where it was one before
  pub further : (v : Receiver) (os : List Opening) (c : ℕ) →
      is_repeat (run v os).window c ≡ is_repeat v.window c || (is_in c (accepted v os) || is_too_late c (accepted v os))
  -- and where any was accepted, it holds the highest of them, and which of the 64 ending there were
  pub holds : (v : Receiver) (os : List Opening) (k : ℕ) (ks : List ℕ) → Fresh v → accepted v os ≡ k ∷ ks →
      Holds (run v os).window (k ∷ ks)
  -- along every list of openings, on any receiver, set, key and prefix stay
  pub keeps : (v : Receiver) (os : List Opening) → SameMaking v (run v os)
  -- so after every list on what a making gave, an opening not answered 12 or 15 is plain opening under the set and the key of the making
  pub listed : (set : ℕ) (key : List ℕ) (prefix : ℕ) (os : List Opening) (o : Opening) → make_answer set key ≡ 0 →
      let v = run (made_receiver set key prefix) os in (answer_on v o ≡ 12 → ⊥) → (answer_on v o ≡ 15 → ⊥) → AsPlain set key v o
  -- and so is each under the prefix of the making whose counter was not accepted, with none accepted that is 64 or more above it
  pub listed-new : (set : ℕ) (key : List ℕ) (prefix : ℕ) (os : List Opening) (o : Opening) → make_answer set key ≡ 0 →
      let made = made_receiver set key prefix in
      let c = counter_of o.nonce in
      prefix_of o.nonce ≡ prefix → is_in c (accepted made os) || is_too_late c (accepted made os) ≡ false → AsPlain set key (run made os) o
  -- at first every counter
  pub takes_first : (set : ℕ) (key : List ℕ) (prefix : ℕ) (o : Opening) → make_answer set key ≡ 0 → prefix_of o.nonce ≡ prefix →
      AsPlain set key (made_receiver set key prefix) o
  -- whoever makes the openings of a list one after the other, each as its contract promises, gets the answers and the outputs above, and
  -- has the receiver after the list
  pub calls : (v : Receiver) (os : List Opening) (gs : List (Gave Receiver)) → InTurn Promised v os gs → ByList gives run v os gs
