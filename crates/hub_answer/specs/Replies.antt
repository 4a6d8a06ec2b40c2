-- What the code replies to a line and writes of it: the definitions' values for its structs.
-- Assumes nothing.
use Rattle.std.specs.Prelude.{◌≡◌, Bool, true, false, cond, List, ℕ, ◌+◌, ◌-◌, ◌≤◌, eqb, Result, Ok, Err, length, take}
use Rattle.std.specs.Option.{is_some, unwrap_or}
use Rattle.answers.specs.declared.refusals.Refusal.{Refusal}
use Rattle.answers.specs.Refusals.{number_of}
use Rattle.cba_mode.specs.Sets.{is_set}
use Rattle.cba_rules.specs.Checks.{set_tag}
use Rattle.cba_rules.specs.Refusals.{SealCall, OpenCall}
use Rattle.hub_text.specs.declared.request.Asked.{Asked}
use Rattle.hub_answer.specs.declared.answer.Accepted.{Accepted}
use Rattle.hub_answer.specs.declared.answer.Answer.{Answer}
use Rattle.text.specs.Writing.{Puts}
use Rattle.hub_grammar.specs.Lines.{Request, Parsed, parse}
use Rattle.hub_rules.specs.Answers.{answer_of, result_of, accepted_set, line_for}
use Rattle.hub_text.specs.Requests.{bytes_room}

-- room for a result: a sealing is longer than its message by at most 16 bytes
abbrev pub result_room : ℕ
result_room = bytes_room + 16

-- the strings of an Asked stand in b, one after the other
abbrev pub InOrder : Asked → List ℕ → Type 0
InOrder a b = (a.key ≤ a.nonce) × (a.nonce ≤ a.ad) × (a.ad ≤ a.text) × (a.text ≤ length b)

-- how many bytes an accepted request's result has, whose text has n: a sealing is longer by the tag, a message shorter
abbrev pub result_bytes : Bool → ℕ → ℕ → ℕ
result_bytes seals set n = cond seals (n + set_tag set) (n - set_tag set)

abbrev pub result_length : Request → ℕ
result_length q = result_bytes q.seals q.set (length q.text)

-- a set, and a text that has room for its tag if it is opened
pub record Sized (seals : Bool) (set n : ℕ) : Type 0 where
  pub is-set : is_set set ≡ true
  pub long : seals ≡ false → set_tag set ≤ n

-- the plain call that a request asks for: its answer r, and the output at exit, out', out being the output at entry
pub record Called (q : Request) (out : List ℕ) (r : ℕ) (out' : List ℕ) : Type 0 where
  pub sealed : q.seals ≡ true → SealCall q.set q.key q.nonce q.ad q.text out r out'
  pub opened : q.seals ≡ false → OpenCall q.set q.key q.nonce q.ad q.text out r out'

-- the set of an accepted line, else 0, and how many bytes its result has
abbrev pub set_of : Result Accepted Refusal → ℕ
set_of (Ok a) = a.set
set_of (Err e) = 0

abbrev pub size_of : Result Accepted Refusal → ℕ
size_of (Ok a) = a.size
size_of (Err e) = 0

-- r is what a line is answered, its result being the first bytes of b
pub record Replies (p : Parsed) (r : Result Accepted Refusal) (b : List ℕ) : Type 0 where
  pub answer-is : number_of r ≡ answer_of p
  pub set_is : set_of r ≡ accepted_set p
  pub fits : size_of r ≤ length b
  pub result_is : take (size_of r) b ≡ result_of p

-- the line of output over the first bytes of d
pub record Answers (n : ℕ) (s : List ℕ) (r : Answer) (d out : List ℕ) : Type 0 where
  -- there is a set exactly where the answer is 0
  pub accepts : is_some r.set ≡ eqb (answer_of (parse s)) 0
  pub set_is : unwrap_or r.set 0 ≡ accepted_set (parse s)
  pub line-is : Puts (line_for n s) r.written d out
