-- What a line is answered: 11 before all others, else what the plain calls answer, and the line of output.
-- Assumes nothing.
use Rattle.std.specs.Prelude.{cond, List, [], ◌∷◌, ◌++◌, ℕ, ◌+◌, eqb, length, replicate}
use Rattle.cba_mode.specs.Open.{message_of}
use Rattle.cba_rules.specs.Refusals.{sealing, opening, seal_answer, open_answer}
use Rattle.text.specs.Numerals.{decimal, shown}
use Rattle.hub_grammar.specs.Lines.{Request, Parsed, parse}
use Rattle.hub_grammar.specs.Lines.Parsed.{asked, malformed}

-- an output that is always long enough
abbrev pub room : Request → List ℕ
room r = replicate (length r.text + 16) 0

unfoldable pub request_answer : Request → ℕ
request_answer r =
    cond r.seals (seal_answer r.set r.key r.nonce r.ad r.text (room r))
    (open_answer r.set r.key r.nonce r.ad r.text (room r))

unfoldable pub request_result : Request → List ℕ
request_result r =
    cond (eqb (request_answer r) 0)
    (cond r.seals (sealing r.set r.key r.nonce r.ad r.text) (message_of (opening r.set r.key r.nonce r.ad r.text)))
    []

unfoldable pub answer_of : Parsed → ℕ
answer_of (asked r) = request_answer r
answer_of malformed = 11

unfoldable pub result_of : Parsed → List ℕ
result_of (asked r) = request_result r
result_of malformed = []

-- the set of an accepted line, else 0
unfoldable pub accepted_set : Parsed → ℕ
accepted_set (asked r) = cond (eqb (request_answer r) 0) r.set 0
accepted_set malformed = 0

-- `number answer result`, and LF
unfoldable pub line_text : ℕ → ℕ → List ℕ → List ℕ
line_text n a s = decimal n ++ ((32 ∷ decimal a) ++ ((32 ∷ shown s) ++ (10 ∷ [])))

-- what is said of the line s, the n-th after the first
unfoldable pub line_for : ℕ → List ℕ → List ℕ
line_for n s = line_text n (answer_of (parse s)) (result_of (parse s))
