-- What the code reads off a line: the definitions' values for its structs.
-- Assumes nothing.
use Rattle.std.specs.Prelude.{◌≡◌, Bool, true, false, cond, ◌&&◌, List, ◌++◌, ℕ, ◌+◌, ◌/◌, ◌≤◌, Option, Some, None, MatchOption, length, take, drop}
use Rattle.octets.specs.Strings.{eqs}
use Rattle.hub_text.specs.declared.cut.Words.{Words}
use Rattle.hub_text.specs.declared.request.Act.{Act}
use Rattle.hub_text.specs.declared.request.Act.TheVariants.{Seal, Open}
use Rattle.hub_text.specs.declared.request.Asked.{Asked}
use Rattle.text.specs.Numerals.{is_value, value_of}
use Rattle.hub_grammar.specs.Lines.{line_limit, Request, seal_word, open_word, parse}
use Rattle.hub_grammar.specs.Lines.Parsed.{asked, malformed}
use Rattle.hub_text.specs.Cuts.{part}

-- room for the bytes that a line's strings stand for, two characters each
abbrev pub bytes_room : ℕ
bytes_room = line_limit / 2

-- the act that a word names
abbrev pub act_of : List ℕ → Option Act
act_of w = cond (eqs w seal_word) (Some Seal) (cond (eqs w open_word) (Some Open) None)

abbrev pub seals : Act → Bool
seals Seal = true
seals Open = false

-- the test of a line's last four words
abbrev pub have_values : Words → Bool
have_values w = is_value w.key.now && is_value w.nonce.now && is_value w.ad.now && is_value w.text.now

-- they have room in a line within the limit
abbrev pub Fit : Words → Type 0
Fit w = length w.key.now + length w.nonce.now + length w.ad.now + length w.text.now ≤ line_limit

-- b is a with the string v over its bytes from i on, which ends at j
pub record Next (v : List ℕ) (i j : ℕ) (a b : List ℕ) : Type 0 where
  pub ends : j ≡ i + length v
  pub over : b ≡ take i a ++ (v ++ drop j a)

-- the request of an Asked, whose strings stand one after the other in b, each up to its end
abbrev pub request_of : Asked → List ℕ → Request
request_of r b =
    record {
      seals = seals r.act;
      set = r.set;
      key = part b 0 r.key;
      nonce = part b r.key r.nonce;
      ad = part b r.nonce r.ad;
      text = part b r.ad r.text;
    }

-- the request for an act and a set, with the strings that the words stand for
abbrev pub asked_by : Act → ℕ → Words → Request
asked_by act set w =
    record {
      seals = seals act;
      set = set;
      key = value_of w.key.now;
      nonce = value_of w.nonce.now;
      ad = value_of w.ad.now;
      text = value_of w.text.now;
    }

-- the strings of r stand one after the other in b, which is a beyond them
pub record Placed (r : Asked) (a b : List ℕ) : Type 0 where
  pub after : drop r.text b ≡ drop r.text a
  pub ordered : (r.key ≤ r.nonce) × (r.nonce ≤ r.ad) × (r.ad ≤ r.text) × (r.text ≤ length b)

-- r is that request
pub record Strings (act : Act) (set : ℕ) (w : Words) (r : Asked) (a b : List ℕ) : Type 0 where
  pub is : request_of r b ≡ asked_by act set w
  pub placed : Placed r a b

-- a request is read off the line, with its strings over the first bytes of a
pub record Asks (s : List ℕ) (r : Asked) (a b : List ℕ) : Type 0 where
  pub asked_is : parse s ≡ asked (request_of r b)
  pub placed : Placed r a b

-- r is what the line says, and b is a with the bytes that were read off the line over its first
abbrev pub Read : List ℕ → Option Asked → List ℕ → List ℕ → Type 0
Read s r a b = MatchOption r ((parse s ≡ malformed) × (b ≡ a)) (λ q. Asks s q a b)
