-- The hub's lines: the grammar, and what a line says.
-- Assumes nothing.
use Rattle.std.specs.Prelude.{◌≡◌, Bool, cond, ◌&&◌, ◌||◌, List, [], ◌∷◌, ◌++◌, ℕ, suc, ◌≤◌, eqb, leb, length, get_or}
use Rattle.octets.specs.Strings.{Bytes, eqs}
use Rattle.text.specs.Numerals.{decimal, decimal_value, is_set_number, shown, is_value, value_of}

-- a line has at most so many bytes, its LF not among them
abbrev pub line_limit : ℕ
line_limit = 4096

-- `seal`, `open`
abbrev pub seal_word : List ℕ
seal_word = 115 ∷ 101 ∷ 97 ∷ 108 ∷ []

abbrev pub open_word : List ℕ
open_word = 111 ∷ 112 ∷ 101 ∷ 110 ∷ []

-- what a well-formed line asks for
pub record Request : Type 0 where
  pub seals : Bool
  pub set : ℕ
  pub key : List ℕ
  pub nonce : List ℕ
  pub ad : List ℕ
  pub text : List ℕ

pub data Parsed : Type 0 where
  asked : Request → Parsed
  malformed : Parsed

-- ---- the grammar, by what a request is written as

-- words, each after a space
unfoldable pub spaced : List (List ℕ) → List ℕ
spaced [] = []
spaced (w ∷ ws) = 32 ∷ (w ++ spaced ws)

unfoldable pub written : Request → List ℕ
written r =
    cond r.seals seal_word open_word
    ++ spaced (decimal r.set ∷ shown r.key ∷ shown r.nonce ∷ shown r.ad ∷ shown r.text ∷ [])

-- a request that a line can have
pub record Writable (r : Request) : Type 0 where
  pub set-most : r.set ≤ 999
  pub key-bytes : Bytes r.key
  pub nonce-bytes : Bytes r.nonce
  pub ad-bytes : Bytes r.ad
  pub text-bytes : Bytes r.text
  pub line-most : length (written r) ≤ line_limit

-- ---- reading

-- a first character put before the first word
unfoldable pub join_first : ℕ → List (List ℕ) → List (List ℕ)
join_first c [] = (c ∷ []) ∷ []
join_first c (w ∷ ws) = (c ∷ w) ∷ ws

-- the words between the spaces, some of them empty
unfoldable pub words_of : List ℕ → List (List ℕ)
words_of [] = [] ∷ []
words_of (c ∷ s) = cond (eqb c 32) ([] ∷ words_of s) (join_first c (words_of s))

-- how many characters stand before the first x, or in all
unfoldable pub length_before : ℕ → List ℕ → ℕ
length_before x [] = 0
length_before x (c ∷ s) = cond (eqb c x) 0 (suc (length_before x s))

unfoldable pub from_six : List ℕ → List ℕ → List ℕ → List ℕ → List ℕ → List ℕ → Parsed
from_six act set key nonce ad text =
    cond ((eqs act seal_word || eqs act open_word) && is_set_number set && is_value key && is_value nonce && is_value ad && is_value text)
    (asked
    (record {
      seals = eqs act seal_word;
      set = decimal_value 0 set;
      key = value_of key;
      nonce = value_of nonce;
      ad = value_of ad;
      text = value_of text;
    }))
    malformed

-- six words
unfoldable pub from_words : List (List ℕ) → Parsed
from_words ws = cond (eqb (length ws) 6) (from_six (get_or ws 0 []) (get_or ws 1 []) (get_or ws 2 []) (get_or ws 3 []) (get_or ws 4 []) (get_or ws 5 [])) malformed

-- a line without its LF
unfoldable pub parse : List ℕ → Parsed
parse s = cond (leb (length s) line_limit) (from_words (words_of s)) malformed

-- reading is the inverse of writing: a line is read as a request exactly where it is what the request is written as
pub record Grammar : Type 0 where
  pub reads : (r : Request) → Writable r → parse (written r) ≡ asked r
  pub only : (s : List ℕ) (r : Request) → parse s ≡ asked r → Writable r × (written r ≡ s)
