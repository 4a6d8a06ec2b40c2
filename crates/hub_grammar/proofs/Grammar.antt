-- Reading a line is the inverse of writing it.
-- Assumes nothing.
use mathlib.Core.Path.{◌≡◌, refl, sym, ap, subst, ◌∙◌}
use mathlib.Core.Bool.{Bool, true, false, cond, ◌&&◌, ◌||◌}
use mathlib.Core.List.{List, [], ◌∷◌}
use Prim.Native.Nat.{ℕ, ◌+◌, ◌*◌, ◌<◌, ◌≤◌}
use native.Mathlib.Omega.{arith}
use lib.Dec.{T, eqb}
use lib.ListN.{length, drop, get_or, length-append, drop_of_length-le}
use lib.Seq.{drop-cons}
use borrow.Author.Tests.{leb-true, eqb-true, le-leb, lt-leb}
use Rattle.octets.specs.Strings.{Bytes, eqs}
use Rattle.octets.proofs.Tests.{eqs→eq}
use Rattle.text.specs.Numerals.{decimal, is_set_number, hex, shown, is_value}
use Rattle.hub_grammar.specs.Lines.{line_limit, seal_word, open_word, Request, Parsed, spaced, written, Writable, words_of, from_six, from_words, parse, Grammar}
use Rattle.hub_grammar.specs.Lines.Parsed.{asked, malformed}
use Rattle.hub_grammar.proofs.WordLaws.{Solids, words-spaced, spaced-words}
use Rattle.text.proofs.HexLaws.{length-hex}
use Rattle.text.proofs.NumeralLaws.{Solid, both, set_back, set-number, value-back, value}

-- the words that a request is written as
abbrev act : Bool → List ℕ
act b = cond b seal_word open_word

abbrev others : Request → List (List ℕ)
others r = decimal r.set ∷ shown r.key ∷ shown r.nonce ∷ shown r.ad ∷ shown r.text ∷ []

-- ---- what was written is read

act-solid : (b : Bool) → Solid (act b)
act-solid true = (omega arith, (omega arith, (omega arith, (omega arith, tt))))
act-solid false = (omega arith, (omega arith, (omega arith, (omega arith, tt))))

act-back : (b : Bool) → (eqs (act b) seal_word || eqs (act b) open_word ≡ true) × (eqs (act b) seal_word ≡ b)
act-back true = (refl, refl)
act-back false = (refl, refl)

reads : (r : Request) → Writable r → parse (written r) ≡ asked r
unfolding written from_six from_words parse
reads r w =
    let a = act-back r.seals in
    let n = set_back r.set w.set-most in
    let k = value-back r.key w.key-bytes in
    let o = value-back r.nonce w.nonce-bytes in
    let h = value-back r.ad w.ad-bytes in
    let t = value-back r.text w.text-bytes in
    let solids : Solids (others r) = ((set-number _ n.0).solid, ((value _ k.0).solid, ((value _ o.0).solid, ((value _ h.0).solid, ((value _ t.0).solid, tt))))) in
    rw (le-leb (length (written r)) line_limit w.line-most, words-spaced (act r.seals) (others r) (act-solid r.seals) solids)
    (rw (a.0, a.1, n.0, n.1, k.0, k.1, o.0, o.1, h.0, h.1, t.0, t.1))

-- ---- what is read was written so

-- where a line is read as a request, it is what the request is written as
abbrev Reads : List ℕ → Parsed → Type 0
Reads s (asked r) = Writable r × (written r ≡ s)
Reads s malformed = Unit {0}

-- where a test fails, nothing is read
passed : (s : List ℕ) (b : Bool) (p : Parsed) → (b ≡ true → Reads s p) → Reads s (cond b p malformed)
passed s true p f = f refl
passed s false p f = tt

-- each of six tests
each : (a b c d e f : Bool) → a && b && c && d && e && f ≡ true →
    (a ≡ true) × (b ≡ true) × (c ≡ true) × (d ≡ true) × (e ≡ true) × (f ≡ true)
each a b c d e f h =
    let p = both (a && b && c && d && e) f h in
    let q = both (a && b && c && d) e p.0 in
    let r = both (a && b && c) d q.0 in
    let s = both (a && b) c r.0 in
    let t = both a b s.0 in
    (t.0, t.1, s.1, r.1, q.1, p.1)

act-word : (a : List ℕ) → eqs a seal_word || eqs a open_word ≡ true → act (eqs a seal_word) ≡ a
act-word a h = go (eqs a seal_word) refl h
  where
    go : (b : Bool) → eqs a seal_word ≡ b → b || eqs a open_word ≡ true → act b ≡ a
    go true e k = sym (eqs→eq a seal_word (subst T (sym e) tt))
    go false e k = sym (eqs→eq a open_word (subst T (sym k) tt))

-- a request with these words
request : (s : List ℕ) (r : Request) → length s ≤ line_limit → r.set ≤ 999 → Bytes r.key → Bytes r.nonce → Bytes r.ad →
    Bytes r.text → written r ≡ s → Reads s (asked r)
request s r l m k o h t e =
    (record { set-most = m; key-bytes = k; nonce-bytes = o; ad-bytes = h; text-bytes = t; line-most = rw e l }, e)

six-read : (s a n k o h t : List ℕ) → length s ≤ line_limit → spaced (a ∷ n ∷ k ∷ o ∷ h ∷ t ∷ []) ≡ 32 ∷ s → Reads s (from_six a n k o h t)
unfolding from_six written spaced
six-read s a n k o h t l e =
    passed s _ _
    (λ b.
    let p = each (eqs a seal_word || eqs a open_word) (is_set_number n) (is_value k) (is_value o) (is_value h) (is_value t) b in
    let set = set-number n p.1 in
    let key = value k p.2 in
    let nonce = value o p.3 in
    let ad = value h p.4 in
    let text = value t p.5 in
    request s _ l set.most key.bytes nonce.bytes ad.bytes text.bytes
    (rw (act-word a p.0, set.back, key.back, nonce.back, ad.back, text.back) (ap (drop 1) e)))

six : (ws : List (List ℕ)) → length ws ≡ 6 →
    get_or ws 0 [] ∷ get_or ws 1 [] ∷ get_or ws 2 [] ∷ get_or ws 3 [] ∷ get_or ws 4 [] ∷ get_or ws 5 [] ∷ [] ≡ ws
six ws e =
    sym
    (drop-cons ws 0 [] (omega arith)
    ∙ rw (
      drop-cons ws 1 [] (omega arith),
      drop-cons ws 2 [] (omega arith),
      drop-cons ws 3 [] (omega arith),
      drop-cons ws 4 [] (omega arith),
      drop-cons ws 5 [] (omega arith),
      drop_of_length-le ws {i = 6} (omega arith),
    ))

line_read : (s : List ℕ) → Reads s (parse s)
unfolding parse from_words
line_read s =
    passed s _ _
    (λ l.
    passed s _ _
    (λ e.
    six-read s _ _ _ _ _ _ (leb-true (length s) line_limit l) (ap spaced (six (words_of s) (eqb-true (length (words_of s)) 6 e)) ∙ spaced-words s)))

pub grammar : Grammar
grammar = record { reads = reads; only = λ s r e. subst (Reads s) e (line_read s) }

-- a line of more bytes is malformed
pub parse-long : (s : List ℕ) → line_limit < length s → parse s ≡ malformed
unfolding parse
parse-long s h = rw (lt-leb (length s) line_limit h)

-- ---- how long a value can be

-- two characters a byte
shown-long : (s : List ℕ) → 2 * length s ≤ length (shown s)
unfolding shown
shown-long s = go (eqb (length s) 0) refl
  where
    go : (b : Bool) → eqb (length s) 0 ≡ b → 2 * length s ≤ length (cond b (45 ∷ []) (hex s))
    go true e = omega (arith, eqb-true (length s) 0 e)
    go false e = omega (arith, length-hex s)

-- a line has two characters for each byte of its data and of its text
pub half : (r : Request) → 2 * (length r.ad + length r.text) ≤ length (written r)
unfolding written spaced
half r =
    let d = shown-long r.ad in
    let t = shown-long r.text in
    simp length-append (omega (arith, d, t))
