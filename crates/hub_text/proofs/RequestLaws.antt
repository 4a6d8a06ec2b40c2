-- Six words as a request: the tests of the words, and the strings that are read off them.
-- Assumes nothing.
use mathlib.Core.Path.{◌≡◌, refl, sym, ap, ◌∙◌}
use mathlib.Core.Bool.{Bool, true, false, cond, ◌&&◌, ◌||◌, and-false}
use mathlib.Core.List.{List, [], ◌∷◌, ◌++◌, append_assoc}
use Prim.Native.Nat.{ℕ, zero, suc, ◌+◌, ◌-◌, ◌/◌, ◌≤◌}
use native.Mathlib.Omega.{arith}
use borrow.Author.Tests.{ne_eqb, eqb-true, eqb-false, le-leb}
use lib.Dec.{eqb}
use lib.ListN.{length, take, drop, length-append, length-take, length-drop}
use lib.Seq.{take_at, drop_at, take-nil, take-take}
use Rattle.std.specs.Prelude.{Option, Some, None}
use Rattle.std.proofs.lemmas.Option.{none-some}
use Rattle.std.specs.Option.{unwrap_or}
use Rattle.octets.specs.Strings.{eqs}
use Rattle.octets.proofs.Tests.{eqs_other}
use Rattle.octets.proofs.Parts.{drop_put}
use Rattle.hub_text.specs.declared.cut.Words.{Words}
use Rattle.hub_text.specs.declared.request.Act.{Act}
use Rattle.hub_text.specs.declared.request.Act.TheVariants.{Seal, Open}
use Rattle.text.specs.Numerals.{is_set_number, decimal_value, read_set_number, is_value, value_of}
use Rattle.hub_grammar.specs.Lines.{line_limit, seal_word, open_word, words_of, from_six, from_words, parse}
use Rattle.hub_grammar.specs.Lines.Parsed.{asked, malformed}
use Rattle.hub_text.specs.Cuts.{part, list_of}
use Rattle.hub_text.specs.Requests.{bytes_room, act_of, seals, have_values, Fit, Next, asked_by, Strings}
use Rattle.hub_text.proofs.CutLaws.{total, words-total}
use Rattle.text.proofs.HexLaws.{of_dash, of_pairs, length-unhex}

-- ---- what six words say

some_is : {X : Type 0} (x y : X) → Some x ≡ Some y → x ≡ y
some_is {X} x y e = ap (λ (o : Option X). unwrap_or o x) e

pub act_other : (w : List ℕ) → (length w ≡ 4 → ⊥) → None ≡ act_of w
act_other w n = rw (eqs_other w seal_word (λ e. n (ap length e)), eqs_other w open_word (λ e. n (ap length e))) refl

act-none : (a b : Bool) → cond a (Some Seal) (cond b (Some Open) None) ≡ None → (a || b) ≡ false
act-none true b e = absurd (none-some Seal (sym e))
act-none false true e = absurd (none-some Open (sym e))
act-none false false e = refl

act-some : (a b : Bool) (x : Act) → cond a (Some Seal) (cond b (Some Open) None) ≡ Some x → ((a || b) ≡ true) × (a ≡ seals x)
act-some true b x e = (refl, ap seals (some_is Seal x e))
act-some false true x e = (refl, ap seals (some_is Open x e))
act-some false false x e = absurd (none-some x e)

set-none : (b : Bool) (n : ℕ) → cond b (Some n) None ≡ None → b ≡ false
set-none true n e = absurd (none-some n (sym e))
set-none false n e = refl

set-some : (b : Bool) (n m : ℕ) → cond b (Some n) None ≡ Some m → (b ≡ true) × (n ≡ m)
set-some true n m e = (refl, some_is n m e)
set-some false n m e = absurd (none-some m e)

and-four : (p k n a t : Bool) → (p && k && n && a && t) ≡ (p && (k && n && a && t))
and-four true k n a t = refl
and-four false k n a t = refl

module _ (s : List ℕ) (most : length s ≤ line_limit) where
  pub parse_other : (length (words_of s) ≡ 6 → ⊥) → parse s ≡ malformed
  unfolding parse from_words
  parse_other n = rw (le-leb (length s) line_limit most, ne_eqb (length (words_of s)) 6 n)

  module _ (w : Words) (e : words_of s ≡ list_of w) where
    parse-test : parse s
        ≡ cond ((eqs w.act.now seal_word || eqs w.act.now open_word) && is_set_number w.set.now && have_values w)
        (asked
        (record {
          seals = eqs w.act.now seal_word;
          set = decimal_value 0 w.set.now;
          key = value_of w.key.now;
          nonce = value_of w.nonce.now;
          ad = value_of w.ad.now;
          text = value_of w.text.now;
        }))
        malformed
    unfolding parse from_words from_six
    parse-test =
        rw (le-leb (length s) line_limit most, e)
        (rw
        (and-four
        ((eqs w.act.now seal_word || eqs w.act.now open_word) && is_set_number w.set.now)
        (is_value w.key.now)
        (is_value w.nonce.now)
        (is_value w.ad.now)
        (is_value w.text.now))
        refl)

    pub no_act : act_of w.act.now ≡ None → parse s ≡ malformed
    no_act z = parse-test ∙ rw (act-none (eqs w.act.now seal_word) (eqs w.act.now open_word) z)

    pub no_set : read_set_number w.set.now ≡ None → parse s ≡ malformed
    no_set z = parse-test ∙ rw (set-none (is_set_number w.set.now) (decimal_value 0 w.set.now) z, and-false)

    pub no-values : have_values w ≡ false → parse s ≡ malformed
    no-values z = parse-test ∙ rw (z, and-false)

    pub parse-asked : (a : Act) (n : ℕ) → act_of w.act.now ≡ Some a → read_set_number w.set.now ≡ Some n → have_values w ≡ true →
        parse s ≡ asked (asked_by a n w)
    parse-asked a n x y z =
        let p = act-some (eqs w.act.now seal_word) (eqs w.act.now open_word) a x in
        let q = set-some (is_set_number w.set.now) (decimal_value 0 w.set.now) n y in
        parse-test ∙ rw (p.0, q.0, z, p.1, q.1) refl

    pub words-fit : Fit w
    words-fit = omega (arith, most, words-total s, ap total e)

-- ---- a value read over the bytes from a place on

-- the bytes of a value are at most half its characters
pub value-size : (w : List ℕ) → length (value_of w) ≤ length w / 2
value-size w = go (eqb (length w) 1) refl
  where
    go : (b : Bool) → eqb (length w) 1 ≡ b → length (value_of w) ≤ length w / 2
    go true e = rw (of_dash w (eqb-true (length w) 1 e)) (omega arith)
    go false e = rw (of_pairs w (eqb-false (length w) 1 e)) (omega (arith, length-unhex w))

drop-take : (m i : ℕ) (s : List ℕ) → drop m (take i s) ≡ take (i - m) (drop m s)
drop-take zero i s = ap (λ (k : ℕ). take k s) {x = i} {y = i - 0} (omega arith)
drop-take (suc m) zero s = ap (λ (k : ℕ). take k (drop (suc m) s)) {x = 0} {y = 0 - suc m} (omega arith)
drop-take (suc m) (suc i) [] = sym (take-nil (suc i - suc m))
drop-take (suc m) (suc i) (x ∷ s) = drop-take m i s ∙ ap (λ (k : ℕ). take k (drop m s)) {x = i - m} {y = suc i - suc m} (omega arith)

-- what stands before a place, by the characters before it alone
inside : (s : List ℕ) (m n i : ℕ) → n ≤ i → part (take i s) m n ≡ part s m n
inside s m n i h = ap (take (n - m)) (drop-take m i s) ∙ take-take (n - m) (i - m) (drop m s) (omega arith)

module _ {v : List ℕ} {i j : ℕ} {a b : List ℕ} (x : Next v i j a b) (h : j ≤ length a) where
  next-first : length (take i a) ≡ i
  next-first = simp length-take (omega (arith, x.ends))

  next-long : length b ≡ length a
  next-long =
      ap length x.over
      ∙ omega (arith, length-append (take i a) (v ++ drop j a), length-append v (drop j a), length-drop j a, next-first, x.ends)

  -- the string itself, and what stands before it
  next_here : part b i j ≡ v
  next_here =
      rw (x.over, drop_at (take i a) (v ++ drop j a) i next-first)
      (take_at v (drop j a) (j - i) (omega (arith, x.ends)))

  -- and what stands after it
  next-after : (n : ℕ) → j ≤ n → drop n b ≡ drop n a
  next-after n l =
      let e : length (take i a ++ v) ≡ j = length-append (take i a) v ∙ omega (arith, next-first, x.ends) in
      ap (drop n) (x.over ∙ sym (append_assoc (take i a) v (drop j a)) ∙ ap (λ (k : ℕ). (take i a ++ v) ++ drop k a) (sym e))
      ∙ drop_put (take i a ++ v) a n (omega (arith, e, l))

  next-before : (m n : ℕ) → n ≤ i → part b m n ≡ part a m n
  next-before m n l =
      let e : take i b ≡ take i a = ap (take i) x.over ∙ take_at (take i a) (v ++ drop j a) i next-first in
      sym (inside b m n i l) ∙ ap (λ (s : List ℕ). part s m n) e ∙ inside a m n i l

-- ---- the values one after the other

module _ (w : Words) (fit : Fit w) {b₀ b₁ : List ℕ} {k : ℕ} (room : bytes_room ≤ length b₀) (x₃ : Next (value_of w.key.now) 0 k b₀ b₁) where
  key-most : k ≤ length w.key.now / 2
  key-most = omega (arith, x₃.ends, value-size w.key.now)

  key-in : k ≤ length b₀
  key-in = omega (arith, key-most, fit, room)

  key-long : length b₁ ≡ length b₀
  key-long = next-long x₃ key-in

  pub room-nonce : k + length w.nonce.now / 2 ≤ length b₁
  room-nonce = omega (arith, key-most, fit, room, key-long)

  module _ {b₂ : List ℕ} {n : ℕ} (x₄ : Next (value_of w.nonce.now) k n b₁ b₂) where
    nonce-most : n ≤ length w.key.now / 2 + length w.nonce.now / 2
    nonce-most = omega (arith, x₄.ends, key-most, value-size w.nonce.now)

    nonce-in : n ≤ length b₁
    nonce-in = omega (arith, nonce-most, fit, room, key-long)

    nonce-long : length b₂ ≡ length b₀
    nonce-long = next-long x₄ nonce-in ∙ key-long

    pub room-ad : n + length w.ad.now / 2 ≤ length b₂
    room-ad = omega (arith, nonce-most, fit, room, nonce-long)

    module _ {b₃ : List ℕ} {m : ℕ} (x₅ : Next (value_of w.ad.now) n m b₂ b₃) where
      ad-most : m ≤ length w.key.now / 2 + length w.nonce.now / 2 + length w.ad.now / 2
      ad-most = omega (arith, x₅.ends, nonce-most, value-size w.ad.now)

      ad-in : m ≤ length b₂
      ad-in = omega (arith, ad-most, fit, room, nonce-long)

      ad-long : length b₃ ≡ length b₀
      ad-long = next-long x₅ ad-in ∙ nonce-long

      pub room-text : m + length w.text.now / 2 ≤ length b₃
      room-text = omega (arith, ad-most, fit, room, ad-long)

      pub strings : {b₄ : List ℕ} {t : ℕ} (act : Act) (set : ℕ) → Next (value_of w.text.now) m t b₃ b₄ →
          Strings act set w (record { act = act; set = set; key = k; nonce = n; ad = m; text = t }) b₀ b₄
      strings {b₄} {t} act set x₆ =
          let i₆ : t ≤ length b₃ = omega (arith, x₆.ends, ad-most, value-size w.text.now, fit, room, ad-long) in
          let l₁ : k ≤ n = omega (arith, x₄.ends) in
          let l₂ : n ≤ m = omega (arith, x₅.ends) in
          let l₃ : m ≤ t = omega (arith, x₆.ends) in
          let p₃ : part b₄ 0 k ≡ value_of w.key.now =
          next-before x₆ i₆ 0 k (omega arith) ∙ next-before x₅ ad-in 0 k l₁ ∙ next-before x₄ nonce-in 0 k (omega arith) ∙ next_here x₃ key-in in
          let p₄ : part b₄ k n ≡ value_of w.nonce.now = next-before x₆ i₆ k n l₂ ∙ next-before x₅ ad-in k n (omega arith) ∙ next_here x₄ nonce-in in
          let p₅ : part b₄ n m ≡ value_of w.ad.now = next-before x₆ i₆ n m (omega arith) ∙ next_here x₅ ad-in in
          let p₆ : part b₄ m t ≡ value_of w.text.now = next_here x₆ i₆ in
          record {
            is = rw (p₃, p₄, p₅, p₆) refl;
            placed = record {
              after = next-after x₆ i₆ t (omega arith) ∙ next-after x₅ ad-in t l₃ ∙ next-after x₄ nonce-in t (omega (arith, l₂, l₃)) ∙ next-after x₃ key-in t (omega (arith, l₁, l₂, l₃));
              ordered = (l₁, l₂, l₃, omega (arith, i₆, next-long x₆ i₆));
            };
          }
