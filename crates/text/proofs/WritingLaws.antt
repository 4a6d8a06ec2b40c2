-- Strings written one after the other.
-- Assumes nothing.
use mathlib.Core.Path.{◌≡◌, refl, sym, ap, subst, ◌∙◌}
use mathlib.Core.Bool.{true, false}
use mathlib.Core.List.{List, [], ◌∷◌, ◌++◌, append_assoc}
use Prim.Native.Nat.{ℕ, ◌+◌, ◌-◌, ◌*◌, ◌/◌, ◌%◌, ◌<◌, ◌≤◌}
use native.Mathlib.Omega.{arith}
use lib.Dec.{eqb}
use lib.ListN.{length, take, drop, get_or, length-append, length-take, length-drop}
use lib.Seq.{take_all, take_at, length-take-le}
use Rattle.std.proofs.Common.{take-append-drop}
use Rattle.octets.proofs.Parts.{put_more, drop_put}
use Rattle.text.specs.declared.writer.Writer.{Writer}
use Rattle.text.specs.Numerals.{hex, hex_digit, shown}
use Rattle.text.specs.Writing.{Puts, Wrote}
use Rattle.text.proofs.HexLaws.{length-hex, hex_more}

-- a slice is as long as before after a part of it, from a place on, was lent
pub middle_length : (out last : List ℕ) (at j : ℕ) → at + j ≤ length out → length last ≡ length (take (length out - at) (drop at out)) →
    length (take at out ++ (last ++ drop (length out - at) (drop at out))) ≡ length out
middle_length out last at j h l =
    length-append (take at out) (last ++ drop (length out - at) (drop at out))
    ∙ omega (arith, length-append last (drop (length out - at) (drop at out)), l, length-take at out, length-take (length out - at) (drop at out), length-drop (length out - at) (drop at out), length-drop at out)

-- a writer writes no more than it was lent
pub puts_most : (s d out : List ℕ) (r : ℕ) → Puts s r d out → r ≤ length out
puts_most s d out r p = omega (arith, p.0, ap length p.1, length-append s (drop r d))

-- a second string after the first: last is what its writer says of the part that it was lent
pub puts_then : (d out t u last : List ℕ) (i j : ℕ) → Puts t i d out → i + j ≤ length out → Puts u j (take (length out - i) (drop i out)) last →
    Puts (t ++ u) (i + j) d (take i out ++ (last ++ drop (length out - i) (drop i out)))
puts_then d out t u last i j w h v =
    let l : i + j ≡ length (t ++ u) = omega (arith, w.0, v.0, length-append t u) in (
      l,
      put_more d t out i u last (w.1 ∙ ap (λ (k : ℕ). t ++ drop k d) w.0) (sym w.0) (omega (arith, v.0)) (v.1 ∙ ap (λ (k : ℕ). u ++ drop k (take (length out - i) (drop i out))) v.0)
          ∙ ap (λ (k : ℕ). (t ++ u) ++ drop k d) (sym l),
    )

-- ---- a writer

-- c is b with u over its bytes from j up to k, and b is a with t over its bytes from i up to j
wrote-lists : (a t u b c : List ℕ) (i j k : ℕ) → i ≤ length a → j ≡ i + length t → k ≡ j + length u →
    b ≡ take i a ++ (t ++ drop j a) → c ≡ take j b ++ (u ++ drop k b) → c ≡ take i a ++ ((t ++ u) ++ drop k a)
wrote-lists a t u b c i j k h l m e f =
    let p = take i a ++ t in
    let n : length p ≡ j = length-append (take i a) t ∙ omega (arith, length-take-le i a h, l) in
    let whole : b ≡ p ++ drop j a = e ∙ sym (append_assoc (take i a) t (drop j a)) in
    let front : take j b ≡ p = ap (take j) whole ∙ take_at p (drop j a) j n in
    let back : drop k b ≡ drop k a = ap (drop k) (whole ∙ ap (λ (x : ℕ). p ++ drop x a) (sym n)) ∙ drop_put p a k (omega (arith, n, m)) in
    f ∙ rw (front, back) (append_assoc (take i a) t (u ++ drop k a) ∙ ap (λ (x : List ℕ). take i a ++ x) (sym (append_assoc t u (drop k a))))

pub wrote_none : (a : Writer) → a.at ≤ length a.out.now → Wrote [] a a
wrote_none a h =
    record { same = refl; ends = omega arith; within = h; long = refl; over = sym (take-append-drop a.at a.out.now) }

-- one string after the other
pub wrote-then : {t u : List ℕ} {a b c : Writer} → Wrote t a b → Wrote u b c → Wrote (t ++ u) a c
wrote-then {t} {u} {a} {b} {c} v w =
    record {
      same = w.same ∙ v.same;
      ends = omega (arith, v.ends, w.ends, length-append t u);
      within = w.within;
      long = w.long ∙ v.long;
      over = wrote-lists a.out.now t u b.out.now c.out.now a.at b.at c.at (omega (arith, v.ends, v.within, v.long)) v.ends w.ends v.over w.over;
    }

-- what a new writer on d was given: the string is over the first bytes
pub wrote-puts : {t : List ℕ} {a b : Writer} (d : List ℕ) → a.at ≡ 0 → a.out.now ≡ d → Wrote t a b → Puts t b.at d b.out.now
wrote-puts {t} {a} {b} d z e w =
    (w.ends ∙ ap (λ (i : ℕ). i + length t) z ∙ omega arith, w.over ∙ rw (z, e) refl)

-- The loop over s: after i turns its first i bytes are written in hex.
pub hexed-none : (s : List ℕ) (a : Writer) → a.at + 2 * length s ≤ length a.out.now → Wrote (hex (take 0 s)) a a
unfolding hex
hexed-none s a h = wrote_none a (omega (arith, h))

pub hexed-at : (s : List ℕ) (i : ℕ) {a b : Writer} → Wrote (hex (take i s)) a b → i < length s → b.at ≡ a.at + 2 * i
hexed-at s i w l = w.ends ∙ omega (arith, length-hex (take i s), length-take-le i s (omega (arith, l)))

pub hexed-more : (s : List ℕ) (i : ℕ) {a b c d : Writer} {x y : ℕ} → Wrote (hex (take i s)) a b → i < length s →
    x ≡ hex_digit (get_or s i 0 / 16) → Wrote (x ∷ []) b c → y ≡ hex_digit (get_or s i 0 % 16) → Wrote (y ∷ []) c d → Wrote (hex (take (i + 1) s)) a d
hexed-more s i {a} {b} {c} {d} h l p v q w =
    subst (λ (t : List ℕ). Wrote t a d) (hex_more s i l) (wrote-then (wrote-then h (rw p at v)) (rw q at w))

pub hexed-all : (s : List ℕ) (i : ℕ) {a b : Writer} → Wrote (hex (take i s)) a b → length s ≤ i → Wrote (hex s) a b
hexed-all s i {a} {b} h l = subst (λ (t : List ℕ). Wrote (hex t) a b) (take_all i s l) h

-- a string as it is shown
pub wrote-dash : (s : List ℕ) {a b : Writer} → eqb (length s) 0 ≡ true → Wrote (45 ∷ []) a b → Wrote (shown s) a b
unfolding shown
wrote-dash s e v = rw e v

pub wrote-hex : (s : List ℕ) {a b : Writer} → eqb (length s) 0 ≡ false → Wrote (hex s) a b → Wrote (shown s) a b
unfolding shown
wrote-hex s e v = rw e v
