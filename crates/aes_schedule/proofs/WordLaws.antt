-- Words: bytes put together and taken apart, a rotation, sums, entries of a table, and the four words of a block.
-- Assumes nothing.
use mathlib.Core.Path.{◌≡◌, refl, sym, ap, ap₂, ◌∙◌}
use mathlib.Core.List.{List, [], ◌∷◌, ◌++◌}
use Prim.Native.Nat.{ℕ, ◌+◌, ◌*◌, ◌^◌, ◌/◌, ◌%◌, ◌<◌, ◌≤◌}
use native.Mathlib.Nat.{div-div-eq-div-mul}
use native.Mathlib.Omega.{arith}
use lib.Bits.{bit_or, bit_xor, or_shifted_r, xor_shr, xor_mod}
use lib.ListN.{length, get_or, take, drop, length-drop}
use lib.Seq.{get_or-drop, drop-drop, take-add}
use Rattle.octets.specs.Strings.{table}
use Rattle.octets.specs.Xor.{xors}
use Rattle.octets.proofs.Strings.{get_or-table, table-get_or, table-take}
use Rattle.fips197.specs.State.{at}
use Rattle.aes_schedule.specs.declared.words.Words.{Words}
use Rattle.aes_schedule.specs.Words.{bytes_of, block_of, word_at, looked_up}

pub four : {a b c d a' b' c' d' : ℕ} → a ≡ a' → b ≡ b' → c ≡ c' → d ≡ d' → a ∷ b ∷ c ∷ d ∷ [] ≡ a' ∷ b' ∷ c' ∷ d' ∷ []
four p q u v = ap₂ ◌∷◌ p (ap₂ ◌∷◌ q (ap₂ ◌∷◌ u (ap (λ (x : ℕ). x ∷ []) v)))

-- ---- bytes and words

pub joined_bytes : (a b c d : ℕ) → a < 256 → b < 256 → c < 256 → d < 256 → bytes_of (a + 256 * b + 65536 * c + 16777216 * d) ≡ a ∷ b ∷ c ∷ d ∷ []
joined_bytes a b c d ha hb hc hd = four (omega arith) (omega arith) (omega arith) (omega arith)

high_half : (x : ℕ) → x < 4294967296 → x / 65536 ≡ x / 65536 % 256 + 256 * (x / 16777216 % 256)
high_half x h = omega (arith, div-div-eq-div-mul x 65536 256)

pub rotated-bytes : (x : ℕ) → x < 4294967296 →
    bytes_of (bit_or (x / 256) (x * 16777216 % 4294967296)) ≡ x / 256 % 256 ∷ x / 65536 % 256 ∷ x / 16777216 % 256 ∷ x % 256 ∷ []
rotated-bytes x h =
    let a = x % 256 in
    let b = x / 256 % 256 in
    let c = x / 65536 % 256 in
    let d = x / 16777216 % 256 in
    let low : x * 16777216 % 4294967296 ≡ a * 2 ^ 24 = omega arith in
    let e : a * 2 ^ 24 + x / 256 ≡ b + 256 * c + 65536 * d + 16777216 * a = omega (arith, div-div-eq-div-mul x 256 256, high_half x h) in
    ap bytes_of (ap (bit_or (x / 256)) low ∙ or_shifted_r a 24 (x / 256) (omega arith) ∙ e)
    ∙ joined_bytes b c d a (omega arith) (omega arith) (omega arith) (omega arith)

pub xor_bytes : (x y : ℕ) → bytes_of (bit_xor x y) ≡ xors (bytes_of x) (bytes_of y)
unfolding xors
xor_bytes x y =
    four
    (xor_mod x y 8)
    (ap (λ (k : ℕ). k % 256) (xor_shr x y 8) ∙ xor_mod (x / 256) (y / 256) 8)
    (ap (λ (k : ℕ). k % 256) (xor_shr x y 16) ∙ xor_mod (x / 65536) (y / 65536) 8)
    (ap (λ (k : ℕ). k % 256) (xor_shr x y 24) ∙ xor_mod (x / 16777216) (y / 16777216) 8)

-- a byte as a word
pub byte_word : (x : ℕ) → x < 256 → bytes_of x ≡ x ∷ 0 ∷ 0 ∷ 0 ∷ []
byte_word x h = four (omega arith) (omega arith) (omega arith) (omega arith)

-- ---- a word of a string, and the four of a block

pub word_bytes : (s : List ℕ) (at : ℕ) → at + 4 ≤ length s → word_at s at ≡ take 4 (drop at s)
unfolding table
word_bytes s at h =
    let from = get_or-drop at s in
    four (ap (λ (k : ℕ). get_or s k 0) {x = at} {y = at + 0} (omega arith) ∙ sym (from 0 0)) (sym (from 1 0)) (sym (from 2 0)) (sym (from 3 0))
    ∙ table-take 4 (drop at s) (omega (arith, length-drop at s, h))

pub read-bytes : (s p q u v : List ℕ) → length s ≡ 16 →
    p ≡ get_or s 0 0 ∷ get_or s 1 0 ∷ get_or s 2 0 ∷ get_or s 3 0 ∷ [] → q ≡ get_or s 4 0 ∷ get_or s 5 0 ∷ get_or s 6 0 ∷ get_or s 7 0 ∷ [] →
    u ≡ get_or s 8 0 ∷ get_or s 9 0 ∷ get_or s 10 0 ∷ get_or s 11 0 ∷ [] → v ≡ get_or s 12 0 ∷ get_or s 13 0 ∷ get_or s 14 0 ∷ get_or s 15 0 ∷ [] →
    p ++ (q ++ (u ++ v)) ≡ s
unfolding table
read-bytes s p q u v l ep eq eu ev = rw (ep, eq, eu, ev) (ap (table (λ k. get_or s k 0)) (sym l) ∙ table-get_or s)

pub block_words : (s : List ℕ) (at : ℕ) → at + 16 ≤ length s → (p q u v : List ℕ) →
    p ≡ word_at s at → q ≡ word_at s (at + 4) → u ≡ word_at s (at + 8) → v ≡ word_at s (at + 12) → p ++ (q ++ (u ++ v)) ≡ take 16 (drop at s)
block_words s at h p q u v ep eq eu ev =
    ap₂ ◌++◌ (ep ∙ part at at refl (omega arith))
    (ap₂ ◌++◌ (eq ∙ part (at + 4) (at + 4) refl (omega arith))
    (ap₂ ◌++◌ (eu ∙ part (at + 8) (at + 4 + 4) (omega arith) (omega arith)) (ev ∙ part (at + 12) (at + 4 + 4 + 4) (omega arith) (omega arith))))
    ∙ sym
    (take-add 4 12 (drop at s)
    ∙ ap (λ (x : List ℕ). take 4 (drop at s) ++ x)
    (ap (take 12) (drop-drop 4 at s) ∙ take-add 4 8 (drop (at + 4) s)
    ∙ ap (λ (x : List ℕ). take 4 (drop (at + 4) s) ++ x)
    (ap (take 8) (drop-drop 4 (at + 4) s) ∙ take-add 4 4 (drop (at + 4 + 4) s)
    ∙ ap (λ (x : List ℕ). take 4 (drop (at + 4 + 4) s) ++ x) (ap (take 4) (drop-drop 4 (at + 4 + 4) s)))))
  where
    part : (j m : ℕ) → j ≡ m → j + 4 ≤ at + 16 → word_at s j ≡ take 4 (drop m s)
    part j m e l = word_bytes s j (omega arith) ∙ ap (λ (x : ℕ). take 4 (drop x s)) e

pub xor_words : (j k : Words) →
    bytes_of (bit_xor j.a k.a) ++ (bytes_of (bit_xor j.b k.b) ++ (bytes_of (bit_xor j.c k.c) ++ bytes_of (bit_xor j.d k.d))) ≡ xors (block_of j) (block_of k)
unfolding xors
xor_words j k = ap₂ ◌++◌ (xor_bytes j.a k.a) (ap₂ ◌++◌ (xor_bytes j.b k.b) (ap₂ ◌++◌ (xor_bytes j.c k.c) (xor_bytes j.d k.d)))

-- the entries of a table of values
pub looked-up : (f : ℕ → ℕ) (t : List ℕ) → t ≡ table f 256 → (p q u v : ℕ) → p < 256 → q < 256 → u < 256 → v < 256 → looked_up t p q u v ≡ f p ∷ f q ∷ f u ∷ f v ∷ []
looked-up f t e p q u v hp hq hu hv = four (at p hp) (at q hq) (at u hu) (at v hv)
  where
    at : (x : ℕ) → x < 256 → get_or t x 0 ≡ f x
    at x h = ap (λ (s : List ℕ). get_or s x 0) e ∙ get_or-table f 256 x h
