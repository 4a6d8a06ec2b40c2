-- Hex digits and pairs of them: what the tests say, bytes as pairs, and pairs as bytes.
-- Assumes nothing.
use mathlib.Core.Path.{◌≡◌, refl, sym, ap, ◌∙◌}
use Rattle.std.proofs.Math.Bool.{and_assoc}
use mathlib.Core.Bool.{Bool, true, false, cond, ◌&&◌, and-true, and-false, or-false, false≢true}
use mathlib.Core.List.{List, [], ◌∷◌, ◌++◌, append_assoc}
use mathlib.Core.Logic.{⊎_elim}
use Prim.Native.Nat.{ℕ, zero, suc, ◌+◌, ◌-◌, ◌*◌, ◌/◌, ◌%◌, ◌<◌, ◌≤◌}
use native.Mathlib.Numerals.{add-one}
use native.Mathlib.Omega.{arith}
use borrow.Author.Tests.{eqb-true, eq-eqb, lt-ltb, le-leb, lt-leb}
use lib.Dec.{eqb}
use lib.ListN.{length, take, drop, get_or}
use lib.Seq.{take-suc}
use Rattle.std.specs.List.{list_all}
use Rattle.octets.specs.Strings.{table}
use Rattle.octets.proofs.Strings.{table_is}
use Rattle.text.specs.Numerals.{hex_digit, hex, is_hex_digit, hex_value, are_hex_pairs, unhex, is_value, value_of}
use Rattle.text.proofs.NumeralLaws.{both, Digit, hex_range}

-- ---- digits

-- what a digit stands for, and that the subtraction does not wrap
pub value-ten : (c : ℕ) → is_hex_digit c ≡ true → c ≤ 57 → (48 ≤ c) × ((c - 48 ≡ hex_value c) × (c - 48 < 16))
unfolding hex_value
value-ten c e h =
    let l : 48 ≤ c = ⊎_elim (λ (d : Digit c). d.low) (λ (d : (97 ≤ c) × (c ≤ 102)). omega arith) (hex_range c e) in
    (l, (rw (le-leb c 57 h), omega arith))

pub value_letter : (c : ℕ) → is_hex_digit c ≡ true → 57 < c → (97 ≤ c) × ((c - 97 + 10 ≡ hex_value c) × (c - 97 + 10 < 16))
unfolding hex_value
value_letter c e h =
    let l : (97 ≤ c) × (c ≤ 102) = ⊎_elim (λ (d : Digit c). absurd (omega arith)) (λ (d : (97 ≤ c) × (c ≤ 102)). d) (hex_range c e) in
    (l.0, (rw (lt-leb c 57 h) (omega arith), omega arith))

-- ---- bytes as pairs

pub length-hex : (s : List ℕ) → length (hex s) ≡ 2 * length s
unfolding hex
length-hex [] = refl
length-hex (x ∷ s) = omega (arith, length-hex s)

hex_append : (s t : List ℕ) → hex (s ++ t) ≡ hex s ++ hex t
unfolding hex
hex_append [] t = refl
hex_append (x ∷ s) t = ap (λ (u : List ℕ). hex_digit (x / 16) ∷ hex_digit (x % 16) ∷ u) (hex_append s t)

-- After i turns of the loop over s: the first i bytes of s are written in hex.
pub hex_more : (s : List ℕ) (i : ℕ) → i < length s →
    (hex (take i s) ++ (hex_digit (get_or s i 0 / 16) ∷ [])) ++ (hex_digit (get_or s i 0 % 16) ∷ []) ≡ hex (take (i + 1) s)
unfolding hex
hex_more s i h =
    rw (add-one i, take-suc s i 0 h, hex_append (take i s) (get_or s i 0 ∷ []))
    (append_assoc (hex (take i s)) (hex_digit (get_or s i 0 / 16) ∷ []) (hex_digit (get_or s i 0 % 16) ∷ []))

-- ---- pairs of digits

pair-suc : (i : ℕ) → 2 * suc i ≡ suc (suc (2 * i))
pair-suc i = omega arith

pub pair-at : (w : List ℕ) (i : ℕ) → are_hex_pairs w ≡ true → i < length w / 2 → (is_hex_digit (get_or w (2 * i) 0) ≡ true) × (is_hex_digit (get_or w (2 * i + 1) 0) ≡ true)
unfolding are_hex_pairs
pair-at [] i e h = absurd (omega arith)
pair-at (a ∷ []) i e h = absurd (false≢true e)
pair-at (a ∷ b ∷ w) zero e h = both (is_hex_digit a) (is_hex_digit b) (both (is_hex_digit a && is_hex_digit b) (are_hex_pairs w) e).0
pair-at (a ∷ b ∷ w) (suc i) e h =
    rw (add-one (2 * suc i), pair-suc i, ← add-one (2 * i)) (pair-at w i (both (is_hex_digit a && is_hex_digit b) (are_hex_pairs w) e).1 (omega arith))

-- an even number of digits
pub all_pairs : (w : List ℕ) → eqb (length w % 2) 0 ≡ true → list_all is_hex_digit w ≡ are_hex_pairs w
unfolding are_hex_pairs
all_pairs [] e = refl
all_pairs (a ∷ []) e = absurd (false≢true e)
all_pairs (a ∷ b ∷ w) e =
    ap (λ (p : Bool). is_hex_digit a && (is_hex_digit b && p)) (all_pairs w (eq-eqb (length w % 2) 0 (omega (arith, eqb-true (length (a ∷ b ∷ w) % 2) 0 e))))
    ∙ sym (and_assoc (is_hex_digit a) (is_hex_digit b) (are_hex_pairs w))

pub odd_pairs : (w : List ℕ) → (length w % 2 ≡ 0 → ⊥) → false ≡ are_hex_pairs w
unfolding are_hex_pairs
odd_pairs [] n = absurd (n refl)
odd_pairs (a ∷ []) n = refl
odd_pairs (a ∷ b ∷ w) n = sym (ap (λ (p : Bool). is_hex_digit a && is_hex_digit b && p) (sym (odd_pairs w (λ z. n (omega arith)))) ∙ and-false _)

-- ---- pairs as bytes

pub length-unhex : (w : List ℕ) → length (unhex w) ≡ length w / 2
unfolding unhex
length-unhex [] = refl
length-unhex (a ∷ []) = refl
length-unhex (a ∷ b ∷ w) = omega (arith, length-unhex w)

-- byte k
abbrev pub pair_at : List ℕ → ℕ → ℕ
pair_at w k = hex_value (get_or w (2 * k) 0) * 16 + hex_value (get_or w (2 * k + 1) 0)

get_or-unhex : (w : List ℕ) (k : ℕ) → k < length w / 2 → pair_at w k ≡ get_or (unhex w) k 0
unfolding unhex
get_or-unhex [] k h = absurd (omega arith)
get_or-unhex (a ∷ []) k h = absurd (omega arith)
get_or-unhex (a ∷ b ∷ w) zero h = refl
get_or-unhex (a ∷ b ∷ w) (suc k) h = rw (add-one (2 * suc k), pair-suc k, ← add-one (2 * k)) (get_or-unhex w k (omega arith))

pub unhex-table : (w : List ℕ) → table (pair_at w) (length w / 2) ≡ unhex w
unhex-table w = table_is (pair_at w) (length w / 2) (unhex w) (length-unhex w) (get_or-unhex w)

-- ---- values

pub value_none : (w : List ℕ) → length w ≡ 0 → false ≡ is_value w
unfolding is_value
value_none [] e = refl
value_none (a ∷ w) e = absurd (omega arith)

pub value-dash : (w : List ℕ) → length w ≡ 1 → eqb (get_or w 0 0) 45 ≡ is_value w
unfolding is_value are_hex_pairs
value-dash [] e = absurd (omega arith)
value-dash (a ∷ []) e = sym (or-false (eqb a 45 && true) ∙ and-true (eqb a 45))
value-dash (a ∷ b ∷ w) e = absurd (omega arith)

pub value-pairs : (w : List ℕ) → (length w ≡ 0 → ⊥) → (length w ≡ 1 → ⊥) → are_hex_pairs w ≡ is_value w
unfolding is_value
value-pairs [] n m = absurd (n refl)
value-pairs (a ∷ []) n m = absurd (m refl)
value-pairs (a ∷ b ∷ w) n m = rw (and-false (eqb a 45), lt-ltb 0 (length (a ∷ b ∷ w)) (omega arith))

pub are-pairs : (w : List ℕ) → is_value w ≡ true → (length w ≡ 1 → ⊥) → are_hex_pairs w ≡ true
unfolding is_value
are-pairs [] e m = absurd (false≢true e)
are-pairs (a ∷ w) e m = value-pairs (a ∷ w) (λ z. omega arith) m ∙ e

-- what a value stands for
pub of_dash : (w : List ℕ) → length w ≡ 1 → value_of w ≡ []
unfolding value_of unhex
of_dash [] e = refl
of_dash (a ∷ []) e = go (eqb a 45 && true)
  where
    go : (b : Bool) → cond {A = List ℕ} b [] [] ≡ []
    go true = refl
    go false = refl
of_dash (a ∷ b ∷ w) e = absurd (omega arith)

pub of_pairs : (w : List ℕ) → (length w ≡ 1 → ⊥) → value_of w ≡ unhex w
unfolding value_of unhex
of_pairs [] m = refl
of_pairs (a ∷ []) m = absurd (m refl)
of_pairs (a ∷ b ∷ w) m = rw (and-false (eqb a 45))

pub read-dash : (w out : List ℕ) → length w ≡ 1 → (0 ≡ length (value_of w)) × (out ≡ value_of w ++ drop 0 out)
read-dash w out e = rw (of_dash w e) (refl, refl)

pub read_pairs : (w out last : List ℕ) → (length w ≡ 1 → ⊥) → last ≡ unhex w ++ drop (length w / 2) out →
    (length w / 2 ≡ length (value_of w)) × (last ≡ value_of w ++ drop (length w / 2) out)
read_pairs w out last m p = rw (of_pairs w m) (sym (length-unhex w), p)
