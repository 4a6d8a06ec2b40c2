-- Laws of halves, offsets and padding: lengths, bytes, and how the code computes them.
-- Assumes nothing.
use mathlib.Core.Path.{◌≡◌, refl, sym, ap, ap₂, ◌∙◌}
use mathlib.Core.Bool.{Bool, true, false, cond}
use mathlib.Core.List.{List, ◌∷◌, ◌++◌}
use Prim.Native.Nat.{ℕ, zero, suc, ◌+◌, ◌-◌, ◌*◌, ◌/◌, ◌%◌, ◌^◌, ◌<◌, ◌≤◌}
use native.Mathlib.Nat.{mod-eq_of_lt, lt_of_lt_of_le, pow-suc}
use native.Mathlib.Numerals.{add-one}
use native.Mathlib.Omega.{arith}
use lib.Bits.{bit_xor}
use lib.Dec.{eqb}
use borrow.Author.Tests.{ne_eqb}
use lib.ListN.{length, take, drop, get_or, replicate, length-append, length-take, length-drop}
use lib.Pow.{pow_mono}
use lib.Seq.{take_at, drop_at}
use Rattle.octets.specs.Strings.{Bytes, Octets}
use Rattle.octets.specs.Xor.{xors}
use Rattle.octets.specs.Numbers.{number, digits}
use Rattle.octets.proofs.Strings.{bytes_append, bytes_take, bytes_drop, bytes-replicate}
use Rattle.octets.proofs.Xor.{length-xors, bytes-xors}
use Rattle.octets.proofs.Numbers.{length_digits, bytes-digits, number_digits, digits_xor, power-two, number_more}
use Rattle.cba_mode.specs.Offsets.{doubled, two, three, four, five, six, times, F, start, offset, pad}

-- ---- lengths and bytes

pub xors-octets : (n : ℕ) {a b : List ℕ} → Octets n a → Octets n b → Octets n (xors a b)
xors-octets n {a} {b} p q = record { size = length-xors a b ∙ omega (arith, p.size, q.size); small = bytes-xors a b p.small q.small }

digits-octets : (n x : ℕ) → Octets n (digits n x)
digits-octets n x = record { size = length_digits n x; small = bytes-digits n x }

pub append_octets : {m n : ℕ} {s t : List ℕ} → Octets m s → Octets n t → Octets (m + n) (s ++ t)
append_octets {m} {n} {s} {t} p q = record { size = length-append s t ∙ omega (arith, p.size, q.size); small = bytes_append s t p.small q.small }

two-octets : (A : List ℕ) → Octets 8 (two A)
unfolding two
two-octets A = digits-octets 8 (doubled (number A))

three-octets : {A : List ℕ} → Octets 8 A → Octets 8 (three A)
unfolding three
three-octets {A} o = xors-octets 8 o (two-octets A)

one_of : (x : Bool) {a b : List ℕ} → Octets 8 a → Octets 8 b → Octets 8 (cond x a b)
one_of true p q = p
one_of false p q = q

pub times-octets : (p : ℕ) {A : List ℕ} → Octets 8 A → Octets 8 (times p A)
unfolding times four five six
times-octets p {A} o =
    one_of (eqb p 2) (two-octets A)
    (one_of (eqb p 3) (three-octets o)
    (one_of (eqb p 4) (two-octets (two A)) (one_of (eqb p 5) (three-octets (three-octets o)) (one_of (eqb p 6) (three-octets (two-octets A)) o))))

pub take-octets : (m n : ℕ) {s : List ℕ} → Octets n s → m ≤ n → Octets m (take m s)
take-octets m n {s} o h = record { size = length-take m s ∙ omega (arith, o.size); small = bytes_take m s o.small }

pub drop-octets : (m n : ℕ) {s : List ℕ} → Octets n s → Octets (n - m) (drop m s)
drop-octets m n {s} o = record { size = length-drop m s ∙ omega (arith, o.size); small = bytes_drop m s o.small }

-- an offset is a block
pub F-octets : (p q : ℕ) {Δ : List ℕ} → Octets 16 Δ → Octets 16 (F p q Δ)
unfolding F
F-octets p q o = append_octets (times-octets p (take-octets 8 16 o (omega arith))) (times-octets q (drop-octets 8 16 o))

pub start-octets : (R : List ℕ) (w : ℕ) → Octets 16 (start R w)
unfolding start
start-octets R w = F-octets 2 2 (digits-octets 16 _)

pub offset-octets : {Δ : List ℕ} (i : ℕ) → Octets 16 Δ → Octets 16 (offset Δ i)
unfolding offset
offset-octets zero o = o
offset-octets (suc i) o = F-octets 2 2 (offset-octets i o)

pub pad-octets : (A : List ℕ) → Bytes A → Octets 16 (pad A)
unfolding pad
pad-octets A b =
    record {
      size = length-take 16 (A ++ (0x80 ∷ replicate 15 0)) ∙ omega (arith, length-append A (0x80 ∷ replicate 15 0));
      small = bytes_take 16 (A ++ (0x80 ∷ replicate 15 0)) (bytes_append A _ b (omega arith, bytes-replicate 15 0 (omega arith)));
    }

-- stepping once before or once after
pub offset-front : (Δ : List ℕ) (i : ℕ) → offset Δ (suc i) ≡ offset (F 2 2 Δ) i
unfolding offset
offset-front Δ zero = refl
offset-front Δ (suc i) = ap (F 2 2) (offset-front Δ i)

-- ---- halves as numbers

-- 2·A, where A is held as a number
pub two-number : (x : ℕ) → x < 2 ^ 64 → two (digits 8 x) ≡ digits 8 (doubled x)
unfolding two
two-number x h = ap (λ (k : ℕ). digits 8 (doubled k)) (number_digits 8 x ∙ mod-eq_of_lt h)

pub double-number : (x : ℕ) → x < 2 ^ 64 → digits 8 (bit_xor (x / 0x8000000000000000 * 0x1b) (x % 0x8000000000000000 * 2)) ≡ two (digits 8 x)
unfolding doubled
double-number x h =
    ap (λ (k : ℕ). digits 8 (bit_xor (x / 0x8000000000000000 * 0x1b) k)) {x = x % 0x8000000000000000 * 2} {y = x * 2 % 2 ^ 64} (omega arith)
    ∙ sym (two-number x h)

pub triple_number : (x d : ℕ) → digits 8 d ≡ two (digits 8 x) → digits 8 (bit_xor x d) ≡ three (digits 8 x)
unfolding three
triple_number x d e = digits_xor 8 x d ∙ ap (xors (digits 8 x)) e

-- ---- p·A, case by case

pub times-at : (n : ℕ) {p : ℕ} (A : List ℕ) → p ≡ n → times p A ≡ times n A
times-at n A e = ap (λ (k : ℕ). times k A) e

pub times_other : (p : ℕ) (A : List ℕ) → (p ≡ 2 → ⊥) → (p ≡ 3 → ⊥) → (p ≡ 4 → ⊥) → (p ≡ 5 → ⊥) → (p ≡ 6 → ⊥) → A ≡ times p A
unfolding times
times_other p A a b c d e = rw (ne_eqb p 2 a, ne_eqb p 3 b, ne_eqb p 4 c, ne_eqb p 5 d, ne_eqb p 6 e)

-- F on the two halves
pub F-halves : (p q x y u v : ℕ) → digits 8 u ≡ times p (digits 8 x) → digits 8 v ≡ times q (digits 8 y) → digits 8 u ++ digits 8 v ≡ F p q (digits 8 x ++ digits 8 y)
unfolding F
F-halves p q x y u v a b =
    let n : length (digits 8 x) ≡ 8 = length_digits 8 x in
    ap₂ ◌++◌ (a ∙ ap (times p) (sym (take_at (digits 8 x) (digits 8 y) 8 n))) (b ∙ ap (times q) (sym (drop_at (digits 8 x) (digits 8 y) 8 n)))

-- ---- a number read byte by byte

-- x is the number of the first i bytes of t
pub record Read (t : List ℕ) (i x : ℕ) : Type 0 where
  pub within : i ≤ 8
  pub so_far : x ≡ number (take i t)
  pub below : x < 256 ^ i

pub read_none : (t : List ℕ) → Read t 0 0
unfolding number
read_none t = record { within = omega arith; so_far = refl; below = omega arith }

pub read_fits : {t : List ℕ} {i x : ℕ} → Read t i x → i < 8 → x < 2 ^ 56
read_fits {t} {i} {x} v h = lt_of_lt_of_le v.below (rw (power-two i) (pow_mono {i = 8 * i} {j = 56} (omega arith)))

pub read-turn : {t : List ℕ} {i x : ℕ} (y : ℕ) → Read t i x → i < 8 → i < length t → y ≡ get_or t i 0 → y < 256 → Read t (i + 1) (x * 256 + y)
read-turn {t} {i} {x} y v h l e b =
    record {
      within = omega arith;
      so_far = ap₂ (λ (p q : ℕ). p * 256 + q) v.so_far e ∙ sym (number_more t i l);
      below = rw (add-one i, pow-suc 256 i) (omega (arith, v.below));
    }

-- F_{6,6}(Δ) = F_{3,3}(F_{2,2}(Δ)): what DEC writes in one step, ENC takes in two
pub F-six : {Δ : List ℕ} → Octets 16 Δ → F 6 6 Δ ≡ F 3 3 (F 2 2 Δ)
unfolding F times six
F-six {Δ} o =
    let n : length (two (take 8 Δ)) ≡ 8 = (two-octets (take 8 Δ)).size in
    sym (ap₂ (λ (x y : List ℕ). three x ++ three y) (take_at (two (take 8 Δ)) (two (drop 8 Δ)) 8 n) (drop_at (two (take 8 Δ)) (two (drop 8 Δ)) 8 n))
