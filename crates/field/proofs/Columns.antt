-- MixColumns and InvMixColumns on one column, by doublings: the rows of the two matrices, and that each matrix undoes the other.
-- Assumes nothing.
use mathlib.Core.Path.{◌≡◌, refl, sym, ap, ap₂, ◌∙◌}
use mathlib.Core.List.{List, [], ◌∷◌}
use Prim.Native.Nat.{ℕ, zero, suc, ◌*◌, ◌/◌, ◌%◌, ◌<◌}
use native.Mathlib.Nat.{add-zero, mul-zero}
use native.Mathlib.Omega.{arith}
use lib.Bits.{bit_xor, xor_comm, xor_self, xor_zero_l, xor_shr, xor_mod, xor_block}
use lib.Dec.{T}
use lib.ListN.{get_or}
use Rattle.octets.proofs.Tests.{agree, same}
use Rattle.octets.proofs.Xor.{xor_half, xor_assoc, xor_left-comm, xor_cancel, xor_byte}
use Rattle.field.specs.Field.{xtime, mul_bits, mul, dot}
use Rattle.field.proofs.Rules.{mul_byte}

-- ---- sums of doublings, for any operation with the exclusive or's laws and any doubling that is additive over it

module _ (◌⊕◌ : ℕ → ℕ → ℕ) where
  infixr 60 ◌⊕◌
  record Laws : Type 0 where
    assoc : (a b c : ℕ) → (a ⊕ b) ⊕ c ≡ a ⊕ b ⊕ c
    left_comm : (a b c : ℕ) → a ⊕ b ⊕ c ≡ b ⊕ a ⊕ c
    comm : (a b : ℕ) → a ⊕ b ≡ b ⊕ a
    self : (a : ℕ) → a ⊕ a ≡ 0
    zero_l : (a : ℕ) → 0 ⊕ a ≡ a
    cancel : (a b : ℕ) → a ⊕ a ⊕ b ≡ b

  four : Laws → (p q r s : ℕ) → (p ⊕ q) ⊕ r ⊕ s ≡ (p ⊕ r) ⊕ q ⊕ s
  four L p q r s = simp (L.assoc, L.left_comm)

  eight : Laws → (p q r s t u v w : ℕ) → (p ⊕ q) ⊕ (r ⊕ s) ⊕ (t ⊕ u) ⊕ v ⊕ w ≡ (p ⊕ r ⊕ t ⊕ v) ⊕ q ⊕ s ⊕ u ⊕ w
  eight L p q r s t u v w = simp (L.assoc, L.left_comm)

  module _ (L : Laws) (dbl : ℕ → ℕ) (additive : (a b : ℕ) → dbl (a ⊕ b) ≡ dbl a ⊕ dbl b) (a b c d : ℕ) where
    mixed-sum : dbl a ⊕ (dbl b ⊕ b) ⊕ c ⊕ d ≡ dbl (a ⊕ b) ⊕ b ⊕ c ⊕ d
    mixed-sum = simp (additive, L.assoc, L.left_comm, L.comm)

    unmixed-sum :
        (dbl (dbl (dbl a)) ⊕ dbl (dbl a) ⊕ dbl a)
        ⊕ (dbl (dbl (dbl b)) ⊕ dbl b ⊕ b)
        ⊕ (dbl (dbl (dbl c)) ⊕ dbl (dbl c) ⊕ c)
        ⊕ (dbl (dbl (dbl d)) ⊕ d)
        ≡ dbl (dbl (dbl ((a ⊕ b) ⊕ c ⊕ d) ⊕ a ⊕ c) ⊕ a ⊕ b) ⊕ b ⊕ c ⊕ d
    unmixed-sum = simp (additive, L.assoc, L.left_comm, L.comm)

    mix : ℕ → ℕ → ℕ → ℕ → ℕ
    mix p q r s = dbl (p ⊕ q) ⊕ q ⊕ r ⊕ s

    unmix : ℕ → ℕ → ℕ → ℕ → ℕ
    unmix p q r s = dbl (dbl (dbl ((p ⊕ q) ⊕ r ⊕ s) ⊕ p ⊕ r) ⊕ p ⊕ q) ⊕ q ⊕ r ⊕ s

    unmix-mix : unmix (mix a b c d) (mix b c d a) (mix c d a b) (mix d a b c) ≡ a
    unfolding mix unmix
    unmix-mix = simp (additive, L.assoc, L.left_comm, L.comm, L.self, L.cancel, L.zero_l)

    mix-unmix : mix (unmix a b c d) (unmix b c d a) (unmix c d a b) (unmix d a b c) ≡ a
    unfolding mix unmix
    mix-unmix = simp (additive, L.assoc, L.left_comm, L.comm, L.self, L.cancel, L.zero_l)

laws : Laws bit_xor
laws =
    record {
      assoc = xor_assoc;
      left_comm = xor_left-comm;
      comm = xor_comm;
      self = xor_self;
      zero_l = xor_zero_l;
      cancel = xor_cancel;
    }

-- ---- doubling is additive

twice_xor : (a b : ℕ) → bit_xor a b * 2 ≡ bit_xor (a * 2) (b * 2)
twice_xor a b = sym (simp add-zero at (xor_block 1 a b 0 0 (omega arith) (omega arith)))

reduce_xor : (x y : ℕ) → x < 2 → y < 2 → bit_xor x y * 0x1b ≡ bit_xor (x * 0x1b) (y * 0x1b)
reduce_xor zero y h k = refl
reduce_xor (suc zero) zero h k = refl
reduce_xor (suc zero) (suc zero) h k = refl
reduce_xor (suc zero) (suc (suc y)) h k = absurd (omega arith)
reduce_xor (suc (suc x)) y h k = absurd (omega arith)

pub xtime_xor : (a b : ℕ) → xtime (bit_xor a b) ≡ bit_xor (xtime a) (xtime b)
unfolding xtime
xtime_xor a b =
    ap₂ bit_xor
    (ap (λ (k : ℕ). k % 256) (twice_xor a b) ∙ xor_mod (a * 2) (b * 2) 8)
    (ap (λ (k : ℕ). k % 2 * 0x1b) (xor_shr a b 7) ∙ ap (λ (k : ℕ). k * 0x1b) (xor_mod (a / 128) (b / 128) 1)
    ∙ reduce_xor (a / 128 % 2) (b / 128 % 2) (omega arith) (omega arith))
    ∙ four bit_xor laws (a * 2 % 256) (b * 2 % 256) (a / 128 % 2 * 0x1b) (b / 128 % 2 * 0x1b)

-- ---- a matrix is additive, as section 5.3.5 needs it: the row of a sum is the sum of the rows

times_xor : (a x y : ℕ) → x < 2 → y < 2 → a * bit_xor x y ≡ bit_xor (a * x) (a * y)
times_xor a zero y h k = rw (xor_zero_l y, mul-zero a) (sym (xor_zero_l (a * y)))
times_xor a (suc zero) zero h k = rw (mul-zero a) (sym (xor_comm (a * 1) 0 ∙ xor_zero_l (a * 1)))
times_xor a (suc zero) (suc zero) h k = mul-zero a ∙ sym (xor_self (a * 1))
times_xor a (suc zero) (suc (suc y)) h k = absurd (omega arith)
times_xor a (suc (suc x)) y h k = absurd (omega arith)

mul_bits_xor : (n a b c : ℕ) → mul_bits n a (bit_xor b c) ≡ bit_xor (mul_bits n a b) (mul_bits n a c)
unfolding mul_bits
mul_bits_xor zero a b c = refl
mul_bits_xor (suc n) a b c =
    ap₂ bit_xor
    (ap (λ (k : ℕ). a * k) (xor_mod b c 1) ∙ times_xor a (b % 2) (c % 2) (omega arith) (omega arith))
    (ap (mul_bits n (xtime a)) (xor_half b c) ∙ mul_bits_xor n (xtime a) (b / 2) (c / 2))
    ∙ four bit_xor laws (a * (b % 2)) (a * (c % 2)) (mul_bits n (xtime a) (b / 2)) (mul_bits n (xtime a) (c / 2))

pub dot_xor : (p q r s a b c d e f g h : ℕ) →
    dot p q r s (bit_xor a e) (bit_xor b f) (bit_xor c g) (bit_xor d h) ≡ bit_xor (dot p q r s a b c d) (dot p q r s e f g h)
unfolding dot mul
dot_xor p q r s a b c d e f g h =
    ap₂ bit_xor (mul_bits_xor 8 p a e) (ap₂ bit_xor (mul_bits_xor 8 q b f) (ap₂ bit_xor (mul_bits_xor 8 r c g) (mul_bits_xor 8 s d h)))
    ∙ eight bit_xor laws (mul p a) (mul p e) (mul q b) (mul q f) (mul r c) (mul r g) (mul s d) (mul s h)

-- ---- the multiples that the two matrices have

found : ℕ → List ℕ
found v = mul 1 v ∷ mul 2 v ∷ mul 3 v ∷ mul 0x09 v ∷ mul 0x0b v ∷ mul 0x0d v ∷ mul 0x0e v ∷ []

right : ℕ → List ℕ
right v =
    let w = xtime v in
    let x = xtime w in
    let y = xtime x in
    v ∷ w ∷ bit_xor w v ∷ bit_xor y v ∷ bit_xor y (bit_xor w v) ∷ bit_xor y (bit_xor x v) ∷ bit_xor y (bit_xor x w) ∷ []

test : T (agree found right 256)
unfolding found right xtime mul_bits mul
test = tt

multiples : (i v : ℕ) → v < 256 → get_or (found v) i 0 ≡ get_or (right v) i 0
multiples i v h = ap (λ (s : List ℕ). get_or s i 0) (same found right 256 test v h)

pub mul-one : (v : ℕ) → v < 256 → mul 1 v ≡ v
unfolding found right
mul-one = multiples 0

-- ---- a row of each matrix

-- 2 a ⊕ 3 b ⊕ c ⊕ d
unfoldable pub mixed : ℕ → ℕ → ℕ → ℕ → ℕ
mixed a b c d = bit_xor (xtime (bit_xor a b)) (bit_xor b (bit_xor c d))

-- e a ⊕ b b ⊕ d c ⊕ 9 d
unfoldable pub unmixed : ℕ → ℕ → ℕ → ℕ → ℕ
unmixed a b c d =
    bit_xor
    (xtime (bit_xor (xtime (bit_xor (xtime (bit_xor (bit_xor a b) (bit_xor c d))) (bit_xor a c))) (bit_xor a b)))
    (bit_xor b (bit_xor c d))

unmixed-mixed : (a b c d : ℕ) → unmixed (mixed a b c d) (mixed b c d a) (mixed c d a b) (mixed d a b c) ≡ a
unfolding mixed unmixed mix unmix
unmixed-mixed = unmix-mix bit_xor laws xtime xtime_xor

mixed-unmixed : (a b c d : ℕ) → mixed (unmixed a b c d) (unmixed b c d a) (unmixed c d a b) (unmixed d a b c) ≡ a
unfolding mixed unmixed mix unmix
mixed-unmixed = mix-unmix bit_xor laws xtime xtime_xor

-- a column of bytes
pub record Column (a b c d : ℕ) : Type 0 where
  pub one : a < 256
  pub two : b < 256
  pub three : c < 256
  pub four : d < 256

pub round : {a b c d : ℕ} → Column a b c d → Column b c d a
round h = record { one = h.two; two = h.three; three = h.four; four = h.one }

pub mixed-row : {a b c d : ℕ} → Column a b c d → dot 2 3 1 1 a b c d ≡ mixed a b c d
unfolding found right mixed dot
mixed-row {a} {b} {c} {d} h =
    ap₂ bit_xor (multiples 1 a h.one) (ap₂ bit_xor (multiples 2 b h.two) (ap₂ bit_xor (multiples 0 c h.three) (multiples 0 d h.four)))
    ∙ mixed-sum bit_xor laws xtime xtime_xor a b c d

pub unmixed-row : {a b c d : ℕ} → Column a b c d → dot 0x0e 0x0b 0x0d 0x09 a b c d ≡ unmixed a b c d
unfolding found right unmixed dot
unmixed-row {a} {b} {c} {d} h =
    ap₂ bit_xor (multiples 6 a h.one) (ap₂ bit_xor (multiples 4 b h.two) (ap₂ bit_xor (multiples 5 c h.three) (multiples 3 d h.four)))
    ∙ unmixed-sum bit_xor laws xtime xtime_xor a b c d

pub dot_byte : (p q r s a b c d : ℕ) → Column p q r s → dot p q r s a b c d < 256
unfolding dot
dot_byte p q r s a b c d h =
    xor_byte _ _ (mul_byte p a h.one) (xor_byte _ _ (mul_byte q b h.two) (xor_byte _ _ (mul_byte r c h.three) (mul_byte s d h.four)))

-- ---- a column under one matrix, then under the other, is itself

-- M and N are the rows of two matrices whose other rows are these taken round, m and n are their sums of doublings
undo : (M N m n : ℕ → ℕ → ℕ → ℕ → ℕ) →
    ((a b c d : ℕ) → M a b c d < 256) →
    ((a b c d : ℕ) → Column a b c d → M a b c d ≡ m a b c d) →
    ((a b c d : ℕ) → Column a b c d → N a b c d ≡ n a b c d) →
    ((a b c d : ℕ) → n (m a b c d) (m b c d a) (m c d a b) (m d a b c) ≡ a) →
    {a b c d : ℕ} → Column a b c d → N (M a b c d) (M b c d a) (M c d a b) (M d a b c) ≡ a
undo M N m n byte M-is N-is law {a} {b} {c} {d} h =
    N-is _ _ _ _ (record { one = byte a b c d; two = byte b c d a; three = byte c d a b; four = byte d a b c })
    ∙ rw
    (M-is a b c d h, M-is b c d a (round h), M-is c d a b (round (round h)), M-is d a b c (round (round (round h))))
    (law a b c d)

pub unmix-undoes : {a b c d : ℕ} → Column a b c d →
    dot 0x0e 0x0b 0x0d 0x09 (dot 2 3 1 1 a b c d) (dot 2 3 1 1 b c d a) (dot 2 3 1 1 c d a b) (dot 2 3 1 1 d a b c) ≡ a
unmix-undoes =
    undo (dot 2 3 1 1) (dot 0x0e 0x0b 0x0d 0x09) mixed unmixed
    (λ a b c d. dot_byte 2 3 1 1 a b c d (omega arith))
    (λ a b c d h. mixed-row h)
    (λ a b c d h. unmixed-row h)
    unmixed-mixed

pub mix-undoes : {a b c d : ℕ} → Column a b c d →
    dot 2 3 1 1
    (dot 0x0e 0x0b 0x0d 0x09 a b c d)
    (dot 0x0e 0x0b 0x0d 0x09 b c d a)
    (dot 0x0e 0x0b 0x0d 0x09 c d a b)
    (dot 0x0e 0x0b 0x0d 0x09 d a b c) ≡ a
mix-undoes =
    undo (dot 0x0e 0x0b 0x0d 0x09) (dot 2 3 1 1) unmixed mixed
    (λ a b c d. dot_byte 0x0e 0x0b 0x0d 0x09 a b c d (omega arith))
    (λ a b c d h. unmixed-row h)
    (λ a b c d h. mixed-row h)
    mixed-unmixed
