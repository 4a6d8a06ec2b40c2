-- Laws of the exclusive or, of numbers and of byte strings of any length.
-- Assumes nothing.
use mathlib.Core.Path.{◌≡◌, refl, sym, ap, ap₂, ◌∙◌}
use mathlib.Core.List.{List, [], ◌∷◌, ◌++◌}
use Prim.Native.Nat.{ℕ, zero, suc, ◌+◌, ◌*◌, ◌/◌, ◌%◌, ◌<◌, ◌≤◌, min}
use native.Mathlib.Nat.{add_assoc, add_comm, zero-min, min-zero, le_of_suc-le-suc, not-suc-le-zero}
use native.Mathlib.Omega.{arith}
use lib.Arith.{bin_ind}
use lib.Bits.{bit_xor, differ, xor_step, xor_comm, xor_self, xor_zero_l, xor_lt}
use lib.ListN.{length, take, drop, get_or, replicate, length-take, length-drop}
use lib.Seq.{get_or-take, get_or-drop}
use Rattle.octets.specs.Strings.{Bytes, table}
use Rattle.octets.specs.Xor.{xors}
use Rattle.octets.proofs.Strings.{table_is, table_same}

-- ---- numbers

differ_mod : (x y : ℕ) → x < 2 → y < 2 → differ x y ≡ (x + y) % 2
differ_mod zero y h k = omega arith
differ_mod (suc zero) zero h k = refl
differ_mod (suc zero) (suc zero) h k = refl
differ_mod (suc zero) (suc (suc y)) h k = absurd (omega arith)
differ_mod (suc (suc x)) y h k = absurd (omega arith)

-- the lowest digit of a ⊕ b, and the others
low : (a b : ℕ) → bit_xor a b ≡ bit_xor (a / 2) (b / 2) * 2 + (a % 2 + b % 2) % 2
low a b = xor_step a b ∙ ap (λ (d : ℕ). bit_xor (a / 2) (b / 2) * 2 + d) (differ_mod (a % 2) (b % 2) (omega arith) (omega arith))

pub xor_half : (a b : ℕ) → bit_xor a b / 2 ≡ bit_xor (a / 2) (b / 2)
xor_half a b = omega (arith, low a b)

pub xor_odd : (a b : ℕ) → bit_xor a b % 2 ≡ (a % 2 + b % 2) % 2
xor_odd a b = omega (arith, low a b)

mod_inside : (p q : ℕ) → (p % 2 + q) % 2 ≡ (p + q) % 2
mod_inside p q = omega arith

bits-assoc : (x y z : ℕ) → ((x + y) % 2 + z) % 2 ≡ (x + (y + z) % 2) % 2
bits-assoc x y z =
    mod_inside (x + y) z ∙ ap (λ (k : ℕ). k % 2) (add_assoc x y z ∙ add_comm x (y + z))
    ∙ sym (mod_inside (y + z) x)
    ∙ ap (λ (k : ℕ). k % 2) (add_comm ((y + z) % 2) x)

pub xor_assoc : (a b c : ℕ) → bit_xor (bit_xor a b) c ≡ bit_xor a (bit_xor b c)
xor_assoc =
    bin_ind (λ (a : ℕ). (b c : ℕ) → bit_xor (bit_xor a b) c ≡ bit_xor a (bit_xor b c)) (λ b c. refl)
    (λ a ih b c.
    rw (low (bit_xor a b) c, low a (bit_xor b c), xor_half a b, xor_half b c, xor_odd a b, xor_odd b c)
    (ap₂ (λ (q d : ℕ). q * 2 + d) (ih (b / 2) (c / 2)) (bits-assoc (a % 2) (b % 2) (c % 2))))

pub xor_left-comm : (a b c : ℕ) → bit_xor a (bit_xor b c) ≡ bit_xor b (bit_xor a c)
xor_left-comm a b c = sym (xor_assoc a b c) ∙ ap (λ (x : ℕ). bit_xor x c) (xor_comm a b) ∙ xor_assoc b a c

pub xor_cancel : (a b : ℕ) → bit_xor a (bit_xor a b) ≡ b
xor_cancel a b = sym (xor_assoc a a b) ∙ ap (λ (x : ℕ). bit_xor x b) (xor_self a) ∙ xor_zero_l b

pub xor_byte : (a b : ℕ) → a < 256 → b < 256 → bit_xor a b < 256
xor_byte a b h k = xor_lt 8 a b h k

-- ---- strings

pub length-xors : (a b : List ℕ) → length (xors a b) ≡ min (length a) (length b)
unfolding xors
length-xors [] b = sym (zero-min (length b))
length-xors (x ∷ a) [] = sym (min-zero (suc (length a)))
length-xors (x ∷ a) (y ∷ b) = omega (arith, length-xors a b)

pub bytes-xors : (a b : List ℕ) → Bytes a → Bytes b → Bytes (xors a b)
unfolding xors
bytes-xors [] b h k = tt
bytes-xors (x ∷ a) [] h k = tt
bytes-xors (x ∷ a) (y ∷ b) h k = (xor_byte x y h.0 k.0, bytes-xors a b h.1 k.1)

pub xors-comm : (a b : List ℕ) → xors a b ≡ xors b a
unfolding xors
xors-comm [] [] = refl
xors-comm [] (y ∷ b) = refl
xors-comm (x ∷ a) [] = refl
xors-comm (x ∷ a) (y ∷ b) = ap₂ ◌∷◌ (xor_comm x y) (xors-comm a b)

pub xors-assoc : (a b c : List ℕ) → xors (xors a b) c ≡ xors a (xors b c)
unfolding xors
xors-assoc [] b c = refl
xors-assoc (x ∷ a) [] c = refl
xors-assoc (x ∷ a) (y ∷ b) [] = refl
xors-assoc (x ∷ a) (y ∷ b) (z ∷ c) = ap₂ ◌∷◌ (xor_assoc x y z) (xors-assoc a b c)

pub xors-cancel : (a b : List ℕ) → length b ≤ length a → xors a (xors a b) ≡ b
unfolding xors
xors-cancel [] [] h = refl
xors-cancel [] (y ∷ b) h = absurd (not-suc-le-zero h)
xors-cancel (x ∷ a) [] h = refl
xors-cancel (x ∷ a) (y ∷ b) h = ap₂ ◌∷◌ (xor_cancel x y) (xors-cancel a b (le_of_suc-le-suc h))

pub xors-self : (a : List ℕ) → xors a a ≡ replicate (length a) 0
unfolding xors
xors-self [] = refl
xors-self (x ∷ a) = ap₂ ◌∷◌ (xor_self x) (xors-self a)

pub xors-zero : (n : ℕ) (a : List ℕ) → xors (replicate n 0) a ≡ take n a
unfolding xors
xors-zero zero a = refl
xors-zero (suc n) [] = refl
xors-zero (suc n) (x ∷ a) = ap (λ (s : List ℕ). x ∷ s) (xors-zero n a)

pub take-xors : (n : ℕ) (a b : List ℕ) → take n (xors a b) ≡ xors (take n a) (take n b)
unfolding xors
take-xors zero a b = refl
take-xors (suc n) [] b = refl
take-xors (suc n) (x ∷ a) [] = refl
take-xors (suc n) (x ∷ a) (y ∷ b) = ap (λ (s : List ℕ). bit_xor x y ∷ s) (take-xors n a b)

pub drop-xors : (n : ℕ) (a b : List ℕ) → drop n (xors a b) ≡ xors (drop n a) (drop n b)
unfolding xors
drop-xors zero a b = refl
drop-xors (suc n) [] b = refl
drop-xors (suc n) (x ∷ a) [] = xors-comm [] (drop n a)
drop-xors (suc n) (x ∷ a) (y ∷ b) = drop-xors n a b

pub append_xors : (a b c d : List ℕ) → length a ≡ length b → xors (a ++ c) (b ++ d) ≡ xors a b ++ xors c d
unfolding xors
append_xors [] [] c d h = refl
append_xors [] (y ∷ b) c d h = absurd (omega arith)
append_xors (x ∷ a) [] c d h = absurd (omega arith)
append_xors (x ∷ a) (y ∷ b) c d h = ap (λ (s : List ℕ). bit_xor x y ∷ s) (append_xors a b c d (omega arith))

pub get_or-xors : (a b : List ℕ) (i : ℕ) → i < length a → i < length b → get_or (xors a b) i 0 ≡ bit_xor (get_or a i 0) (get_or b i 0)
unfolding xors
get_or-xors [] b i h k = absurd (not-suc-le-zero h)
get_or-xors (x ∷ a) [] i h k = absurd (not-suc-le-zero k)
get_or-xors (x ∷ a) (y ∷ b) zero h k = refl
get_or-xors (x ∷ a) (y ∷ b) (suc i) h k = get_or-xors a b i (le_of_suc-le-suc h) (le_of_suc-le-suc k)

-- the string whose bytes are the exclusive or of those of a and b
pub xors-table : (n : ℕ) (a b : List ℕ) → length a ≡ n → length b ≡ n → table (λ k. bit_xor (get_or a k 0) (get_or b k 0)) n ≡ xors a b
xors-table n a b p q =
    table_is _ n (xors a b) (length-xors a b ∙ omega arith)
    (λ k h. sym (get_or-xors a b k (omega arith) (omega arith)))

-- the exclusive or of a with the part of b that begins at p
pub xors-part : (n p : ℕ) (a b : List ℕ) → length a ≡ n → p + n ≤ length b →
    table (λ k. bit_xor (get_or a k 0) (get_or b (p + k) 0)) n ≡ xors a (take n (drop p b))
xors-part n p a b e h =
    table_same _ _ n (λ k l. ap (bit_xor (get_or a k 0)) (sym (get_or-take n (drop p b) k 0 l ∙ get_or-drop p b k 0)))
    ∙ xors-table n a (take n (drop p b)) e (simp (length-take, length-drop) (omega arith))
