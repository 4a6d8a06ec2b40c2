-- The steps of a round on words, by table.
-- Assumes nothing.
use mathlib.Core.Path.{◌≡◌, refl, ap, ap₂, ◌∙◌}
use mathlib.Core.List.{List, [], ◌∷◌, ◌++◌}
use Prim.Native.Nat.{ℕ, suc, ◌+◌, ◌*◌, ◌/◌, ◌%◌, ◌<◌, ◌≤◌}
use native.Mathlib.Omega.{arith}
use lib.Bits.{bit_xor, xor_comm}
use lib.ListN.{length, get_or}
use Rattle.octets.specs.Strings.{table}
use Rattle.octets.specs.Xor.{xors}
use Rattle.octets.specs.Blocks.{block}
use Rattle.octets.proofs.Xor.{xor_assoc}
use Rattle.field.specs.Field.{mul, dot}
use Rattle.field.specs.SBox.{s_box, inv_s_box}
use Rattle.aes_tables.specs.Round.{multiples, entry, inverse_entry, entries}
use Rattle.field.proofs.Rules.{s_box_byte, inv_s_box-s_box}
use Rattle.field.proofs.Columns.{mul-one}
use Rattle.aes_tables.proofs.RoundLaws.{length-entries, get_or-entries}
use Rattle.fips197.specs.State.{at, state}
use Rattle.fips197.specs.Steps.{sub_bytes, shift_rows, times_matrix, mix_columns, inv_sub_bytes, inv_shift_rows, inv_mix_columns}
use Rattle.aes_schedule.specs.declared.words.Words.{Words}
use Rattle.aes_schedule.specs.Boxes.{Boxes}
use Rattle.aes_schedule.specs.Words.{bytes_of, block_of, word_at, looked_up}
use Rattle.aes_schedule.proofs.WordLaws.{four, block_words, looked-up}
use Rattle.aes.specs.Tables.{added_up, times_column, unmixed_column, sub_boxed, on_column, Entries}

-- ---- the columns of a round

-- a sum of four, from its second on
round-sum : (a b c d : ℕ) → bit_xor a (bit_xor b (bit_xor c d)) ≡ bit_xor b (bit_xor c (bit_xor d a))
round-sum a b c d = xor_comm a (bit_xor b (bit_xor c d)) ∙ xor_assoc b (bit_xor c d) a ∙ ap (bit_xor b) (xor_assoc c d a)

sum-right : (a b c d : ℕ) → bit_xor (bit_xor (bit_xor a b) c) d ≡ bit_xor a (bit_xor b (bit_xor c d))
sum-right a b c d = xor_assoc (bit_xor a b) c d ∙ xor_assoc a b (bit_xor c d)

added-column : (p q u v a b c d : ℕ) →
    xors (xors (xors (word_at (multiples p v u q a) 0) (word_at (multiples p v u q b) 3)) (word_at (multiples p v u q c) 2)) (word_at (multiples p v u q d) 1)
    ≡ times_column p q u v a b c d
unfolding xors multiples dot
added-column p q u v a b c d =
    four
    (sum-right (mul p a) (mul q b) (mul u c) (mul v d))
    (sum-right (mul v a) (mul p b) (mul q c) (mul u d) ∙ round-sum (mul v a) (mul p b) (mul q c) (mul u d))
    (sum-right (mul u a) (mul v b) (mul p c) (mul q d) ∙ round-sum (mul u a) (mul v b) (mul p c) (mul q d) ∙ round-sum (mul v b) (mul p c) (mul q d) (mul u a))
    (sum-right (mul q a) (mul u b) (mul v c) (mul p d) ∙ round-sum (mul q a) (mul u b) (mul v c) (mul p d) ∙ round-sum (mul u b) (mul v c) (mul p d) (mul q a) ∙ round-sum (mul v c) (mul p d) (mul q a) (mul u b))

-- what is read of a table for the byte x, from byte k of its entry on
module _ {e : ℕ → List ℕ} (t : List ℕ) (r : Entries e t) where
  entry_byte : (x k m : ℕ) → x < 256 → k < 8 → m ≡ 8 * x + k → get_or t m 0 ≡ get_or (e x) k 0
  entry_byte x k m h l p = ap (λ (j : ℕ). get_or t j 0) p ∙ r.byte_is x k h l

  entry-word : (x k m : ℕ) → x < 256 → k < 5 → m ≡ 8 * x + k → word_at t m ≡ word_at (e x) k
  entry-word x k m h l p =
      four (entry_byte x k m h (omega arith) p) (entry_byte x (k + 1) (m + 1) h (omega arith) (omega arith)) (entry_byte x (k + 2) (m + 2) h (omega arith) (omega arith)) (entry_byte x (k + 3) (m + 3) h (omega arith) (omega arith))

  added-entries : (x y z o : ℕ) → x < 256 → y < 256 → z < 256 → o < 256 →
      added_up t x y z o ≡ xors (xors (xors (word_at (e x) 0) (word_at (e y) 3)) (word_at (e z) 2)) (word_at (e o) 1)
  added-entries x y z o hx hy hz ho =
      ap₂ xors
      (ap₂ xors (ap₂ xors (entry-word x 0 (8 * x) hx (omega arith) (omega arith)) (entry-word y 3 (8 * y + 3) hy (omega arith) refl)) (entry-word z 2 (8 * z + 2) hz (omega arith) refl))
      (entry-word o 1 (8 * o + 1) ho (omega arith) refl)

-- a column by a table whose entries are a box's bytes times the first column of a matrix: the matrix times the box's bytes
boxed_column : (p q u v : ℕ) (box : ℕ → ℕ) (t : List ℕ) → Entries (λ b. multiples p v u q (box b)) t → (x y z o : ℕ) →
    added_up t (x % 256) (y % 256) (z % 256) (o % 256) ≡ times_column p q u v (box (x % 256)) (box (y % 256)) (box (z % 256)) (box (o % 256))
boxed_column p q u v box t r x y z o =
    added-entries t r (x % 256) (y % 256) (z % 256) (o % 256) (omega arith) (omega arith) (omega arith) (omega arith) ∙ added-column p q u v _ _ _ _

pub mix-block : (t : List ℕ) → Entries entry t → (k : Words) (p q u v : ℕ) →
    bytes_of p ≡ added_up t (k.a % 256) (k.b / 256 % 256) (k.c / 65536 % 256) (k.d / 16777216 % 256) →
    bytes_of q ≡ added_up t (k.b % 256) (k.c / 256 % 256) (k.d / 65536 % 256) (k.a / 16777216 % 256) →
    bytes_of u ≡ added_up t (k.c % 256) (k.d / 256 % 256) (k.a / 65536 % 256) (k.b / 16777216 % 256) →
    bytes_of v ≡ added_up t (k.d % 256) (k.a / 256 % 256) (k.b / 65536 % 256) (k.c / 16777216 % 256) →
    bytes_of p ++ (bytes_of q ++ (bytes_of u ++ bytes_of v)) ≡ mix_columns (shift_rows (sub_bytes (block_of k)))
unfolding entry mix_columns times_matrix shift_rows sub_bytes state at table
mix-block t r k p q u v ep eq eu ev = let is = boxed_column _ _ _ _ s_box t r in ap₂ ◌++◌ (ep ∙ is _ _ _ _) (ap₂ ◌++◌ (eq ∙ is _ _ _ _) (ap₂ ◌++◌ (eu ∙ is _ _ _ _) (ev ∙ is _ _ _ _)))

-- the round of decryption: its rows turn the other way
pub unmix-block : (t : List ℕ) → Entries inverse_entry t → (k : Words) (p q u v : ℕ) →
    bytes_of p ≡ added_up t (k.a % 256) (k.d / 256 % 256) (k.c / 65536 % 256) (k.b / 16777216 % 256) →
    bytes_of q ≡ added_up t (k.b % 256) (k.a / 256 % 256) (k.d / 65536 % 256) (k.c / 16777216 % 256) →
    bytes_of u ≡ added_up t (k.c % 256) (k.b / 256 % 256) (k.a / 65536 % 256) (k.d / 16777216 % 256) →
    bytes_of v ≡ added_up t (k.d % 256) (k.c / 256 % 256) (k.b / 65536 % 256) (k.a / 16777216 % 256) →
    bytes_of p ++ (bytes_of q ++ (bytes_of u ++ bytes_of v)) ≡ inv_mix_columns (inv_shift_rows (inv_sub_bytes (block_of k)))
unfolding inverse_entry inv_mix_columns times_matrix inv_shift_rows inv_sub_bytes state at table
unmix-block t r k p q u v ep eq eu ev = let is = boxed_column _ _ _ _ inv_s_box t r in ap₂ ◌++◌ (ep ∙ is _ _ _ _) (ap₂ ◌++◌ (eq ∙ is _ _ _ _) (ap₂ ◌++◌ (eu ∙ is _ _ _ _) (ev ∙ is _ _ _ _)))

-- ---- the S-box and its inverse on words

pub shift-block : (k : Words) (p q u v : ℕ) →
    bytes_of p ≡ s_box (k.a % 256) ∷ s_box (k.b / 256 % 256) ∷ s_box (k.c / 65536 % 256) ∷ s_box (k.d / 16777216 % 256) ∷ [] →
    bytes_of q ≡ s_box (k.b % 256) ∷ s_box (k.c / 256 % 256) ∷ s_box (k.d / 65536 % 256) ∷ s_box (k.a / 16777216 % 256) ∷ [] →
    bytes_of u ≡ s_box (k.c % 256) ∷ s_box (k.d / 256 % 256) ∷ s_box (k.a / 65536 % 256) ∷ s_box (k.b / 16777216 % 256) ∷ [] →
    bytes_of v ≡ s_box (k.d % 256) ∷ s_box (k.a / 256 % 256) ∷ s_box (k.b / 65536 % 256) ∷ s_box (k.c / 16777216 % 256) ∷ [] →
    bytes_of p ++ (bytes_of q ++ (bytes_of u ++ bytes_of v)) ≡ shift_rows (sub_bytes (block_of k))
unfolding shift_rows sub_bytes state at table
shift-block k p q u v ep eq eu ev = ap₂ ◌++◌ ep (ap₂ ◌++◌ eq (ap₂ ◌++◌ eu ev))

module _ (t : List ℕ) (e : t ≡ table inv_s_box 256) where
  found : (a b c d : ℕ) → looked_up t (a % 256) (b % 256) (c % 256) (d % 256) ≡ inv_s_box (a % 256) ∷ inv_s_box (b % 256) ∷ inv_s_box (c % 256) ∷ inv_s_box (d % 256) ∷ []
  found a b c d = looked-up inv_s_box t e (a % 256) (b % 256) (c % 256) (d % 256) (omega arith) (omega arith) (omega arith) (omega arith)

  pub unsub_block : (k : Words) (p q u v : ℕ) →
      bytes_of p ≡ looked_up t (k.a % 256) (k.a / 256 % 256) (k.a / 65536 % 256) (k.a / 16777216 % 256) →
      bytes_of q ≡ looked_up t (k.b % 256) (k.b / 256 % 256) (k.b / 65536 % 256) (k.b / 16777216 % 256) →
      bytes_of u ≡ looked_up t (k.c % 256) (k.c / 256 % 256) (k.c / 65536 % 256) (k.c / 16777216 % 256) →
      bytes_of v ≡ looked_up t (k.d % 256) (k.d / 256 % 256) (k.d / 65536 % 256) (k.d / 16777216 % 256) →
      bytes_of p ++ (bytes_of q ++ (bytes_of u ++ bytes_of v)) ≡ inv_sub_bytes (block_of k)
  unfolding inv_sub_bytes state at table
  unsub_block k p q u v ep eq eu ev = ap₂ ◌++◌ (ep ∙ found _ _ _ _) (ap₂ ◌++◌ (eq ∙ found _ _ _ _) (ap₂ ◌++◌ (eu ∙ found _ _ _ _) (ev ∙ found _ _ _ _)))

  pub unshift-block : (k : Words) (p q u v : ℕ) →
      bytes_of p ≡ looked_up t (k.a % 256) (k.d / 256 % 256) (k.c / 65536 % 256) (k.b / 16777216 % 256) →
      bytes_of q ≡ looked_up t (k.b % 256) (k.a / 256 % 256) (k.d / 65536 % 256) (k.c / 16777216 % 256) →
      bytes_of u ≡ looked_up t (k.c % 256) (k.b / 256 % 256) (k.a / 65536 % 256) (k.d / 16777216 % 256) →
      bytes_of v ≡ looked_up t (k.d % 256) (k.c / 256 % 256) (k.b / 65536 % 256) (k.a / 16777216 % 256) →
      bytes_of p ++ (bytes_of q ++ (bytes_of u ++ bytes_of v)) ≡ inv_shift_rows (inv_sub_bytes (block_of k))
  unfolding inv_shift_rows inv_sub_bytes state at table
  unshift-block k p q u v ep eq eu ev = ap₂ ◌++◌ (ep ∙ found _ _ _ _) (ap₂ ◌++◌ (eq ∙ found _ _ _ _) (ap₂ ◌++◌ (eu ∙ found _ _ _ _) (ev ∙ found _ _ _ _)))

-- ---- InvMixColumns of a round key: the inverse S-box in the table of decryption undoes the S-box

pub unmixed-word : (t : List ℕ) → Entries inverse_entry t → (a b c d y r : ℕ) → a < 256 → b < 256 → c < 256 → d < 256 → bytes_of y ≡ sub_boxed a b c d →
    bytes_of r ≡ added_up t (y % 256) (y / 256 % 256) (y / 65536 % 256) (y / 16777216 % 256) → bytes_of r ≡ unmixed_column a b c d
unfolding inverse_entry
unmixed-word t h a b c d y r ha hb hc hd e p =
    p ∙ boxed_column _ _ _ _ inv_s_box t h _ _ _ _
    ∙ ap (λ (s : List ℕ). unmixed_column (inv_s_box (get_or s 0 0)) (inv_s_box (get_or s 1 0)) (inv_s_box (get_or s 2 0)) (inv_s_box (get_or s 3 0))) e
    ∙ rw (inv_s_box-s_box a ha, inv_s_box-s_box b hb, inv_s_box-s_box c hc, inv_s_box-s_box d hd) refl

pub unmixed-key : (w : List ℕ) (n : ℕ) → 16 * suc n ≤ length w → (p q u v : ℕ) →
    bytes_of p ≡ on_column unmixed_column w (16 * n) → bytes_of q ≡ on_column unmixed_column w (16 * n + 4) →
    bytes_of u ≡ on_column unmixed_column w (16 * n + 8) → bytes_of v ≡ on_column unmixed_column w (16 * n + 12) →
    bytes_of p ++ (bytes_of q ++ (bytes_of u ++ bytes_of v)) ≡ inv_mix_columns (block 16 w n)
unfolding inv_mix_columns times_matrix state at table
unmixed-key w n h p q u v ep eq eu ev =
    ap₂ ◌++◌ ep (ap₂ ◌++◌ eq (ap₂ ◌++◌ eu ev)) ∙ ap inv_mix_columns (block_words w (16 * n) (omega (arith, h)) _ _ _ _ refl refl refl refl)

-- the S-box in the table of encryption
pub entry-boxes : {t : List ℕ} → Entries entry t → Boxes t
unfolding entry multiples
entry-boxes r = record { long = omega (arith, r.size); box_is = λ v h. r.byte_is v 1 h (omega arith) ∙ mul-one (s_box v) (s_box_byte v) }

pub table-entries : (e : ℕ → List ℕ) → ((v : ℕ) → length (e v) ≡ 8) → (t : List ℕ) → t ≡ entries e 0 256 → Entries e t
table-entries e l t p =
    record {
      size = ap length p ∙ length-entries e l 0 256;
      byte_is = λ v k h b. ap (λ (x : List ℕ). get_or x (8 * v + k) 0) p ∙ get_or-entries e l 0 256 v k h b ∙ ap (λ (x : ℕ). get_or (e x) k 0) {x = 0 + v} {y = v} (omega arith);
    }
