-- Each transformation takes a block of 16 bytes to one, and is undone by its inverse.
-- Assumes nothing.
use mathlib.Core.Path.{◌≡◌, refl, sym, ap, ap₂, ◌∙◌}
use mathlib.Core.List.{List}
use Prim.Native.Nat.{ℕ, zero, suc, ◌+◌, ◌-◌, ◌*◌, ◌%◌, ◌<◌, ◌≤◌}
use native.Mathlib.Omega.{arith}
use lib.Bits.{bit_xor}
use lib.ListN.{length, drop}
use Rattle.octets.specs.Strings.{Bytes, Octets, table}
use Rattle.octets.specs.Xor.{xors}
use Rattle.octets.specs.Blocks.{block}
use Rattle.octets.proofs.Strings.{bytes_take, bytes_drop}
use Rattle.octets.proofs.Xor.{length-xors, bytes-xors, xors-comm, xors-cancel, get_or-xors}
use Rattle.octets.proofs.Blocks.{length-block}
use Rattle.field.specs.Field.{dot}
use Rattle.field.specs.SBox.{s_box, inv_s_box}
use Rattle.field.proofs.Rules.{s_box_byte, inv_s_box_byte, s_box-inv_s_box, inv_s_box-s_box}
use Rattle.field.proofs.Columns.{Column, dot_byte, dot_xor, unmix-undoes, mix-undoes}
use Rattle.fips197.specs.State.{at, state}
use Rattle.fips197.specs.Steps.{sub_bytes, shift_rows, times_matrix, mix_columns, add_round_key, inv_sub_bytes, inv_shift_rows, inv_mix_columns}
use Rattle.fips197.proofs.StateLaws.{at-state, state-is, at_byte, state-octets}

-- ---- substitutions

substitution : (ℕ → ℕ) → List ℕ → List ℕ
substitution f s = state (λ r c. f (at s r c))

substitution-undo : (f g : ℕ → ℕ) → ((v : ℕ) → v < 256 → g (f v) ≡ v) → {s : List ℕ} → Octets 16 s → substitution g (substitution f s) ≡ s
unfolding substitution
substitution-undo f g law {s} o =
    state-is _ s o.size
    (λ r c h k. ap g (at-state (λ r c. f (at s r c)) r c h k) ∙ law (at s r c) (at_byte s o.small r c))

pub sub_bytes-octets : (s : List ℕ) → Octets 16 (sub_bytes s)
unfolding sub_bytes
sub_bytes-octets s = state-octets _ (λ r c. s_box_byte (at s r c))

pub inv_sub_bytes-octets : (s : List ℕ) → Octets 16 (inv_sub_bytes s)
unfolding inv_sub_bytes
inv_sub_bytes-octets s = state-octets _ (λ r c. inv_s_box_byte (at s r c))

pub inv_sub_bytes-sub_bytes : {s : List ℕ} → Octets 16 s → inv_sub_bytes (sub_bytes s) ≡ s
unfolding sub_bytes inv_sub_bytes substitution
inv_sub_bytes-sub_bytes o = substitution-undo s_box inv_s_box inv_s_box-s_box o

pub sub_bytes-inv_sub_bytes : {s : List ℕ} → Octets 16 s → sub_bytes (inv_sub_bytes s) ≡ s
unfolding sub_bytes inv_sub_bytes substitution
sub_bytes-inv_sub_bytes o = substitution-undo inv_s_box s_box s_box-inv_s_box o

-- ---- rows moved

pub shift_rows-octets : {s : List ℕ} → Octets 16 s → Octets 16 (shift_rows s)
unfolding shift_rows
shift_rows-octets {s} o = state-octets _ (λ r c. at_byte s o.small r _)

pub inv_shift_rows-octets : {s : List ℕ} → Octets 16 s → Octets 16 (inv_shift_rows s)
unfolding inv_shift_rows
inv_shift_rows-octets {s} o = state-octets _ (λ r c. at_byte s o.small r _)

pub inv_shift_rows-shift_rows : {s : List ℕ} → Octets 16 s → inv_shift_rows (shift_rows s) ≡ s
unfolding shift_rows inv_shift_rows
inv_shift_rows-shift_rows {s} o =
    state-is _ s o.size
    (λ r c h k.
    at-state (λ r c. at s r ((c + r) % 4)) r ((c + 4 - r) % 4) h (omega arith)
    ∙ ap (at s r) {x = ((c + 4 - r) % 4 + r) % 4} {y = c} (omega arith))

pub shift_rows-inv_shift_rows : {s : List ℕ} → Octets 16 s → shift_rows (inv_shift_rows s) ≡ s
unfolding shift_rows inv_shift_rows
shift_rows-inv_shift_rows {s} o =
    state-is _ s o.size
    (λ r c h k.
    at-state (λ r c. at s r ((c + 4 - r) % 4)) r ((c + r) % 4) h (omega arith)
    ∙ ap (at s r) {x = ((c + r) % 4 + 4 - r) % 4} {y = c} (omega arith))

-- ---- columns times a matrix

-- byte r of column c after the matrix whose first row is M
row : (ℕ → ℕ → ℕ → ℕ → ℕ) → List ℕ → ℕ → ℕ → ℕ
row M s r c = M (at s r c) (at s ((r + 1) % 4) c) (at s ((r + 2) % 4) c) (at s ((r + 3) % 4) c)

-- N undoes M at the first row of every column
module _
    (M N : ℕ → ℕ → ℕ → ℕ → ℕ)
    (law : (a b c d : ℕ) → Column a b c d → N (M a b c d) (M b c d a) (M c d a b) (M d a b c) ≡ a)
    (s : List ℕ)
    (o : Octets 16 s) where
  column : (i j k l c : ℕ) → Column (at s i c) (at s j c) (at s k c) (at s l c)
  column i j k l c =
      record {
        one = at_byte s o.small i c;
        two = at_byte s o.small j c;
        three = at_byte s o.small k c;
        four = at_byte s o.small l c;
      }

  inner : (c : ℕ) → c < 4 → (i j k l : ℕ) → i < 4 → j < 4 → k < 4 → l < 4 →
      N (at (state (row M s)) i c) (at (state (row M s)) j c) (at (state (row M s)) k c) (at (state (row M s)) l c)
      ≡ N (row M s i c) (row M s j c) (row M s k c) (row M s l c)
  inner c h i j k l hi hj hk hl =
      rw (at-state (row M s) i c hi h, at-state (row M s) j c hj h, at-state (row M s) k c hk h, at-state (row M s) l c hl h)

  each : (r c : ℕ) → r < 4 → c < 4 → row N (state (row M s)) r c ≡ at s r c
  unfolding row
  each zero c h k = inner c k 0 1 2 3 (omega arith) (omega arith) (omega arith) (omega arith) ∙ law _ _ _ _ (column 0 1 2 3 c)
  each (suc zero) c h k = inner c k 1 2 3 0 (omega arith) (omega arith) (omega arith) (omega arith) ∙ law _ _ _ _ (column 1 2 3 0 c)
  each (suc (suc zero)) c h k = inner c k 2 3 0 1 (omega arith) (omega arith) (omega arith) (omega arith) ∙ law _ _ _ _ (column 2 3 0 1 c)
  each (suc (suc (suc zero))) c h k =
      inner c k 3 0 1 2 (omega arith) (omega arith) (omega arith) (omega arith) ∙ law _ _ _ _ (column 3 0 1 2 c)
  each (suc (suc (suc (suc r)))) c h k = absurd (omega arith)

  matrix_undo : state (row N (state (row M s))) ≡ s
  matrix_undo = state-is (row N (state (row M s))) s o.size each

pub mix_columns-octets : (s : List ℕ) → Octets 16 (mix_columns s)
unfolding mix_columns times_matrix
mix_columns-octets s = state-octets _ (λ r c. dot_byte _ _ _ _ _ _ _ _ (omega arith))

pub inv_mix_columns-octets : (s : List ℕ) → Octets 16 (inv_mix_columns s)
unfolding inv_mix_columns times_matrix
inv_mix_columns-octets s = state-octets _ (λ r c. dot_byte _ _ _ _ _ _ _ _ (omega arith))

pub inv_mix_columns-mix_columns : {s : List ℕ} → Octets 16 s → inv_mix_columns (mix_columns s) ≡ s
unfolding mix_columns inv_mix_columns times_matrix row
inv_mix_columns-mix_columns {s} o = matrix_undo (dot 2 3 1 1) (dot 0x0e 0x0b 0x0d 0x09) (λ a b c d. unmix-undoes) s o

pub mix_columns-inv_mix_columns : {s : List ℕ} → Octets 16 s → mix_columns (inv_mix_columns s) ≡ s
unfolding mix_columns inv_mix_columns times_matrix row
mix_columns-inv_mix_columns {s} o = matrix_undo (dot 0x0e 0x0b 0x0d 0x09) (dot 2 3 1 1) (λ a b c d. mix-undoes) s o

-- InvMixColumns of a sum is the sum of what it makes of each
at-xors : (a b : List ℕ) → length a ≡ 16 → length b ≡ 16 → (r c : ℕ) → r < 4 → c < 4 → at (xors a b) r c ≡ bit_xor (at a r c) (at b r c)
unfolding at
at-xors a b p q r c h k = get_or-xors a b (r + 4 * c) (omega arith) (omega arith)

pub inv_mix_columns-xors : (a b : List ℕ) → length a ≡ 16 → length b ≡ 16 → inv_mix_columns (xors a b) ≡ xors (inv_mix_columns a) (inv_mix_columns b)
unfolding inv_mix_columns times_matrix
inv_mix_columns-xors a b p q =
    state-is _ (xors (inv_mix_columns a) (inv_mix_columns b)) (length-xors (inv_mix_columns a) (inv_mix_columns b) ∙ omega (arith, sizes a, sizes b))
    (λ r c h k.
    rw
    (sum r c h k, sum ((r + 1) % 4) c (omega arith) k, sum ((r + 2) % 4) c (omega arith) k, sum ((r + 3) % 4) c (omega arith) k)
    (dot_xor _ _ _ _ _ _ _ _ _ _ _ _
    ∙ sym (at-xors (inv_mix_columns a) (inv_mix_columns b) (sizes a) (sizes b) r c h k ∙ ap₂ bit_xor (at-state _ r c h k) (at-state _ r c h k))))
  where
    sum : (r c : ℕ) → r < 4 → c < 4 → at (xors a b) r c ≡ bit_xor (at a r c) (at b r c)
    sum = at-xors a b p q

    sizes : (s : List ℕ) → length (inv_mix_columns s) ≡ 16
    sizes s = (inv_mix_columns-octets s).size

-- InvSubBytes and InvShiftRows in either order
pub inverses_commute : (s : List ℕ) → inv_shift_rows (inv_sub_bytes s) ≡ inv_sub_bytes (inv_shift_rows s)
unfolding inv_shift_rows inv_sub_bytes state at table
inverses_commute s = refl

-- ---- round keys, of a schedule that is long enough

module _ (w : List ℕ) (n : ℕ) (room : 16 * suc n ≤ length w) {s : List ℕ} (o : Octets 16 s) where
  pub add_round_key-octets : Bytes w → Octets 16 (add_round_key w n s)
  unfolding add_round_key
  add_round_key-octets b =
      record {
        size = length-xors s (block 16 w n) ∙ omega (arith, o.size, length-block 16 w n room);
        small = bytes-xors s (block 16 w n) o.small (bytes_take 16 (drop (16 * n) w) (bytes_drop (16 * n) w b));
      }

  pub add_round_key-twice : add_round_key w n (add_round_key w n s) ≡ s
  unfolding add_round_key
  add_round_key-twice =
      xors-comm (xors s (block 16 w n)) (block 16 w n)
      ∙ ap (xors (block 16 w n)) (xors-comm s (block 16 w n))
      ∙ xors-cancel (block 16 w n) s (omega (arith, o.size, length-block 16 w n room))
