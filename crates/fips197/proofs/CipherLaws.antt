-- Cipher gives a block, InvCipher undoes Cipher and Cipher undoes InvCipher, over every schedule of bytes that is long enough for
-- the rounds. The examples are checked before these laws.
-- Assumes nothing.
use mathlib.Core.Path.{◌≡◌, ap, ap₂, ◌∙◌}
use mathlib.Core.List.{List}
use Prim.Native.Nat.{ℕ, zero, suc, ◌+◌, ◌-◌, ◌*◌, ◌≤◌}
use native.Mathlib.Numerals.{add-one}
use native.Mathlib.Omega.{arith}
use lib.ListN.{length}
use Rattle.octets.specs.Strings.{Bytes, Octets}
use Rattle.fips197.specs.Schedule.{key_expansion}
use Rattle.fips197.specs.Steps.{sub_bytes, shift_rows, mix_columns, add_round_key, inv_sub_bytes, inv_shift_rows, inv_mix_columns}
use Rattle.fips197.specs.Cipher.{full_round, rounds, cipher_over, inv_rounds, inv_cipher_over, key_rounds, cipher}
use Rattle.fips197.proofs.Examples
use Rattle.fips197.proofs.StepLaws.{sub_bytes-octets, inv_sub_bytes-octets, inv_sub_bytes-sub_bytes, sub_bytes-inv_sub_bytes, shift_rows-octets, inv_shift_rows-octets, inv_shift_rows-shift_rows, shift_rows-inv_shift_rows, mix_columns-octets, inv_mix_columns-octets, inv_mix_columns-mix_columns, mix_columns-inv_mix_columns, add_round_key-octets, add_round_key-twice}

-- one more round
pub rounds-more : (w b s r : List ℕ) (i : ℕ) → s ≡ rounds w i b → r ≡ full_round w (i + 1) s → r ≡ rounds w (i + 1) b
unfolding rounds
rounds-more w b s r i p q = q ∙ rw (p, add-one i)

-- over the schedule of a key, at its number of rounds
pub cipher-at : (key w s r : List ℕ) (nr : ℕ) → w ≡ key_expansion key → nr ≡ key_rounds key → r ≡ cipher_over w nr s → r ≡ cipher key s
unfolding cipher
cipher-at key w s r nr p q e = e ∙ ap₂ (λ (x : List ℕ) (n : ℕ). cipher_over x n s) p q

-- SubBytes and ShiftRows, and their inverses, which a round has one after the other
sub_shift_octets : (s : List ℕ) → Octets 16 (shift_rows (sub_bytes s))
sub_shift_octets s = shift_rows-octets (sub_bytes-octets s)

unshift : {s : List ℕ} → Octets 16 s → inv_sub_bytes (inv_shift_rows (shift_rows (sub_bytes s))) ≡ s
unshift {s} o = ap inv_sub_bytes (inv_shift_rows-shift_rows (sub_bytes-octets s)) ∙ inv_sub_bytes-sub_bytes o

reshift : {s : List ℕ} → Octets 16 s → shift_rows (sub_bytes (inv_sub_bytes (inv_shift_rows s))) ≡ s
reshift o = ap shift_rows (sub_bytes-inv_sub_bytes (inv_shift_rows-octets o)) ∙ shift_rows-inv_shift_rows o

-- the result is a block, whatever goes in
pub cipher-octets : (w : List ℕ) → Bytes w → (nr : ℕ) → 16 * suc nr ≤ length w → (s : List ℕ) → Octets 16 (cipher_over w nr s)
cipher-octets w b nr room s = add_round_key-octets w nr room (sub_shift_octets _) b

module _ (w : List ℕ) (b : Bytes w) (nr : ℕ) (room : 16 * suc nr ≤ length w) {s : List ℕ} (o : Octets 16 s) where
  pub rounds-octets : (n : ℕ) → n ≤ nr → Octets 16 (rounds w n s)
  unfolding rounds
  rounds-octets zero h = add_round_key-octets w 0 (omega arith) o b
  rounds-octets (suc n) h = add_round_key-octets w (suc n) (omega arith) (mix_columns-octets _) b

  pub inv_rounds-octets : (n : ℕ) → Octets 16 (inv_rounds w nr n s)
  unfolding inv_rounds
  inv_rounds-octets zero = add_round_key-octets w nr room o b
  inv_rounds-octets (suc n) = inv_mix_columns-octets _

  pub inv_cipher-octets : Octets 16 (inv_cipher_over w nr s)
  inv_cipher-octets = add_round_key-octets w 0 (omega arith) (inv_sub_bytes-octets _) b

  -- after k rounds back from the end, what had gone into the last of them forward
  back : (k m : ℕ) → m + k + 1 ≡ nr → inv_rounds w nr k (cipher_over w nr s) ≡ shift_rows (sub_bytes (rounds w m s))
  unfolding inv_rounds rounds
  back zero m e =
      add_round_key-twice w nr room (sub_shift_octets (rounds w (nr - 1) s))
      ∙ ap (λ (n : ℕ). shift_rows (sub_bytes (rounds w n s))) {x = nr - 1} {y = m} (omega arith)
  back (suc k) m e =
      ap
      (λ (x : List ℕ). inv_mix_columns (add_round_key w (nr - suc k) x))
      (ap (λ (x : List ℕ). inv_sub_bytes (inv_shift_rows x)) (back k (suc m) (omega arith)) ∙ unshift (rounds-octets (suc m) (omega arith)))
      ∙ ap (λ (n : ℕ). inv_mix_columns (add_round_key w n (rounds w (suc m) s))) {x = nr - suc k} {y = suc m} (omega arith)
      ∙ ap inv_mix_columns (add_round_key-twice w (suc m) (omega arith) (mix_columns-octets _))
      ∙ inv_mix_columns-mix_columns (sub_shift_octets _)

  pub inv_cipher-cipher_over : 1 ≤ nr → inv_cipher_over w nr (cipher_over w nr s) ≡ s
  unfolding rounds
  inv_cipher-cipher_over h =
      ap
      (add_round_key w 0)
      (ap (λ (x : List ℕ). inv_sub_bytes (inv_shift_rows x)) (back (nr - 1) 0 (omega arith)) ∙ unshift (rounds-octets 0 (omega arith)))
      ∙ add_round_key-twice w 0 (omega arith) o

  -- after m rounds forward from the start, what had gone into the last of them back
  forth : (m k : ℕ) → m + k + 1 ≡ nr → rounds w m (inv_cipher_over w nr s) ≡ inv_sub_bytes (inv_shift_rows (inv_rounds w nr k s))
  unfolding rounds inv_rounds
  forth zero k e =
      add_round_key-twice w 0 (omega arith) (inv_sub_bytes-octets _)
      ∙ ap (λ (n : ℕ). inv_sub_bytes (inv_shift_rows (inv_rounds w nr n s))) {x = nr - 1} {y = k} (omega arith)
  forth (suc m) k e =
      ap
      (λ (x : List ℕ). add_round_key w (suc m) (mix_columns x))
      (ap (λ (x : List ℕ). shift_rows (sub_bytes x)) (forth m (suc k) (omega arith)) ∙ reshift (inv_rounds-octets (suc k)))
      ∙ ap (add_round_key w (suc m)) (mix_columns-inv_mix_columns (add_round_key-octets w (nr - suc k) (omega arith) (inv_sub_bytes-octets _) b))
      ∙ ap (λ (n : ℕ). add_round_key w (suc m) (add_round_key w n (inv_sub_bytes (inv_shift_rows (inv_rounds w nr k s))))) {x = nr - suc k} {y = suc m} (omega arith)
      ∙ add_round_key-twice w (suc m) (omega arith) (inv_sub_bytes-octets _)

  pub cipher-inv_cipher_over : 1 ≤ nr → cipher_over w nr (inv_cipher_over w nr s) ≡ s
  unfolding inv_rounds
  cipher-inv_cipher_over h =
      ap
      (add_round_key w nr)
      (ap (λ (x : List ℕ). shift_rows (sub_bytes x)) (forth (nr - 1) 0 (omega arith)) ∙ reshift (inv_rounds-octets 0))
      ∙ add_round_key-twice w nr room o
