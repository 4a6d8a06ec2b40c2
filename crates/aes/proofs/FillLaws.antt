-- The schedule of decryption as it is made, a round key at a time: the first and the last are those of encryption, and the others go
-- through InvMixColumns.
-- Assumes nothing.
use mathlib.Core.Path.{◌≡◌, sym, subst, ap, ◌∙◌}
use mathlib.Core.List.{List, ◌++◌, append_assoc, append-nil}
use Prim.Native.Nat.{ℕ, suc, ◌+◌, ◌-◌, ◌*◌, ◌<◌, ◌≤◌}
use native.Mathlib.Numerals.{add-one}
use native.Mathlib.Omega.{arith}
use lib.ListN.{length, take, drop, replicate, length-append, length-drop}
use lib.Seq.{take_all, drop-append-add, drop-append_seam}
use Rattle.octets.specs.Strings.{over}
use Rattle.octets.specs.Blocks.{block}
use Rattle.octets.proofs.Parts.{put_more, to_end}
use Rattle.aes_tables.specs.Round.{inverses}
use Rattle.fips197.specs.Steps.{inv_mix_columns}
use Rattle.fips197.specs.Equivalent.{modified_key, modified_keys, modified}
use Rattle.fips197.proofs.EquivalentLaws.{key-size, length_keys, key-first, key-inner, key-last}
use Rattle.aes.specs.Context.{held, blank_of}
use Rattle.aes.proofs.ContextLaws.{length-inverses}

-- inv is the blank context with the first k round keys of decryption behind the tables
pub record Written (w : List ℕ) (nr k : ℕ) (inv : List ℕ) : Type 0 where
  pub some : 1 ≤ nr
  pub most : nr ≤ 14
  pub size : length w ≡ 16 * suc nr
  pub within : k ≤ suc nr
  pub long : length inv ≡ 2544
  pub so_far : inv ≡ over (inverses ++ modified_keys w nr k) (blank_of inverses)

-- none is written
pub write_none : (w inv : List ℕ) (nr : ℕ) → 1 ≤ nr → nr ≤ 14 → length w ≡ 16 * suc nr → length inv ≡ 2544 → inv ≡ blank_of inverses → Written w nr 0 inv
unfolding modified_keys
write_none w inv nr some most l long e =
    record {
      some = some;
      most = most;
      size = l;
      within = omega arith;
      long = long;
      so_far = e ∙ sym (ap (λ (s : List ℕ). over s (blank_of inverses)) (append-nil inverses) ∙ ap (λ (s : List ℕ). inverses ++ s) (drop-append_seam inverses (replicate 240 0)));
    }

module _ {w : List ℕ} {nr k : ℕ} {inv : List ℕ} (v : Written w nr k inv) where
  room : 16 * suc nr ≤ length w
  room = omega (arith, v.size)

  written : length (inverses ++ modified_keys w nr k) ≡ 2304 + 16 * k
  written = length-append inverses (modified_keys w nr k) ∙ omega (arith, length-inverses, length_keys w nr room k v.within)

  -- the tables are as they were
  pub write_tables : inv ≡ inverses ++ (modified_keys w nr k ++ drop (length (inverses ++ modified_keys w nr k)) (blank_of inverses))
  write_tables = v.so_far ∙ append_assoc inverses (modified_keys w nr k) _

  -- one more round key: last is what put says of the part that it was lent
  pub write_more : (m last : List ℕ) → k ≤ nr → m ≡ modified_key w nr k → last ≡ over m (take (length inv - (2304 + 16 * k)) (drop (2304 + 16 * k) inv)) →
      length (take (2304 + 16 * k) inv ++ (last ++ drop (length inv - (2304 + 16 * k)) (drop (2304 + 16 * k) inv))) ≡ length inv →
      Written w nr (k + 1) (take (2304 + 16 * k) inv ++ (last ++ drop (length inv - (2304 + 16 * k)) (drop (2304 + 16 * k) inv)))
  unfolding modified_keys
  write_more m last h em el ln =
      let sized : length m ≡ 16 = ap length em ∙ key-size w nr room k h in
      let more : modified_keys w nr k ++ m ≡ modified_keys w nr (k + 1) = rw (em, add-one k) in
      record {
        some = v.some;
        most = v.most;
        size = v.size;
        within = omega arith;
        long = ln ∙ v.long;
        so_far =
            put_more (blank_of inverses) (inverses ++ modified_keys w nr k) inv (2304 + 16 * k) m last v.so_far written (omega (arith, sized, v.long, v.most)) el
            ∙ ap (λ (s : List ℕ). over s (blank_of inverses)) (append_assoc inverses (modified_keys w nr k) m ∙ ap (λ (s : List ℕ). inverses ++ s) more);
      }

pub written_same : {w : List ℕ} {nr k n : ℕ} {inv : List ℕ} → Written w nr k inv → k ≡ n → Written w nr n inv
written_same {w} {nr} {k} {n} {inv} v e = subst (λ (j : ℕ). Written w nr j inv) e v

-- the context that is filled
pub write_all : {w : List ℕ} {nr k : ℕ} {inv : List ℕ} → Written w nr k inv → k ≡ suc nr → inv ≡ inverses ++ held (modified w nr)
unfolding held
write_all {w} {nr} {k} v e =
    write_tables v
    ∙ ap (λ (s : List ℕ). inverses ++ (modified_keys w nr k ++ s))
    (ap (λ (n : ℕ). drop n (blank_of inverses)) (length-append inverses (modified_keys w nr k)) ∙ drop-append-add inverses (replicate 240 0) (length (modified_keys w nr k)))
    ∙ ap (λ (n : ℕ). inverses ++ over (modified_keys w nr n) (replicate 240 0)) e

-- ---- the three kinds of round key, as they are written

module _ (w : List ℕ) (nr : ℕ) (size : length w ≡ 16 * suc nr) where
  pub first-written : take 16 w ≡ modified_key w nr 0
  first-written = sym (key-first w nr (omega (arith, size)))

  pub inner-written : (i : ℕ) → i < nr - 1 → inv_mix_columns (block 16 w (i + 1)) ≡ modified_key w nr (i + 1)
  inner-written i h = sym (key-inner w nr (omega (arith, size)) (i + 1) (omega arith) (omega (arith, h)))

  pub last_written : take (length w - 16 * nr) (drop (16 * nr) w) ≡ modified_key w nr nr
  last_written =
      to_end w (16 * nr) ∙ sym (key-last w nr (omega (arith, size)) ∙ take_all 16 (drop (16 * nr) w) (omega (arith, length-drop (16 * nr) w, size)))
