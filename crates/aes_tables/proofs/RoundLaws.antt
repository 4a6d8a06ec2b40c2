-- The round tables as the rounds read them.
-- Assumes nothing.
use mathlib.Core.Path.{◌≡◌, refl, ap, ◌∙◌}
use mathlib.Core.List.{List, ◌++◌}
use Prim.Native.Nat.{ℕ, zero, suc, ◌+◌, ◌*◌, ◌<◌}
use native.Mathlib.Nat.{le_of_suc-le-suc, not-suc-le-zero}
use native.Mathlib.Omega.{arith}
use lib.ListN.{length, get_or, length-append, get_or-append}
use lib.Seq.{get_or-append-add}
use Rattle.aes_tables.specs.Round.{multiples, entry, inverse_entry, entries}

pub length-entry : (v : ℕ) → length (entry v) ≡ 8
unfolding multiples entry
length-entry v = refl

pub length-inverse_entry : (v : ℕ) → length (inverse_entry v) ≡ 8
unfolding multiples inverse_entry
length-inverse_entry v = refl

-- of entries that have eight bytes each
module _ (e : ℕ → List ℕ) (eight : (v : ℕ) → length (e v) ≡ 8) where
  pub length-entries : (v n : ℕ) → length (entries e v n) ≡ 8 * n
  unfolding entries
  length-entries v zero = refl
  length-entries v (suc n) = length-append (e v) (entries e (suc v) n) ∙ omega (arith, eight v, length-entries (suc v) n)

  -- byte k of entry i
  pub get_or-entries : (v n i k : ℕ) → i < n → k < 8 → get_or (entries e v n) (8 * i + k) 0 ≡ get_or (e (v + i)) k 0
  unfolding entries
  get_or-entries v zero i k h l = absurd (not-suc-le-zero h)
  get_or-entries v (suc n) zero k h l =
      ap (λ (x : ℕ). get_or (e v ++ entries e (suc v) n) x 0) {x = 8 * 0 + k} {y = k} (omega arith)
      ∙ get_or-append (e v) (entries e (suc v) n) 0 k (omega (arith, eight v, l))
      ∙ ap (λ (x : ℕ). get_or (e x) k 0) {x = v} {y = v + 0} (omega arith)
  get_or-entries v (suc n) (suc i) k h l =
      ap (λ (x : ℕ). get_or (e v ++ entries e (suc v) n) x 0) {x = 8 * suc i + k} {y = length (e v) + (8 * i + k)} (omega (arith, eight v))
      ∙ get_or-append-add (e v) (entries e (suc v) n) (8 * i + k) 0
      ∙ get_or-entries (suc v) n i k (le_of_suc-le-suc h) l
      ∙ ap (λ (x : ℕ). get_or (e x) k 0) {x = suc v + i} {y = v + suc i} (omega arith)
