-- The checks of lengths put together as numbers: each group's answer, and that of all of them.
-- Assumes nothing.
use mathlib.Core.Path.{◌≡◌, refl, sym, ◌∙◌}
use mathlib.Core.List.{[], ◌∷◌, List}
use Prim.Native.Nat.{ℕ}
use Rattle.answers.specs.Rows.{Row, answer, first_of, numbers, is_in, own_numbers}
use Rattle.answers.proofs.RowLaws.{joined, passed, stops, goes_on}
use Rattle.cba_rules.specs.Checks.{bad_key, bad_nonce, bad_start, long_data}
use Rattle.cba_rules.proofs.RefusalLaws.{is-length}

-- what both calls begin with, and the group of their text
pub groups : {a b c d x y r : ℕ} (its key nonce ad : ℕ) (rows : List Row) → x ≡ first_of a b → y ≡ first_of x c → r ≡ first_of y d →
    a ≡ answer (bad_key its key ∷ []) → b ≡ answer (bad_nonce nonce ∷ []) → c ≡ answer (long_data ad ∷ []) → d ≡ answer rows →
    r ≡ answer (bad_key its key ∷ bad_nonce nonce ∷ long_data ad ∷ rows)
unfolding numbers is_in own_numbers
groups its key nonce ad rows i j k e f g h =
    joined (bad_key its key ∷ bad_nonce nonce ∷ long_data ad ∷ []) rows refl k
    (joined (bad_key its key ∷ bad_nonce nonce ∷ []) (long_data ad ∷ []) refl j (joined (bad_key its key ∷ []) (bad_nonce nonce ∷ []) refl i e f) g) h

-- ---- 3, then 12: the nonce's length n, and the number that it begins with

module _ {r : ℕ} (its n start : ℕ) (e : r ≡ answer (bad_nonce n ∷ [])) where
  pub nonce-refused : (r ≡ 0 → ⊥) → r ≡ answer (bad_nonce n ∷ bad_start its start ∷ [])
  unfolding numbers is_in own_numbers
  nonce-refused k = stops (bad_nonce n ∷ []) (bad_start its start ∷ []) refl e k

  pub nonce-length : r ≡ 0 → n ≡ 12
  unfolding numbers is_in own_numbers
  nonce-length z = is-length n 12 (passed (bad_nonce n ∷ []) refl (sym e ∙ z)).0

  pub start_follows : {s : ℕ} → r ≡ 0 → s ≡ answer (bad_start its start ∷ []) → s ≡ answer (bad_nonce n ∷ bad_start its start ∷ [])
  unfolding numbers is_in own_numbers
  start_follows z f = goes_on (bad_nonce n ∷ []) (bad_start its start ∷ []) refl e z f
