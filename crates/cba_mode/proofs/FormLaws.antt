-- The form that opening reads off a ciphertext's length is the form that sealing chose for the message's.
-- Assumes nothing.
use mathlib.Core.Path.{◌≡◌, sym, ◌∙◌}
use mathlib.Core.Logic.{⊎_elim}
use Prim.Native.Nat.{ℕ, ◌+◌, ◌<◌, ◌≤◌}
use native.Mathlib.Omega.{arith}
use borrow.Author.Tests.{le-leb, lt-leb, lt-ltb, le-ltb}
use Rattle.cba_mode.specs.Forms.{full_blocks, last_length, seal_form, open_form}
use Rattle.cba_mode.specs.Forms.Form.{short, joined, separate}
use Rattle.octets.proofs.Tests.{le_or_lt}

module _ (l t n : ℕ) where
  -- what sealing chooses

  pub seal_short : n ≤ l → seal_form l t n ≡ short
  unfolding seal_form
  seal_short k = rw (le-leb n l k)

  pub seal_joined : l < n → last_length l n + t ≤ 16 → 1 ≤ full_blocks l n → seal_form l t n ≡ joined
  unfolding seal_form
  seal_joined k p q = rw (lt-leb n l k, le-leb (last_length l n + t) 16 p, le-leb 1 (full_blocks l n) q)

  pub seal_long : l < n → 16 < last_length l n + t → seal_form l t n ≡ separate
  unfolding seal_form
  seal_long k p = rw (lt-leb n l k, lt-leb (last_length l n + t) 16 p)

  pub seal_single : l < n → last_length l n + t ≤ 16 → full_blocks l n < 1 → seal_form l t n ≡ separate
  unfolding seal_form
  seal_single k p q = rw (lt-leb n l k, le-leb (last_length l n + t) 16 p, lt-leb 1 (full_blocks l n) q)

  -- one block is never joined
  pub seal_one : l < n → full_blocks l n < 1 → seal_form l t n ≡ separate
  seal_one k q = ⊎_elim (λ p. seal_single k p q) (λ p. seal_long k p) (le_or_lt (last_length l n + t) 16)

  -- what opening reads off

  pub open_short : n ≤ l + t → open_form l t n ≡ short
  unfolding open_form
  open_short k = rw (le-leb n (l + t) k)

  pub open_joined : l + t < n → t < last_length l n → 1 ≤ full_blocks l n → open_form l t n ≡ joined
  unfolding open_form
  open_joined k p q = rw (lt-leb n (l + t) k, lt-ltb t (last_length l n) p, le-leb 1 (full_blocks l n) q)

  pub open_long : l + t < n → last_length l n ≤ t → open_form l t n ≡ separate
  unfolding open_form
  open_long k p = rw (lt-leb n (l + t) k, le-ltb t (last_length l n) p)

  pub open_single : l + t < n → t < last_length l n → full_blocks l n < 1 → open_form l t n ≡ separate
  unfolding open_form
  open_single k p q = rw (lt-leb n (l + t) k, lt-ltb t (last_length l n) p, lt-leb 1 (full_blocks l n) q)

  -- a statement about every message length, by its form
  pub by_form : {X : Type 0} → (n ≤ l → X) → (l < n → last_length l n + t ≤ 16 → 1 ≤ full_blocks l n → X) →
      (l < n → 16 < last_length l n + t → X) → (l < n → last_length l n + t ≤ 16 → full_blocks l n < 1 → X) → X
  by_form a b c d =
      ⊎_elim a
      (λ k. ⊎_elim (λ p. ⊎_elim (λ q. b k p q) (λ q. d k p q) (le_or_lt 1 (full_blocks l n))) (λ p. c k p) (le_or_lt (last_length l n + t) 16))
      (le_or_lt n l)

pub same-form : (l t n : ℕ) → t ≤ 16 → open_form l t (n + t) ≡ seal_form l t n
same-form l t n h =
    by_form l t n
    (λ k. open_short l t (n + t) (omega arith) ∙ sym (seal_short l t n k))
    (λ k p q. open_joined l t (n + t) (omega arith) (omega arith) (omega arith) ∙ sym (seal_joined l t n k p q))
    (λ k p. open_long l t (n + t) (omega arith) (omega arith) ∙ sym (seal_long l t n k p))
    (λ k p q. open_single l t (n + t) (omega arith) (omega arith) (omega arith) ∙ sym (seal_single l t n k p q))
