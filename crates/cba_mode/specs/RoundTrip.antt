-- What the mode owes its users, over any block cipher and any T_A: opening undoes sealing, and sealing is the only way to a ciphertext
-- that opens.
-- Assumes nothing.
use Rattle.std.specs.Prelude.{◌≡◌, List, ℕ, ◌+◌, length}
use Rattle.octets.specs.Strings.{Bytes, Octets}
use Rattle.cba_mode.specs.Sets.{tag_bytes}
use Rattle.cba_mode.specs.Seal.{seal_with}
use Rattle.cba_mode.specs.Open.{open_with}
use Rattle.cba_mode.specs.Open.Opened.{opened}

-- E and D take blocks to blocks, and each undoes the other
pub record BlockCipher (E D : List ℕ → List ℕ) : Type 0 where
  pub E-block : (x : List ℕ) → Octets 16 x → Octets 16 (E x)
  pub D-block : (x : List ℕ) → Octets 16 x → Octets 16 (D x)
  pub D-undoes-E : (x : List ℕ) → Octets 16 x → D (E x) ≡ x
  pub E-undoes-D : (x : List ℕ) → Octets 16 x → E (D x) ≡ x

-- at one nonce and one T_A
pub record RoundTrip (E D : List ℕ → List ℕ) (τ b : ℕ) (N Ta : List ℕ) : Type 0 where
  -- a sealing has t bytes more than its message
  pub longer : (M : List ℕ) → Bytes M → Octets (length M + tag_bytes τ) (seal_with E τ b N Ta M)
  -- it opens to the message
  pub opens : (M : List ℕ) → Bytes M → open_with E D τ b N Ta (seal_with E τ b N Ta M) ≡ opened M
  -- what opens to a message is its sealing
  pub only : (C M : List ℕ) → Bytes C → open_with E D τ b N Ta C ≡ opened M → Bytes M × (seal_with E τ b N Ta M ≡ C)
