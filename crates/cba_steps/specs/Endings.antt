-- How what follows the first ℓ bits of a message ends. Lengths are in bytes.
-- Assumes nothing.
use Rattle.std.specs.Prelude.{◌≡◌, ℕ, suc, ◌+◌, ◌-◌, ◌*◌, ◌/◌, ◌<◌, ◌≤◌}
use Rattle.cba_mode.specs.Forms.{Form, seal_form}
use Rattle.cba_mode.specs.Forms.Form.{joined, separate}
use Rattle.cba_steps.specs.declared.endings.Ending.{Ending}
use Rattle.cba_steps.specs.declared.endings.Ending.TheVariants.{Joined, Separate}

abbrev pub form_of : Ending → Form
form_of (Joined k) = joined
form_of (Separate k) = separate

-- the number of full blocks before the end
abbrev pub blocks_of : Ending → ℕ
blocks_of (Joined k) = k
blocks_of (Separate k) = k

-- after k full blocks of n bytes there are, in the joined form, one more and a last block that has room for t bytes; in the separate,
-- a last block
abbrev pub Closes : Ending → ℕ → ℕ → Type 0
Closes (Joined k) t n = (16 * suc k < n) × (n + t ≤ 16 * suc (suc k))
Closes (Separate k) t n = n ≤ 16 * suc k

-- n bytes are so many full blocks and such an end
pub record Ends (e : Ending) (t n : ℕ) : Type 0 where
  pub within : 16 * blocks_of e < n
  pub closes : Closes e t n
  -- as the length of the ciphertext tells
  pub told : blocks_of e ≡ (n + t - 1) / 16 - 1

-- the ending of a message of n bytes, of which l come first, with a tag of t bytes
pub record Decided (l t n : ℕ) (e : Ending) : Type 0 where
  pub form : seal_form l t n ≡ form_of e
  pub ends : Ends e t (n - l)
