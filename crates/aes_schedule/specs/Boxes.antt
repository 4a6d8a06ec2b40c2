-- What the key schedule reads of the round table.
-- Assumes nothing.
use Rattle.std.specs.Prelude.{◌≡◌, List, ℕ, ◌+◌, ◌*◌, ◌<◌, ◌≤◌, length, get_or}
use Rattle.field.specs.SBox.{s_box}

-- t begins with 256 entries of eight bytes, and the second byte of each is the S-box's
pub record Boxes (t : List ℕ) : Type 0 where
  pub long : 2048 ≤ length t
  pub box_is : (v : ℕ) → v < 256 → get_or t (8 * v + 1) 0 ≡ s_box v
