-- Where the loop over the words of a schedule stands.
-- Assumes nothing.
use Rattle.std.specs.Prelude.{◌≡◌, ℕ, ◌+◌, ◌*◌, ◌%◌, ◌<◌, ◌≤◌}
use Rattle.aes_schedule.specs.declared.schedule.Place.{Place}

-- how many words after the key's come before a place
abbrev pub passed : ℕ → Place → ℕ
passed nk p = nk * p.q + p.k

-- a place that two words go into, in front of the next multiple of Nk
pub record Paired (nk : ℕ) (p : Place) : Type 0 where
  pub most : nk ≤ 8
  pub even : nk % 2 ≡ 0
  pub pair : p.k % 2 ≡ 0
  pub inside : p.k < nk
