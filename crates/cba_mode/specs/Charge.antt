-- What a call costs of a key's capacity: document 01, 'Key ledger', and request F-4 of document 02.
-- Assumes nothing.
use Rattle.std.specs.Prelude.{ℕ, ◌+◌, ◌/◌, max}

-- the older charge: ⌈data bytes/16⌉ + ⌈message bytes/16⌉
unfoldable pub old_charge : ℕ → ℕ → ℕ
old_charge «data» message = («data» + 15) / 16 + (message + 15) / 16

-- the charge: that, but at least one block
unfoldable pub charge : ℕ → ℕ → ℕ
charge «data» message = max 1 (old_charge «data» message)
