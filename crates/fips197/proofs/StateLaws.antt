-- Laws of the State: it is given by its rows and columns.
-- Assumes nothing.
use mathlib.Core.Path.{◌≡◌, ap, ap₂, ◌∙◌}
use mathlib.Core.List.{List}
use Prim.Native.Nat.{ℕ, ◌+◌, ◌*◌, ◌/◌, ◌%◌, ◌<◌}
use native.Mathlib.Omega.{arith}
use lib.ListN.{length, get_or}
use Rattle.octets.specs.Strings.{Bytes, Octets}
use Rattle.octets.proofs.Strings.{byte_at, length-table, get_or-table, table_is, bytes-table}
use Rattle.fips197.specs.State.{at, state}

pub at-state : (f : ℕ → ℕ → ℕ) (r c : ℕ) → r < 4 → c < 4 → at (state f) r c ≡ f r c
unfolding at state
at-state f r c h k =
    get_or-table (λ i. f (i % 4) (i / 4)) 16 (r + 4 * c) (omega arith)
    ∙ ap₂ f {x = (r + 4 * c) % 4} {y = r} {u = (r + 4 * c) / 4} {v = c} (omega arith) (omega arith)

pub state-is : (f : ℕ → ℕ → ℕ) (s : List ℕ) → length s ≡ 16 → ((r c : ℕ) → r < 4 → c < 4 → f r c ≡ at s r c) → state f ≡ s
unfolding at state
state-is f s e h =
    table_is (λ i. f (i % 4) (i / 4)) 16 s e
    (λ i l.
    h (i % 4) (i / 4) (omega arith) (omega arith)
    ∙ ap (λ (k : ℕ). get_or s k 0) {x = i % 4 + 4 * (i / 4)} {y = i} (omega arith))

pub at_byte : (s : List ℕ) → Bytes s → (r c : ℕ) → at s r c < 256
unfolding at
at_byte s b r c = byte_at s b (r + 4 * c)

pub state-octets : (f : ℕ → ℕ → ℕ) → ((r c : ℕ) → f r c < 256) → Octets 16 (state f)
unfolding state
state-octets f h = record { size = length-table _ 16; small = bytes-table _ 16 (λ i l. h (i % 4) (i / 4)) }
