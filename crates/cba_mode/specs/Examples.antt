-- The eleven fixed examples of document 01, about the definitions, the eleventh as request F-4 of document 02 has it and as it was, and
-- the ten values of ℓ.
-- Assumes nothing.
use Rattle.std.specs.Prelude.{◌≡◌, List, [], ◌∷◌, ◌++◌, map, ℕ, ◌/◌, replicate}
use Rattle.octets.specs.Numbers.{digits}
use Rattle.field.specs.SBox.{s_box}
use Rattle.cba_mode.specs.Sets.{tag_bits, capacity, tag_bytes, ell}
use Rattle.cba_mode.specs.Offsets.{two, four, five, six, start, pad}
use Rattle.cba_mode.specs.Forms.{Form, seal_form}
use Rattle.cba_mode.specs.Forms.Form.{short, joined, separate}
use Rattle.cba_mode.specs.Charge.{old_charge, charge}

-- a 64-bit half
abbrev pub half : ℕ → List ℕ
half x = digits 8 x

-- the form that sealing chooses, for a set and a message's length
abbrev pub form_in : ℕ → ℕ → Form
form_in set n = seal_form (ell (tag_bits set) (capacity set) / 8) (tag_bytes (tag_bits set)) n

pub record Examples : Type 0 where
  pub one : two (half 0x8000000000000000) ≡ half 0x000000000000001b
  pub two' : two (half 0xffffffffffffffff) ≡ half 0xffffffffffffffe5
  pub three : four (half 0x8000000000000000) ≡ half 0x0000000000000036
  pub four' : (five (half 1) ≡ half 5) × (six (half 1) ≡ half 6)
  pub five' : (s_box 0x53 ≡ 0xed) × (s_box 0x00 ≡ 0x63)
  pub six' : pad (0xaa ∷ 0xbb ∷ 0xcc ∷ []) ≡ 0xaa ∷ 0xbb ∷ 0xcc ∷ 0x80 ∷ replicate 12 0
  pub seven : start (replicate 16 0) 0 ≡ half 0x000000000000001b ++ half 0x0000000000000002
  pub eight : start (replicate 16 0) 32 ≡ half 0xffff00000000001b ++ half 0x000000000003fffe
  pub nine : (form_in 3 8 ≡ short) × (form_in 3 9 ≡ separate) × (form_in 3 32 ≡ joined) × (form_in 3 33 ≡ separate)
  pub ten : (form_in 5 0 ≡ short) × (form_in 5 1 ≡ separate)
  pub eleven : (charge 1 17 ≡ 3) × (charge 0 0 ≡ 1)
  pub eleven-older : (old_charge 1 17 ≡ 3) × (old_charge 0 0 ≡ 0)
  pub ells : map (λ set. ell (tag_bits set) (capacity set)) (1 ∷ 2 ∷ 3 ∷ 4 ∷ 5 ∷ 6 ∷ 7 ∷ 8 ∷ 9 ∷ 10 ∷ [])
      ≡ 32 ∷ 32 ∷ 64 ∷ 32 ∷ 0 ∷ 64 ∷ 32 ∷ 0 ∷ 32 ∷ 0 ∷ []
