-- The parameter sets of document 002, section 3.1.
-- Assumes nothing.
use Rattle.std.specs.Prelude.{◌≡◌, Bool, ◌&&◌, List, [], ◌∷◌, ℕ, ◌-◌, ◌*◌, ◌/◌, ◌%◌, ◌<◌, ◌≤◌, min, leb, get_or}

-- k, τ, b of each recommended set, from (1) to (10)
abbrev pub rows : List (List ℕ)
rows =
    (128 ∷ 32 ∷ 16 ∷ [])
    ∷ (128 ∷ 32 ∷ 32 ∷ [])
    ∷ (128 ∷ 64 ∷ 16 ∷ [])
    ∷ (128 ∷ 64 ∷ 32 ∷ [])
    ∷ (128 ∷ 64 ∷ 48 ∷ [])
    ∷ (128 ∷ 96 ∷ 16 ∷ [])
    ∷ (128 ∷ 96 ∷ 32 ∷ [])
    ∷ (128 ∷ 96 ∷ 48 ∷ [])
    ∷ (192 ∷ 64 ∷ 32 ∷ [])
    ∷ (256 ∷ 96 ∷ 48 ∷ [])
    ∷ []

-- column c of set n
unfoldable pub column : ℕ → ℕ → ℕ
column c n = get_or (get_or rows (n - 1) []) c 0

-- n is the number of a set
unfoldable pub is_set : ℕ → Bool
is_set n = leb 1 n && leb n 10

-- the key's length in bytes
abbrev pub key_bytes : ℕ → ℕ
key_bytes n = column 0 n / 8

-- τ, the tag's length in bits
abbrev pub tag_bits : ℕ → ℕ
tag_bits n = column 1 n

-- b, the capacity exponent
abbrev pub capacity : ℕ → ℕ
capacity n = column 2 n

-- t, the tag's length in bytes
abbrev pub tag_bytes : ℕ → ℕ
tag_bytes τ = τ / 8

-- ℓ = min(n − 2b − 32, τ) with n = 128, in bits
abbrev pub ell : ℕ → ℕ → ℕ
ell τ b = min (96 - 2 * b) τ

-- what the code asks of τ and b; every set has it
abbrev pub Fits : ℕ → ℕ → Type 0
Fits τ b = (τ < 128) × (b ≤ 48) × (ell τ b ≤ 64) × (ell τ b % 32 ≡ 0)
