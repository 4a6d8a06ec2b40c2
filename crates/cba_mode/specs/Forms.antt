-- Which of the three forms a length takes. Lengths are in bytes; l is ℓ/8 and t is τ/8.
-- Assumes nothing.
use Rattle.std.specs.Prelude.{cond, ◌&&◌, ℕ, ◌+◌, ◌-◌, ◌*◌, ◌/◌, leb, ltb}

pub data Form : Type 0 where
  short joined separate : Form

-- what follows the first l of n bytes is cut into blocks of 16, the last of 1 to 16: the number of blocks before the last
abbrev pub full_blocks : ℕ → ℕ → ℕ
full_blocks l n = (n - l - 1) / 16

-- the length of the last block
abbrev pub last_length : ℕ → ℕ → ℕ
last_length l n = n - l - 16 * full_blocks l n

-- ENC: |M| ≤ ℓ; |M_m| ≤ n − τ and m ≥ 2; else
unfoldable pub seal_form : ℕ → ℕ → ℕ → Form
seal_form l t n = cond (leb n l) short (cond (leb (last_length l n + t) 16 && leb 1 (full_blocks l n)) joined separate)

-- DEC: |C| ≤ ℓ + τ; |C_m| > τ and m ≥ 2; else
unfoldable pub open_form : ℕ → ℕ → ℕ → Form
open_form l t c = cond (leb c (l + t)) short (cond (ltb t (last_length l c) && leb 1 (full_blocks l c)) joined separate)
