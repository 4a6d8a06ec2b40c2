-- What the rounds read of their tables.
-- Assumes nothing.
use Rattle.std.specs.Prelude.{◌≡◌, List, [], ◌∷◌, ℕ, ◌+◌, ◌*◌, ◌<◌, length, get_or}
use Rattle.octets.specs.Xor.{xors}
use Rattle.field.specs.Field.{dot}
use Rattle.field.specs.SBox.{s_box}
use Rattle.aes_schedule.specs.Words.{word_at}

-- the words for four bytes in a table of entries of eight bytes, added: each from one byte less of its entry on
abbrev pub added_up : List ℕ → ℕ → ℕ → ℕ → ℕ → List ℕ
added_up t x y z o = xors (xors (xors (word_at t (8 * x)) (word_at t (8 * y + 3))) (word_at t (8 * z + 2))) (word_at t (8 * o + 1))

-- the matrix whose first row is p q u v, and whose other rows are the one above turned right by one, times a column
abbrev pub times_column : ℕ → ℕ → ℕ → ℕ → ℕ → ℕ → ℕ → ℕ → List ℕ
times_column p q u v a b c d = dot p q u v a b c d ∷ dot p q u v b c d a ∷ dot p q u v c d a b ∷ dot p q u v d a b c ∷ []

-- InvMixColumns of a column
abbrev pub unmixed_column : ℕ → ℕ → ℕ → ℕ → List ℕ
unmixed_column a b c d = times_column 0x0e 0x0b 0x0d 0x09 a b c d

-- the S-box on four bytes
abbrev pub sub_boxed : ℕ → ℕ → ℕ → ℕ → List ℕ
sub_boxed x y z o = s_box x ∷ s_box y ∷ s_box z ∷ s_box o ∷ []

-- what is made of a column, of the one at a place of a string
abbrev pub on_column : (ℕ → ℕ → ℕ → ℕ → List ℕ) → List ℕ → ℕ → List ℕ
on_column f s at = f (get_or s at 0) (get_or s (at + 1) 0) (get_or s (at + 2) 0) (get_or s (at + 3) 0)

-- t has the entries e of the 256 bytes, of eight bytes each
pub record Entries (e : ℕ → List ℕ) (t : List ℕ) : Type 0 where
  pub size : length t ≡ 2048
  pub byte_is : (v k : ℕ) → v < 256 → k < 8 → get_or t (8 * v + k) 0 ≡ get_or (e v) k 0
