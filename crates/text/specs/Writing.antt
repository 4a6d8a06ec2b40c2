-- What is promised of a string that is written over bytes of an output.
-- Assumes nothing.
use Rattle.std.specs.Prelude.{◌≡◌, List, ◌++◌, ℕ, ◌+◌, ◌≤◌, length, take, drop}
use Rattle.text.specs.declared.writer.Writer.{Writer}

-- r is the length of the string s, and out is d with s over its first bytes
abbrev pub Puts : List ℕ → ℕ → List ℕ → List ℕ → Type 0
Puts s r d out = (r ≡ length s) × (out ≡ s ++ drop r d)

-- b is the writer a, on the same output, after the string t was written
pub record Wrote (t : List ℕ) (a b : Writer) : Type 0 where
  pub same : b.out.ghost_name ≡ a.out.ghost_name
  pub ends : b.at ≡ a.at + length t
  pub within : b.at ≤ length b.out.now
  pub long : length b.out.now ≡ length a.out.now
  pub over : b.out.now ≡ take a.at a.out.now ++ (t ++ drop b.at a.out.now)
