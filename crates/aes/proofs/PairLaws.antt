-- A law about one block, put to use on two.
-- Assumes nothing.
use mathlib.Core.Path.{◌≡◌}
use mathlib.Core.List.{List}
use Prim.Native.Nat.{ℕ}
use Rattle.aes.specs.declared.pairs.Pair.{Pair}
use Rattle.aes.specs.Pairs.{Both}

-- f under another name
pub both_as : {f h : List ℕ → List ℕ} {p r : Pair} → ((s u : List ℕ) → u ≡ f s → u ≡ h s) → Both f p r → Both h p r
both_as law v = record { first = law _ _ v.first; second = law _ _ v.second }

-- g after f
pub both-then : {f g h : List ℕ → List ℕ} {p q r : Pair} → ((s t u : List ℕ) → t ≡ f s → u ≡ g t → u ≡ h s) → Both f p q → Both g q r → Both h p r
both-then law v z = record { first = law _ _ _ v.first z.first; second = law _ _ _ v.second z.second }
