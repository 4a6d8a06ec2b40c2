-- A line of output, word after word.
-- Assumes nothing.
use mathlib.Core.Path.{◌≡◌, subst}
use mathlib.Core.List.{List, [], ◌∷◌, ◌++◌, append_assoc}
use Prim.Native.Nat.{ℕ}
use Rattle.text.specs.declared.writer.Writer.{Writer}
use Rattle.text.specs.Numerals.{decimal, shown}
use Rattle.text.specs.Writing.{Puts, Wrote}
use Rattle.text.proofs.WritingLaws.{wrote-then, wrote-puts}
use Rattle.hub_rules.specs.Answers.{line_text}

line-is : (n a : ℕ) (s : List ℕ) → ((decimal n ++ (32 ∷ decimal a)) ++ (32 ∷ shown s)) ++ (10 ∷ []) ≡ line_text n a s
unfolding line_text
line-is n a s = simp append_assoc

-- by a new writer on d
pub line-written : (n a : ℕ) (s d : List ℕ) {v w x y z : Writer} → v.at ≡ 0 → v.out.now ≡ d →
    Wrote (decimal n) v w → Wrote (32 ∷ decimal a) w x → Wrote (32 ∷ shown s) x y → Wrote (10 ∷ []) y z → Puts (line_text n a s) z.at d z.out.now
line-written n a s d {v} {z = z} b e h i j k =
    subst (λ (t : List ℕ). Puts t z.at d z.out.now) (line-is n a s) (wrote-puts d b e (wrote-then (wrote-then (wrote-then h i) j) k))
