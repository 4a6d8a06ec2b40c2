-- The rows of the summary rise by set number, one for each set with any accepted line.
-- Assumes nothing.
use mathlib.Core.Path.{◌≡◌, refl, sym, ap, subst, ◌∙◌}
use mathlib.Core.Bool.{Bool, true, false, cond}
use mathlib.Core.List.{List, [], ◌∷◌, ◌++◌}
use mathlib.Core.Logic.{inl, inr, ⊎_elim}
use Prim.Native.Nat.{ℕ, zero, suc, ◌+◌, ◌<◌, ◌≤◌}
use native.Mathlib.Omega.{arith}
use borrow.Author.Tests.{eqb-true, eqb-false}
use lib.Dec.{eqb}
use native.Mathlib.Nat.{le_antisymm}
use Rattle.octets.proofs.Tests.{le_or_lt}
use Rattle.text.specs.Numerals.{decimal}
use Rattle.hub_rules.specs.Whole.{last_line, heading, summary_head, at_most, answers_from, count_for, row_for, rows_from, after_the_first, output_of, hub}
use Rattle.hub_rules.specs.Summary.{Count, rows_text, RisingFrom, Holds, Summary}

module _ (read : List (List ℕ)) where
  row : ℕ → Count
  row s = record { set = s; lines = count_for s read }

  -- the rows of k sets, from s on
  rows : ℕ → ℕ → List Count
  rows zero s = []
  rows (suc k) s = cond (eqb (count_for s read) 0) (rows k (s + 1)) (row s ∷ rows k (s + 1))

  -- what is said of them
  record From (k s : ℕ) (rs : List Count) : Type 0 where
    text : rows_text rs ≡ rows_from k s read
    rising : (n : ℕ) → n < s → RisingFrom n rs
    only : (r : Count) → Holds rs r → (s ≤ r.set) × (r.set < s + k) × (r.lines ≡ count_for r.set read) × (r.lines ≡ 0 → ⊥)
    each : (i : ℕ) → s ≤ i → i < s + k → (count_for i read ≡ 0 → ⊥) → Holds rs (row i)

  from : (k s : ℕ) → From k s (rows k s)
  unfolding rows rows_text rows_from row_for row
  from zero s =
      record {
        text = refl;
        rising = λ n h. tt;
        only = λ r h. absurd h;
        each = λ i h g z. absurd (omega (arith, h, g));
      }
  from (suc k) s = go (from k (s + 1)) (eqb (count_for s read) 0) refl
    where
      go : From k (s + 1) (rows k (s + 1)) → (b : Bool) → eqb (count_for s read) 0 ≡ b → From (suc k) s (rows (suc k) s)
      go f true e =
          rw e
          (record {
            text = rw e f.text;
            rising = λ n h. f.rising n (omega (arith, h));
            only = λ r h. let o = f.only r h in (omega (arith, o.0), omega (arith, o.1), o.2, o.3);
            each = λ i h g z.
                ⊎_elim
                (λ (l : i ≤ s). absurd (z (ap (λ (j : ℕ). count_for j read) (le_antisymm l h) ∙ eqb-true (count_for s read) 0 e)))
                (λ (l : s < i). f.each i (omega (arith, l)) (omega (arith, g)) z) (le_or_lt i s);
          })
      go f false e =
          rw e
          (record {
            text = rw e (ap (λ (t : List ℕ). (decimal s ++ ((32 ∷ decimal (count_for s read)) ++ (10 ∷ []))) ++ t) f.text);
            rising = λ n h. (h, f.rising s (omega arith));
            only = λ r h.
                ⊎_elim
                (λ (q : r ≡ row s). subst Kept (sym q) (omega arith, omega arith, refl, eqb-false (count_for s read) 0 e))
                (λ (q : Holds (rows k (s + 1)) r). let o = f.only r q in (omega (arith, o.0), omega (arith, o.1), o.2, o.3)) h;
            each = λ i h g z.
                ⊎_elim
                (λ (l : i ≤ s). inl (ap row (le_antisymm l h)))
                (λ (l : s < i). inr (f.each i (omega (arith, l)) (omega (arith, g)) z)) (le_or_lt i s);
          })
        where
          Kept : Count → Type 0
          Kept r = (s ≤ r.set) × (r.set < s + suc k) × (r.lines ≡ count_for r.set read) × (r.lines ≡ 0 → ⊥)

pub summary : Summary
unfolding hub output_of after_the_first row
summary input ls e =
    let read = at_most last_line ls in
    let f = from read 10 1 in
    record {
      rows = rows read 10 1;
      are =
          record {
            rising = f.rising 0 (omega arith);
            only = λ r h. let o = f.only r h in (o.0, omega (arith, o.1), o.2, o.3);
            each = λ i h g z. f.each i h (omega (arith, g)) z;
          };
      output-is =
          ap (λ (x : List (List ℕ)). heading ++ output_of x) e
          ∙ ap (λ (t : List ℕ). heading ++ (answers_from 1 read ++ (summary_head ++ t))) (sym f.text);
    }
