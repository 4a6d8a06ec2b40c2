-- The refusals of the code are the table's.
-- Assumes nothing.
use Rattle.std.proofs.Common.{◌≡◌, ℕ, true, List, ◌++◌, refl, ap, ◌∙◌, arith}
use Rattle.std.specs.Prelude.{Contains, Result, Ok, Err, IsErrAnd}
use Rattle.answers.specs.declared.refusals.Refusal.{Refusal}
use Rattle.answers.specs.declared.refusals.Refusal.TheVariants.{Set, Key, Nonce, Data, Text, Stub, Buffer, False, Stale, Spent, Line, Console, Name, Mark, Repeat}
use Rattle.answers.specs.Table.{numbers_of}
use Rattle.answers.specs.Rows.{Row, answer, numbers, own_numbers}
use Rattle.answers.specs.Refusals.{number_of_refusal, number_of, refusals, words_of, AreTheTables}
use Rattle.answers.proofs.RowLaws.{stops, goes_on}

pub are_the_tables : AreTheTables
unfolding numbers_of words_of
are_the_tables = record { all = all; their_numbers = refl; their_words = refl }
  where
    all : (r : Refusal) → Contains refusals r
    all Set = (0, omega arith, refl)
    all Key = (1, omega arith, refl)
    all Nonce = (2, omega arith, refl)
    all Data = (3, omega arith, refl)
    all Text = (4, omega arith, refl)
    all Stub = (5, omega arith, refl)
    all Buffer = (6, omega arith, refl)
    all False = (7, omega arith, refl)
    all Stale = (8, omega arith, refl)
    all Spent = (9, omega arith, refl)
    all Line = (10, omega arith, refl)
    all Console = (11, omega arith, refl)
    all Name = (12, omega arith, refl)
    all Mark = (13, omega arith, refl)
    all Repeat = (14, omega arith, refl)

-- no refusal has the number of an accepted call
pub refusal_not_zero : (x : Refusal) → number_of_refusal x ≡ 0 → ⊥
refusal_not_zero x e = grind arith

-- what `?` hands on is the refusal that it met
pub handed_on : {A : Type 0} (r : Result A Refusal) (x : Refusal) → IsErrAnd r (λ (y : Refusal). y ≡ x) → number_of r ≡ number_of_refusal x
handed_on (Ok a) x e = absurd e
handed_on (Err y) x e = ap number_of_refusal e

-- a list of rows in two parts, and `?` after the first: where that refuses, its answer is the whole list's, and else the second's is
module _ (xs ys : List Row) (own : own_numbers (numbers xs) ≡ true) where
  pub refused_first : {A : Type 0} (r : Result A Refusal) (x : Refusal) → IsErrAnd r (λ (y : Refusal). y ≡ x) → number_of_refusal x ≡ answer xs →
      number_of r ≡ answer (xs ++ ys)
  refused_first r x h e = handed_on r x h ∙ stops xs ys own e (refusal_not_zero x)

  pub passed_first : {a : ℕ} → 0 ≡ answer xs → a ≡ answer ys → a ≡ answer (xs ++ ys)
  passed_first e f = goes_on xs ys own e refl f
