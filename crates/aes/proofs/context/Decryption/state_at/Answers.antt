-- `aes::context::Decryption::state_at` meets its contract: the round that step k belongs to begins with the State after the whole
-- rounds before it, and the steps of that round are the functions' own.
-- Assumes nothing.
use mathlib.Core.Path.{◌≡◌, refl, sym, ap, ◌∙◌}
use mathlib.Core.List.{List}
use Prim.Native.Nat.{ℕ, ◌+◌, ◌*◌, ◌/◌, ◌<◌}
use native.Mathlib.Omega.{arith}
use Rattle.fips197.specs.Steps.{add_round_key}
use Rattle.fips197.specs.Equivalent.{eq_rounds, eq_state}
use Rattle.fips197.proofs.EquivalentLaws.{at-round, at-sub, at-shift, at-mix, at_last}
use Rattle.aes.proofs.context.Decryption.state_at.Goals as goal

-- by the number of the step
numbered : (dw s : List ℕ) (nr m k : ℕ) {r x : List ℕ} → m ≡ k → r ≡ x → eq_state dw nr m s ≡ x → r ≡ eq_state dw nr k s
numbered dw s nr m k e p q = p ∙ sym q ∙ ap (λ (j : ℕ). eq_state dw nr j s) e

-- the State before the steps of step k's own round
begins : (dw s : List ℕ) (nr k : ℕ) {x : List ℕ} → k < 4 * nr → x ≡ eq_rounds dw nr (k / 4) s → eq_state dw nr (4 * (k / 4)) s ≡ x
begins dw s nr k h e = at-round dw s nr (k / 4) (omega arith) ∙ sym e

pub returns-in-0 : goal.returns-in-0
returns-in-0 c = let b = begins _ _ _ _ c.requires c.full_inv_rounds-x.ensures in numbered _ _ _ _ _ (omega arith) refl b

pub returns-in-1 : goal.returns-in-1
returns-in-1 c = let b = begins _ _ _ _ c.requires c.full_inv_rounds-x.ensures in numbered _ _ _ _ _ (omega arith) c.inv_sub.ensures (at-sub _ _ _ _ _ b)

pub returns-in-2 : goal.returns-in-2
returns-in-2 c = let b = begins _ _ _ _ c.requires c.full_inv_rounds-x.ensures in numbered _ _ _ _ _ (omega arith) c.inv_sub_shift.ensures (at-shift _ _ _ _ _ b)

pub returns-in_default : goal.returns-in_default
returns-in_default c =
    let b = begins _ _ _ _ c.requires c.full_inv_rounds-x.ensures in
    let fourth : 4 * (c.args.k / 4) + 3 ≡ c.args.k = omega arith in
    numbered _ _ _ _ _ fourth
    (c.add_key.ensures ∙ ap (add_round_key _ _) c.inv_sub_shift-in_default.ensures)
    (at_last _ _ _ _ _ b (omega (arith, c.if-n-rounds.true, c.rounds.ensures.rounds.0)))

pub returns-in_default-2 : goal.returns-in_default-2
returns-in_default-2 c =
    let b = begins _ _ _ _ c.requires c.full_inv_rounds-x.ensures in
    let fourth : 4 * (c.args.k / 4) + 3 ≡ c.args.k = omega arith in
    numbered _ _ _ _ _ fourth c.inv_sub_shift_mix.ensures (at-mix _ _ _ _ _ b (omega (arith, c.requires)))
