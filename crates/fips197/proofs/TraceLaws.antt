-- The steps by number are the rounds, in both directions.
-- Assumes nothing.
use mathlib.Core.Path.{◌≡◌, sym, ap, ap₂, ◌∙◌}
use mathlib.Core.List.{List}
use Prim.Native.Nat.{ℕ, zero, suc, ◌+◌, ◌-◌, ◌*◌, ◌/◌, ◌%◌, ◌<◌}
use native.Mathlib.Omega.{arith}
use borrow.Author.Tests.{eq-eqb, ne_eqb}
use Rattle.fips197.specs.Trace.{Direction, step, state_after}

module _ (d : Direction) (nr : ℕ) (s : List ℕ) where
  -- the State after a step whose round and place in it are known
  stepped : (m k i j : ℕ) → m ≡ suc k → m / 4 ≡ i → m % 4 ≡ j → state_after d nr m s ≡ step d nr i j (state_after d nr k s)
  unfolding state_after
  stepped m k i j e p q = rw e (ap₂ (λ (a b : ℕ). step d nr a b (state_after d nr k s)) (ap (λ (x : ℕ). x / 4) (sym e) ∙ p) (ap (λ (x : ℕ). x % 4) (sym e) ∙ q))

  -- a round that begins with x
  module _ (n : ℕ) (x : List ℕ) (e : state_after d nr (4 * n) s ≡ x) where
    pub at-sub : state_after d nr (4 * n + 1) s ≡ d.sub x
    unfolding step
    at-sub = stepped (4 * n + 1) (4 * n) n 1 (omega arith) (omega arith) (omega arith) ∙ ap d.sub e

    pub at-shift : state_after d nr (4 * n + 2) s ≡ d.shift (d.sub x)
    unfolding step
    at-shift = stepped (4 * n + 2) (4 * n + 1) n 2 (omega arith) (omega arith) (omega arith) ∙ ap d.shift at-sub

    third : state_after d nr (4 * n + 3) s ≡ step d nr n 3 (d.shift (d.sub x))
    third = stepped (4 * n + 3) (4 * n + 2) n 3 (omega arith) (omega arith) (omega arith) ∙ ap (step d nr n 3) at-shift

    pub at-mix : suc n < nr → state_after d nr (4 * n + 3) s ≡ d.mix (d.shift (d.sub x))
    unfolding step
    at-mix h = third ∙ rw (ne_eqb (suc n) nr (λ p. omega (arith, h, p)))

    pub at_last : suc n ≡ nr → state_after d nr (4 * n + 3) s ≡ d.add nr (d.shift (d.sub x))
    unfolding step
    at_last p = third ∙ rw (eq-eqb (suc n) nr p)

  -- r n is the State after n whole rounds
  module _ (r : ℕ → List ℕ) (none : r 0 ≡ d.add 0 s) (more : (n : ℕ) → r (suc n) ≡ d.add (suc n) (d.mix (d.shift (d.sub (r n))))) where
    pub at-round : (n : ℕ) → n < nr → state_after d nr (4 * n) s ≡ r n
    unfolding state_after step
    at-round zero h = sym none
    at-round (suc n) h =
        stepped (4 * suc n) (4 * n + 3) (suc n) 0 (omega arith) (omega arith) (omega arith)
        ∙ ap (d.add (suc n)) (at-mix n _ (at-round n (omega arith)) h) ∙ sym (more n)

    pub last_step : 0 < nr → state_after d nr (4 * nr - 1) s ≡ d.add nr (d.shift (d.sub (r (nr - 1))))
    last_step h =
        ap (λ (k : ℕ). state_after d nr k s) {x = 4 * nr - 1} {y = 4 * (nr - 1) + 3} (omega arith)
        ∙ at_last (nr - 1) _ (at-round (nr - 1) (omega arith)) (omega arith)
