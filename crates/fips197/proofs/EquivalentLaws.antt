-- EqInvCipher over the modified schedule is InvCipher over the schedule, round by round; and its steps, by number, are its rounds.
-- Assumes nothing.
use mathlib.Core.Path.{◌≡◌, refl, sym, ap, ap₂, ◌∙◌}
use mathlib.Core.Bool.{Bool, true, false, cond, ◌&&◌}
use mathlib.Core.List.{List, [], ◌++◌, append_assoc, append-nil}
use Prim.Native.Nat.{ℕ, zero, suc, ◌+◌, ◌-◌, ◌*◌, ◌/◌, ◌%◌, ◌<◌, ◌≤◌}
use native.Mathlib.Numerals.{add-one}
use native.Mathlib.Omega.{arith}
use lib.ListN.{length, take, length-append}
use lib.Seq.{take_at, drop_at}
use lib.Dec.{ltb}
use borrow.Author.Tests.{ltb-true, ltb-false, lt-ltb, le-ltb, eq-eqb, ne_eqb}
use Rattle.octets.specs.Xor.{xors}
use Rattle.octets.specs.Blocks.{block}
use Rattle.octets.proofs.Blocks.{length-block}
use Rattle.fips197.specs.Steps.{add_round_key, inv_sub_bytes, inv_shift_rows, inv_mix_columns}
use Rattle.fips197.specs.Cipher.{full_inv_round, inv_rounds, inv_cipher_over}
use Rattle.fips197.specs.Equivalent.{between, modified_key, modified_keys, modified, eq_full_round, eq_rounds, eq_inv_cipher_over, eq_step, eq_state}
use Rattle.fips197.proofs.StepLaws.{inv_sub_bytes-octets, inv_mix_columns-octets, inv_mix_columns-xors, inverses_commute}

-- one of two strings of n bytes has n
pub either_size : (t : Bool) (x y : List ℕ) {n : ℕ} → length x ≡ n → length y ≡ n → length (cond t x y) ≡ n
either_size true x y p q = p
either_size false x y p q = q

-- ---- the modified schedule, of a schedule that is long enough

module _ (w : List ℕ) (nr : ℕ) (room : 16 * suc nr ≤ length w) where
  pub key-size : (n : ℕ) → n ≤ nr → length (modified_key w nr n) ≡ 16
  unfolding modified_key
  key-size n h = either_size (between nr n) (inv_mix_columns (block 16 w n)) (block 16 w n) (inv_mix_columns-octets (block 16 w n)).size (length-block 16 w n (omega arith))

  pub length_keys : (n : ℕ) → n ≤ suc nr → length (modified_keys w nr n) ≡ 16 * n
  unfolding modified_keys
  length_keys zero h = refl
  length_keys (suc n) h =
      length-append (modified_keys w nr n) (modified_key w nr n) ∙ omega (arith, length_keys n (omega arith), key-size n (omega arith))

  -- round key n, of the first k and whatever follows them
  key-at : (k n : ℕ) (z : List ℕ) → n < k → k ≤ suc nr → block 16 (modified_keys w nr k ++ z) n ≡ modified_key w nr n
  unfolding modified_keys
  key-at zero n z l h = absurd (omega arith)
  key-at (suc k) n z l h =
      ap (λ (s : List ℕ). block 16 s n) (append_assoc (modified_keys w nr k) (modified_key w nr k) z)
      ∙ go (λ p. key-at k n (modified_key w nr k ++ z) p (omega arith)) (ltb n k) refl
    where
      Found : Type 0
      Found = block 16 (modified_keys w nr k ++ (modified_key w nr k ++ z)) n ≡ modified_key w nr n

      go : (n < k → Found) → (t : Bool) → ltb n k ≡ t → Found
      go before true e = before (ltb-true n k e)
      go before false e =
          let p : n ≡ k = omega (arith, l, ltb-false n k e) in
          rw p
          (ap (take 16) (drop_at (modified_keys w nr k) (modified_key w nr k ++ z) (16 * k) (length_keys k (omega arith)))
          ∙ take_at (modified_key w nr k) z 16 (key-size k (omega arith)))

  round-key : (n : ℕ) → n ≤ nr → block 16 (modified w nr) n ≡ modified_key w nr n
  round-key n h = ap (λ (s : List ℕ). block 16 s n) (sym (append-nil (modified w nr))) ∙ key-at (suc nr) n [] (omega arith) (omega arith)

  -- the first and the last are those of w
  pub key-first : modified_key w nr 0 ≡ block 16 w 0
  unfolding modified_key
  key-first = refl

  pub key-inner : (n : ℕ) → 0 < n → n < nr → modified_key w nr n ≡ inv_mix_columns (block 16 w n)
  unfolding modified_key
  key-inner n h l = rw (lt-ltb 0 n h, lt-ltb n nr l)

  pub key-last : modified_key w nr nr ≡ block 16 w nr
  unfolding modified_key
  key-last = go (ltb 0 nr) (ltb nr nr) (le-ltb nr nr (omega arith))
    where
      go : (a b : Bool) → b ≡ false → cond (a && b) (inv_mix_columns (block 16 w nr)) (block 16 w nr) ≡ block 16 w nr
      go true b e = rw e
      go false b e = refl

  -- ---- round by round

  round_same : (n : ℕ) → 0 < n → n < nr → (s : List ℕ) → eq_full_round (modified w nr) n s ≡ full_inv_round w n s
  unfolding add_round_key
  round_same n h l s =
      ap₂ (λ (a b : List ℕ). xors (inv_mix_columns a) b) (inverses_commute s) (round-key n (omega arith) ∙ key-inner n h l)
      ∙ sym (inv_mix_columns-xors (inv_sub_bytes (inv_shift_rows s)) (block 16 w n) (inv_sub_bytes-octets _).size (length-block 16 w n (omega arith)))

  pub rounds-same : (s : List ℕ) (n : ℕ) → n < nr → eq_rounds (modified w nr) nr n s ≡ inv_rounds w nr n s
  unfolding eq_rounds inv_rounds add_round_key
  rounds-same s zero l = ap (xors s) (round-key nr (omega arith) ∙ key-last)
  rounds-same s (suc n) l =
      ap (eq_full_round (modified w nr) (nr - suc n)) (rounds-same s n (omega arith)) ∙ round_same (nr - suc n) (omega arith) (omega arith) (inv_rounds w nr n s)

  pub cipher-same : 0 < nr → (s : List ℕ) → eq_inv_cipher_over (modified w nr) nr s ≡ inv_cipher_over w nr s
  unfolding add_round_key
  cipher-same h s =
      ap₂ (λ (a b : List ℕ). xors (inv_shift_rows (inv_sub_bytes a)) b) (rounds-same s (nr - 1) (omega (arith, h))) (round-key 0 (omega arith) ∙ key-first)
      ∙ ap (λ (a : List ℕ). xors a (block 16 w 0)) (inverses_commute (inv_rounds w nr (nr - 1) s))

-- ---- the steps by number

module _ (dw s : List ℕ) (nr : ℕ) where
  -- one more whole round
  pub eq_rounds-more : (x r : List ℕ) (i : ℕ) → x ≡ eq_rounds dw nr i s → r ≡ eq_full_round dw (nr - (i + 1)) x → r ≡ eq_rounds dw nr (i + 1) s
  unfolding eq_rounds
  eq_rounds-more x r i p q = q ∙ rw (p, add-one i)

  -- the State after a step whose round and place in it are known
  stepped : (m k i j : ℕ) → m ≡ suc k → m / 4 ≡ i → m % 4 ≡ j → eq_state dw nr m s ≡ eq_step dw nr i j (eq_state dw nr k s)
  unfolding eq_state
  stepped m k i j e p q = rw e (ap₂ (λ (a b : ℕ). eq_step dw nr a b (eq_state dw nr k s)) (ap (λ (x : ℕ). x / 4) (sym e) ∙ p) (ap (λ (x : ℕ). x % 4) (sym e) ∙ q))

  -- a round that begins with x
  module _ (n : ℕ) (x : List ℕ) (e : eq_state dw nr (4 * n) s ≡ x) where
    pub at-sub : eq_state dw nr (4 * n + 1) s ≡ inv_sub_bytes x
    unfolding eq_step
    at-sub = stepped (4 * n + 1) (4 * n) n 1 (omega arith) (omega arith) (omega arith) ∙ ap inv_sub_bytes e

    pub at-shift : eq_state dw nr (4 * n + 2) s ≡ inv_shift_rows (inv_sub_bytes x)
    unfolding eq_step
    at-shift = stepped (4 * n + 2) (4 * n + 1) n 2 (omega arith) (omega arith) (omega arith) ∙ ap inv_shift_rows at-sub

    third : eq_state dw nr (4 * n + 3) s ≡ eq_step dw nr n 3 (inv_shift_rows (inv_sub_bytes x))
    third = stepped (4 * n + 3) (4 * n + 2) n 3 (omega arith) (omega arith) (omega arith) ∙ ap (eq_step dw nr n 3) at-shift

    pub at-mix : suc n < nr → eq_state dw nr (4 * n + 3) s ≡ inv_mix_columns (inv_shift_rows (inv_sub_bytes x))
    unfolding eq_step
    at-mix h = third ∙ rw (ne_eqb (suc n) nr (λ p. omega (arith, h, p)))

    pub at_last : suc n ≡ nr → eq_state dw nr (4 * n + 3) s ≡ add_round_key dw 0 (inv_shift_rows (inv_sub_bytes x))
    unfolding eq_step
    at_last p = third ∙ rw (eq-eqb (suc n) nr p)

  -- it begins with the State after the whole rounds before it
  pub at-round : (n : ℕ) → n < nr → eq_state dw nr (4 * n) s ≡ eq_rounds dw nr n s
  unfolding eq_rounds eq_state eq_step
  at-round zero h = ap (λ (k : ℕ). add_round_key dw k s) {x = nr - 0} {y = nr} (omega arith)
  at-round (suc n) h =
      stepped (4 * suc n) (4 * n + 3) (suc n) 0 (omega arith) (omega arith) (omega arith)
      ∙ ap (add_round_key dw (nr - suc n)) (at-mix n _ (at-round n (omega arith)) h)
