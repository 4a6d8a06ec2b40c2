-- The full blocks, some at a time: what a loop over them leaves, in both directions.
-- Assumes nothing.
use mathlib.Core.Path.{◌≡◌, refl, sym, ap, ap₂, subst, ◌∙◌}
use mathlib.Core.Bool.{Bool, true, false, cond}
use mathlib.Core.List.{List, ◌++◌, append_assoc, append-nil}
use Prim.Native.Nat.{ℕ, zero, suc, ◌+◌, ◌-◌, ◌*◌, ◌≤◌}
use native.Mathlib.Nat.{le_antisymm}
use native.Mathlib.Numerals.{unary_clauses}
use native.Mathlib.Omega.{arith}
use lib.ListN.{length, take, drop, replicate, length-append, length-take, length-drop}
use lib.Seq.{drop_at, drop-drop}
use Rattle.octets.specs.Strings.{over}
use Rattle.octets.specs.Xor.{xors}
use Rattle.octets.specs.Blocks.{block}
use Rattle.octets.proofs.Parts.{to_end, then, size_of}
use Rattle.aes_schedule.specs.declared.words.Words.{Words}
use Rattle.aes_schedule.specs.Words.{block_of}
use Rattle.cba_steps.specs.Halves.{halves_of}
use Rattle.cba_mode.specs.Offsets.{F, offset}
use Rattle.cba_mode.specs.Seal.{checksum, cipher_blocks}
use Rattle.cba_mode.proofs.Undoing.{checksum-prefix}
use Rattle.cba_sealing.specs.declared.blocks.Running.{Running}
use Rattle.cba_sealing.specs.Calls.{through, summed, Passed}

-- ---- n blocks more after the first i

offset-more : (Δ : List ℕ) (i n : ℕ) → offset (offset Δ i) n ≡ offset Δ (i + n)
unfolding offset
offset-more Δ i zero = simp unary_clauses
offset-more Δ i (suc n) = simp unary_clauses (ap (F 2 2) (offset-more Δ i n))

block_more : (M : List ℕ) (i n : ℕ) → block 16 (drop (16 * i) M) n ≡ block 16 M (i + n)
block_more M i n = ap (take 16) (drop-drop (16 * n) (16 * i) M ∙ ap (λ (j : ℕ). drop j M) {x = 16 * i + 16 * n} {y = 16 * (i + n)} (omega arith))

blocks_more : (E : List ℕ → List ℕ) (Δ M : List ℕ) (i n : ℕ) → cipher_blocks E Δ M i ++ cipher_blocks E (offset Δ i) (drop (16 * i) M) n ≡ cipher_blocks E Δ M (i + n)
unfolding cipher_blocks offset
blocks_more E Δ M i zero = simp unary_clauses (append-nil (cipher_blocks E Δ M i))
blocks_more E Δ M i (suc n) =
    simp unary_clauses
    (sym (append_assoc (cipher_blocks E Δ M i) (cipher_blocks E (offset Δ i) (drop (16 * i) M) n) _)
    ∙ ap₂ ◌++◌ (blocks_more E Δ M i n) (ap₂ (through E) (ap (F 2 2) (offset-more Δ i n)) (block_more M i n)))

sums-more : (M : List ℕ) (i n : ℕ) → summed (checksum M i) (drop (16 * i) M) n ≡ checksum M (i + n)
unfolding checksum summed
sums-more M i zero = simp unary_clauses
sums-more M i (suc n) = simp unary_clauses (ap₂ xors (sums-more M i n) (block_more M i n))

-- a block function, with the offset added before and after it
pub through-block : (E : List ℕ → List ℕ) (Δ m : List ℕ) {o i e r : List ℕ} → o ≡ Δ → i ≡ xors m o → e ≡ E i → r ≡ xors e o → r ≡ through E Δ m
through-block E Δ m eo ei ee er = er ∙ ap₂ xors (ee ∙ ap E (ei ∙ ap (xors m) eo)) eo

-- ---- one block, and two, over the first bytes of d

module _ (E : List ℕ → List ℕ) (σ Δ M d : List ℕ) (r : Running) where
  pub passed-one : (c out : List ℕ) → halves_of r.offset ≡ F 2 2 Δ → block_of r.sum ≡ σ → c ≡ through E (F 2 2 Δ) (take 16 M) → length c ≡ 16 → out ≡ over c d → Passed E σ Δ M d 1 r out
  unfolding offset cipher_blocks
  passed-one c out eΔ eS ec lc eo = record { offset-is = eΔ; sum_is = eS; written = eo ∙ ap₂ (λ (x : List ℕ) (n : ℕ). x ++ drop n d) ec lc }

  pub passed-two : (c c' out : List ℕ) → halves_of r.offset ≡ F 2 2 (F 2 2 Δ) → block_of r.sum ≡ σ →
      c ≡ through E (F 2 2 Δ) (take 16 M) → c' ≡ through E (F 2 2 (F 2 2 Δ)) (take 16 (drop 16 M)) → length (c ++ c') ≡ 32 → out ≡ over (c ++ c') d → Passed E σ Δ M d 2 r out
  unfolding offset cipher_blocks
  passed-two c c' out eΔ eS ec ec' l eo =
      record { offset-is = eΔ; sum_is = eS; written = eo ∙ ap₂ (λ (x : List ℕ) (n : ℕ). x ++ drop n d) (ap₂ ◌++◌ ec ec') l }

-- ---- a loop over the k full blocks of M, after the first i of them; σ says what the sum is to be

pub record Going (E : List ℕ → List ℕ) (σ : ℕ → List ℕ) (Δ M d : List ℕ) (k i : ℕ) (s : Running) (out : List ℕ) : Type 0 where
  pub within : i ≤ k
  pub passed : Passed E (σ i) Δ M d i s out
  pub long : length out ≡ length d

module _ {E : List ℕ → List ℕ} {σ : ℕ → List ℕ} {M d : List ℕ} {k : ℕ} where
  pub going_none : (s : Running) → block_of s.sum ≡ σ 0 → Going E σ (halves_of s.offset) M d k 0 s d
  unfolding offset cipher_blocks
  going_none s e = record { within = omega arith; passed = record { offset-is = refl; sum_is = e; written = refl }; long = refl }

  module _ {Δ : List ℕ} {i : ℕ} {s : Running} {out : List ℕ} (v : Going E σ Δ M d k i s out) where
    -- n blocks more: last is what the callee says of the parts that it was lent
    pub goes_on : (n : ℕ) {r : Running} {S last : List ℕ} → let M' = take (length M - 16 * i) (drop (16 * i) M) in
        let out' = take (16 * i) out ++ (last ++ drop (length out - 16 * i) (drop (16 * i) out)) in
        i + n ≤ k → 16 * k ≤ length d →
        Passed E S (halves_of s.offset) M' (take (length out - 16 * i) (drop (16 * i) out)) n r last →
        length last ≡ length (take (length out - 16 * i) (drop (16 * i) out)) → S ≡ σ (i + n) → Going E σ Δ M d k (i + n) r out'
    goes_on n {r} {S} {last} h hd w lw eS =
        let lo : length (take (16 * i) out ++ (last ++ drop (length out - 16 * i) (drop (16 * i) out))) ≡ length out =
        simp (length-append, length-take, length-drop) (omega (arith, simp (length-take, length-drop) at lw)) in
        let M' = take (length M - 16 * i) (drop (16 * i) M) in
        let eb = ap₂ (λ (δ m : List ℕ). cipher_blocks E δ m n) v.passed.offset-is (to_end M (16 * i)) in
        let all : 16 * i + 16 * n ≡ 16 * (i + n) = omega arith in
        record {
          within = h;
          passed =
              record {
                offset-is = w.offset-is ∙ ap (λ (δ : List ℕ). offset δ n) v.passed.offset-is ∙ offset-more Δ i n;
                sum_is = w.sum_is ∙ eS;
                written =
                    then d (cipher_blocks E Δ M i) out (cipher_blocks E (halves_of s.offset) M' n) last (16 * i) (16 * n) v.passed.written v.long (omega arith) w.written lw
                    ∙ ap₂ (λ (x : List ℕ) (j : ℕ). x ++ drop j d) (ap (λ (x : List ℕ). cipher_blocks E Δ M i ++ x) eb ∙ blocks_more E Δ M i n) all;
              };
          long = lo ∙ v.long;
        }

    -- i blocks by another count
    pub goes_as : (j : ℕ) → i ≡ j → Going E σ Δ M d k j s out
    goes_as j e = subst (λ (n : ℕ). Going E σ Δ M d k n s out) e v

    pub goes_end : k ≤ i → Passed E (σ k) Δ M d k s out
    goes_end h = subst (λ (j : ℕ). Passed E (σ j) Δ M d j s out) (le_antisymm v.within h) v.passed

-- ---- the sum, of what goes in where b is true, and else of what comes out

abbrev pub sum_of : (List ℕ → List ℕ) → Bool → List ℕ → List ℕ → ℕ → List ℕ
sum_of E b Δ M n = checksum (cond b M (cipher_blocks E Δ M n)) n

pub sum-none : (E : List ℕ → List ℕ) (b : Bool) (Δ M : List ℕ) → replicate 16 0 ≡ sum_of E b Δ M 0
unfolding checksum
sum-none E b Δ M = refl

-- of one block, and of two: t and u are those of the message
module _ (E : List ℕ → List ℕ) (S Δ M : List ℕ) where
  pub sum-one : (b : Bool) (x y : Words) {t : Words} → block_of x ≡ take 16 M → block_of y ≡ through E (F 2 2 Δ) (take 16 M) → t ≡ cond b x y →
      xors S (block_of t) ≡ summed S (cond b M (cipher_blocks E Δ M 1)) 1
  unfolding summed offset cipher_blocks
  sum-one true x y ex ey et = ap (xors S) (ap block_of et ∙ ex)
  sum-one false x y ex ey et = ap (λ (w : Words). xors S (block_of w)) et ∙ ap (λ (c : List ℕ). summed S c 1) ey

  pub sum-two : (b : Bool) (x y x' y' : Words) {t t' : Words} → block_of x ≡ take 16 M → block_of x' ≡ take 16 (drop 16 M) →
      block_of y ≡ through E (F 2 2 Δ) (take 16 M) → block_of y' ≡ through E (F 2 2 (F 2 2 Δ)) (take 16 (drop 16 M)) →
      t ≡ cond b x y → t' ≡ cond b x' y' → xors (xors S (block_of t)) (block_of t') ≡ summed S (cond b M (cipher_blocks E Δ M 2)) 2
  unfolding summed offset cipher_blocks
  sum-two true x y x' y' ex ex' ey ey' et et' = ap₂ (λ (c c' : List ℕ). xors (xors S c) c') (ap block_of et ∙ ex) (ap block_of et' ∙ ex')
  sum-two false x y x' y' ex ex' ey ey' et et' =
      ap₂ (λ (w w' : Words). xors (xors S (block_of w)) (block_of w')) et et'
      ∙ ap (λ (c : List ℕ). summed S c 2) (ap₂ ◌++◌ ey ey')

-- and of n blocks more
pub sum-more : {E : List ℕ → List ℕ} (b : Bool) {Δ M d : List ℕ} {k i : ℕ} {s : Running} {out : List ℕ} → Going E (sum_of E b Δ M) Δ M d k i s out → 16 * k ≤ length d → (n : ℕ) →
    (let M' = take (length M - 16 * i) (drop (16 * i) M) in
    summed (block_of s.sum) (cond b M' (cipher_blocks E (halves_of s.offset) M' n)) n ≡ sum_of E b Δ M (i + n))
sum-more true {Δ} {M} {d} {k} {i} v hd n = ap₂ (λ (x m : List ℕ). summed x m n) v.passed.sum_is (to_end M (16 * i)) ∙ sums-more M i n
sum-more {E} false {Δ} {M} {d} {k} {i} {s} {out} v hd n =
    let P = cipher_blocks E Δ M i in
    let Q = cipher_blocks E (offset Δ i) (drop (16 * i) M) n in
    let size : length P ≡ 16 * i = size_of d P out (16 * i) v.passed.written v.long (omega (arith, v.within)) in
    ap₂ (λ (x m : List ℕ). summed x m n)
    (v.passed.sum_is ∙ sym (checksum-prefix P Q i (omega arith)))
    (ap₂ (λ (δ m : List ℕ). cipher_blocks E δ m n) v.passed.offset-is (to_end M (16 * i)) ∙ sym (drop_at P Q (16 * i) size))
    ∙ sums-more (P ++ Q) i n ∙ ap (λ (x : List ℕ). checksum x (i + n)) (blocks_more E Δ M i n)
