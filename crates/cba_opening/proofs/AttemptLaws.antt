-- What the joined and the separate form read after C_0, put together from their parts.
-- Assumes nothing.
use mathlib.Core.Path.{◌≡◌, refl, sym, ap, ap₂, ◌∙◌}
use mathlib.Core.Bool.{Bool}
use mathlib.Core.List.{List, ◌++◌}
use Prim.Native.Nat.{ℕ, ◌+◌, ◌-◌, ◌*◌, ◌≤◌}
use native.Mathlib.Omega.{arith}
use lib.ListN.{length, take, drop, length-take, length-drop}
use lib.Seq.{take_all, take_at, drop_at, take-add, take-take}
use Rattle.octets.specs.Strings.{over, eqs}
use Rattle.octets.specs.Xor.{xors}
use Rattle.octets.proofs.Xor.{length-xors, take-xors, drop-xors}
use Rattle.aes_schedule.specs.Words.{block_of}
use Rattle.cba_steps.specs.Halves.{halves_of}
use Rattle.cba_mode.specs.Sets.{tag_bytes}
use Rattle.cba_mode.specs.Offsets.{F, offset, last_bytes, but_last}
use Rattle.cba_mode.specs.Seal.{checksum, cipher_blocks, last_block, separate_tag}
use Rattle.cba_mode.specs.Open.{Attempt, Tried, verified, after, from_blocks, joined_plain, joined_rest, joined_attempt, separate_attempt}
use Rattle.cba_mode.proofs.Undoing.{plain-cipher}
use Rattle.cba_sealing.specs.declared.blocks.Running.{Running}
use Rattle.cba_sealing.specs.Calls.{Passed, tag_block}
use Rattle.octets.proofs.Parts.{then, to_end, rest-size, size_of}

-- the place where a string ends without its last t bytes, from a part of it
pub rest_end : (s : List ℕ) (n t : ℕ) → n + t ≤ length s → n + (length (take (length s - n) (drop n s)) - t) ≡ length s - t
rest_end s n t h = rw (rest-size s n) (omega arith)

-- A first write of n bytes, and an attempt over the rest: w and r are what its code left of the part that it was lent, and answered.
pub after_turn : (a : Attempt) (M d out w : List ℕ) (n j m : ℕ) (r : Bool) → out ≡ M ++ drop n d → length out ≡ length d → n + j ≡ m → m ≤ length d →
    Tried a j r (take (length out - n) (drop n out)) w → length w ≡ length (take (length out - n) (drop n out)) →
    Tried (after M a) m r d (take n out ++ (w ++ drop (length out - n) (drop n out)))
unfolding after verified
after_turn a M d out w n j m r eo lo e h t lw =
    (t.0, then d M out a.message w n j eo lo (omega arith) t.1 lw ∙ ap (λ (k : ℕ). (M ++ a.message) ++ drop k d) e)

-- the last k bytes of a masked string, and the others
last-part : (e : List ℕ) (n k : ℕ) → n + k ≤ length e → drop n (take (n + k) e) ≡ take k (drop n e)
last-part e n k h = ap (drop n) (take-add n k e) ∙ drop_at (take n e) (take k (drop n e)) n (simp length-take (omega arith))

masked-size : (c e : List ℕ) → length c ≤ length e → length (xors c (take (length c) e)) ≡ length c
masked-size c e h = length-xors c (take (length c) e) ∙ simp length-take (omega arith)

last-masked : (c e : List ℕ) (k : ℕ) → k ≤ length c → length c ≤ length e →
    last_bytes k (xors c (take (length c) e)) ≡ xors (drop (length c - k) c) (take k (drop (length c - k) e))
unfolding last_bytes
last-masked c e k h g =
    let n = length c - k in
    let all : n + k ≡ length c = omega arith in
    ap (λ (m : ℕ). drop (m - k) (xors c (take (length c) e))) (masked-size c e g) ∙ drop-xors n c (take (length c) e)
    ∙ ap (xors (drop n c)) (ap (λ (m : ℕ). drop n (take m e)) (sym all) ∙ last-part e n k (omega arith))

but_masked : (c e : List ℕ) (k : ℕ) → length c ≤ length e → but_last k (xors c (take (length c) e)) ≡ xors (take (length c - k) c) (take (length c - k) e)
unfolding but_last
but_masked c e k g =
    let n = length c - k in
    ap (λ (m : ℕ). take (m - k) (xors c (take (length c) e))) (masked-size c e g) ∙ take-xors n c (take (length c) e)
    ∙ ap (xors (take n c)) (take-take n (length c) e (omega arith))

-- the tag of the joined form, by a mask of the last bytes alone
pub joined-tag-turn : (e c tag z t : List ℕ) (r : Bool) → let n = length c - length tag in
    length tag ≤ length c → length c ≤ length e →
    t ≡ xors (take (length c - n) (drop n c)) (take (length (take (length c - n) (drop n c))) (drop n e)) ++ z →
    r ≡ eqs (take (length tag) t) tag → r ≡ eqs (last_bytes (length tag) (xors c (take (length c) e))) tag
joined-tag-turn e c tag z t r h g et er =
    let n = length c - length tag in
    let k = length tag in
    let s : List ℕ = xors (drop n c) (take k (drop n e)) in
    let l : length (drop n c) ≡ k = simp length-drop (omega arith) in
    let ls : length s ≡ k = length-xors (drop n c) (take k (drop n e)) ∙ simp (length-take, length-drop) (omega arith) in
    let et' : t ≡ s ++ z =
    et ∙ ap (λ (x : List ℕ). xors x (take (length x) (drop n e)) ++ z) (to_end c n) ∙ ap (λ (m : ℕ). xors (drop n c) (take m (drop n e)) ++ z) l in
    er ∙ ap (λ (x : List ℕ). eqs x tag) (ap (take k) et' ∙ take_at s z k ls ∙ sym (last-masked c e k h g))

module _ (E D : List ℕ → List ℕ) where
  pub joined-rest-turn : (Δ m c tag d e out : List ℕ) (r : Bool) → let n = length c - length tag in
      e ≡ E (xors m (F 2 2 Δ)) → length e ≡ 16 → length c ≤ 16 →
      out ≡ xors (take n c) (take (length (take n c)) e) ++ drop (length (take n c)) d →
      r ≡ eqs (last_bytes (length tag) (xors c (take (length c) e))) tag →
      (r ≡ eqs (last_bytes (length tag) (joined_rest E D Δ c m)) tag) × (out ≡ but_last (length tag) (joined_rest E D Δ c m) ++ drop n d)
  unfolding joined_rest
  joined-rest-turn Δ m c tag d e out r ee le h eo er =
      let n = length c - length tag in
      let l : length (take n c) ≡ n = simp length-take (omega arith) in
      rw (← ee)
      (er, eo ∙ ap (λ (k : ℕ). xors (take n c) (take k e) ++ drop k d) l ∙ ap (λ (x : List ℕ). x ++ drop n d) (sym (but_masked c e (length tag) (omega arith))))

  pub joined_end_turn : (tag Δ S rest last m d out w : List ℕ) (r : Bool) → let n = length rest - 16 in
      16 + length tag ≤ length rest → length rest ≤ length d + length tag →
      last ≡ take 16 (take (length rest - n) (drop n rest)) → m ≡ joined_plain E D Δ S (take n rest) last → length m ≡ 16 →
      out ≡ over m d → length out ≡ length d →
      (r ≡ eqs (last_bytes (length tag) (joined_rest E D Δ (take n rest) m)) tag)
      × (w ≡ but_last (length tag) (joined_rest E D Δ (take n rest) m) ++ drop (length (take n rest) - length tag) (take (length out - 16) (drop 16 out))) →
      length w ≡ length (take (length out - 16) (drop 16 out)) →
      Tried (joined_attempt E D (8 * length tag) tag Δ S rest) (length rest - length tag) r d (take 16 out ++ (w ++ drop (length out - 16) (drop 16 out)))
  unfolding joined_attempt verified but_last last_bytes
  joined_end_turn tag Δ S rest last m d out w r h hd el em lm eo lo t lw =
      let n = length rest - 16 in
      let lt : length tag ≡ tag_bytes (8 * length tag) = omega arith in
      let l : length (take n rest) ≡ n = simp length-take (omega arith) in
      let el' : last ≡ drop n rest = el ∙ ap (take 16) (to_end rest n) ∙ take_all 16 (drop n rest) (simp length-drop (omega arith)) in
      let em' : m ≡ joined_plain E D Δ S (take n rest) (drop n rest) = em ∙ ap (joined_plain E D Δ S (take n rest)) el' in
      let all : 16 + (length (take n rest) - length tag) ≡ length rest - length tag = omega (arith, l) in
      let both =
      then d m out (but_last (length tag) (joined_rest E D Δ (take n rest) m)) w 16 (length (take n rest) - length tag)
      (eo ∙ ap (λ (k : ℕ). m ++ drop k d) lm) lo (omega (arith, l)) t.1 lw
      ∙ ap (λ (k : ℕ). (m ++ but_last (length tag) (joined_rest E D Δ (take n rest) m)) ++ drop k d) all in (
        t.0 ∙ ap₂ (λ (x : List ℕ) (k : ℕ). eqs (last_bytes k (joined_rest E D Δ (take n rest) x)) tag) em' lt,
        both ∙ ap₂ (λ (x : List ℕ) (k : ℕ). (x ++ but_last k (joined_rest E D Δ (take n rest) x)) ++ drop (length rest - length tag) d) em' lt,
      )

  pub separate_end_turn : (tag Δ S rest d e out : List ℕ) (r : Bool) → let n = length rest - length tag in
      length tag ≤ length rest → length rest ≤ length d + length tag →
      out ≡ last_block E Δ tag (take n rest) ++ drop (length (take n rest)) d → length out ≡ length d → e ≡ tag_block E Δ tag S (take n out) →
      r ≡ eqs (take (length rest - n) (drop n rest)) (take (length tag) e) →
      Tried (separate_attempt E D (8 * length tag) tag Δ S rest) (length rest - length tag) r d out
  unfolding separate_attempt verified but_last last_bytes separate_tag
  separate_end_turn tag Δ S rest d e out r h hd eo lo ee er =
      let n = length rest - length tag in
      let lt : length tag ≡ tag_bytes (8 * length tag) = omega arith in
      let M = last_block E Δ tag (take n rest) in
      let l : length (take n rest) ≡ n = simp length-take (omega arith) in
      let eo' : out ≡ M ++ drop n d = eo ∙ ap (λ (k : ℕ). M ++ drop k d) l in
      let first : take n out ≡ M = ap (take n) eo' ∙ take_at M (drop n d) n (size_of d M out n eo' lo (omega arith)) in
      rw (← lt) (er ∙ ap₂ eqs (to_end rest n) (ap (take (length tag)) (ee ∙ ap (tag_block E Δ tag S) first)), eo')

  -- the full blocks, then what ends the form
  pub blocks-turn : (end : List ℕ → List ℕ → List ℕ → Attempt) (t : ℕ) (Δ C d out w : List ℕ) (s : Running) (k : ℕ) (r : Bool) →
      let rest = take (length C - 16 * k) (drop (16 * k) C) in
      16 * k + t ≤ length C → length C ≤ length d + t → length out ≡ length d → Passed D (checksum (cipher_blocks D Δ C k) k) Δ C d k s out →
      Tried (end (halves_of s.offset) (block_of s.sum) rest) (length rest - t) r (take (length out - 16 * k) (drop (16 * k) out)) w →
      length w ≡ length (take (length out - 16 * k) (drop (16 * k) out)) →
      Tried (from_blocks E D end Δ C k) (length C - t) r d (take (16 * k) out ++ (w ++ drop (length out - 16 * k) (drop (16 * k) out)))
  unfolding from_blocks
  blocks-turn end t Δ C d out w s k r h hd lo v tried lw =
      let Ms = cipher_blocks D Δ C k in
      let rest = take (length C - 16 * k) (drop (16 * k) C) in
      let same : end (halves_of s.offset) (block_of s.sum) rest ≡ end (offset Δ k) (checksum Ms k) (drop (16 * k) C) = rw (v.offset-is, v.sum_is, to_end C (16 * k)) refl in
      rw (plain-cipher E D Δ C k, ← same)
      (after_turn (end (halves_of s.offset) (block_of s.sum) rest) Ms d out w (16 * k) (length rest - t) (length C - t) r v.written lo (rest_end C (16 * k) t h) (omega arith) tried lw)
