-- Bytes that go round: a part filled directly after the part before it.
-- Assumes nothing.
use mathlib.Core.Path.{◌≡◌, sym, ap, subst, ◌∙◌}
use mathlib.Core.List.{List, ◌++◌, append_assoc, append-nil}
use Prim.Native.Nat.{ℕ, zero, suc, ◌+◌, ◌-◌, ◌*◌, ◌%◌, ◌<◌, ◌≤◌, min}
use native.Mathlib.Numerals.{unary_clauses}
use native.Mathlib.Omega.{arith}
use lib.ListN.{length, take, drop, length-append, length-take, length-drop}
use lib.Seq.{take_at, drop_at, drop-drop}
use borrow.Rule.Slice.PartMut.{put_mid}
use Rattle.octets.specs.Strings.{table}
use Rattle.octets.proofs.Strings.{Filled, length-table, table_same}
use Rattle.script.specs.Strings.{seeded}

-- the first m, and n after them
table-add : (f : ℕ → ℕ) (m n : ℕ) → table f (m + n) ≡ table f m ++ table (λ k. f (m + k)) n
unfolding table
table-add f m zero = simp unary_clauses (sym (append-nil (table f m)))
table-add f m (suc n) = simp unary_clauses (rw (table-add f m n) (append_assoc (table f m) (table (λ k. f (m + k)) n) _))

-- j places from the i-th on are filled through the part of the list that has them
fill_part : {f : ℕ → ℕ} {n : ℕ} {d : List ℕ} {i : ℕ} {r : List ℕ} → Filled f n d i r → (j : ℕ) → i + j ≤ n → (last : List ℕ) →
    last ≡ table (λ k. f (i + k)) j → Filled f n d (i + j) (put_mid i j r last)
fill_part {f} {n} {d} {i} {r} v j h last e =
    let w : put_mid i j r last ≡ table f (i + j) ++ drop (i + j) d =
    rw (v.so_far, take_at (table f i) (drop i d) i (length-table f i), drop_at (table f i) (drop i d) i (length-table f i), drop-drop j i d, e, table-add f i j)
    (sym (append_assoc (table f i) (table (λ k. f (i + k)) j) (drop (i + j) d))) in
    record {
      within = h;
      room = v.room;
      so_far = w;
      long = ap length w ∙ simp (length-append, length-table, length-drop) (omega (arith, v.room, h));
    }

-- a whole number of rounds later the bytes are the same
seeded_later : (seed q k : ℕ) → seeded seed (251 * q + k) ≡ seeded seed k
seeded_later seed q k = ap (λ (p : ℕ). (seed + p) % 256) {x = (251 * q + k) % 251} {y = k % 251} (omega arith)

-- after q rounds, one more or what is left of it, up to the place e
pub next_round : (seed n : ℕ) (d r : List ℕ) (q e : ℕ) (last : List ℕ) → Filled (seeded seed) n d (min n (251 * q)) r → length r ≡ n → 251 * q < n →
    e ≡ min n (251 * q + 251) → last ≡ table (seeded seed) (length (take (e - 251 * q) (drop (251 * q) r))) →
    Filled (seeded seed) n d (min n (251 * (q + 1))) (put_mid (251 * q) (e - 251 * q) r last)
next_round seed n d r q e last v l h b w =
    let size : length (take (e - 251 * q) (drop (251 * q) r)) ≡ e - 251 * q = simp (length-take, length-drop) (omega arith) in
    subst (λ (m : ℕ). Filled (seeded seed) n d m (put_mid (251 * q) (e - 251 * q) r last)) {x = 251 * q + (e - 251 * q)} (omega arith)
    (fill_part (subst (λ (m : ℕ). Filled (seeded seed) n d m r) {x = min n (251 * q)} {y = 251 * q} (omega arith) v) (e - 251 * q) (omega arith) last
    (w ∙ ap (table (seeded seed)) size ∙ table_same (seeded seed) (λ k. seeded seed (251 * q + k)) (e - 251 * q) (λ k _. sym (seeded_later seed q k))))
