-- A string written through the part of a slice that begins at its place, put(&mut out[at..], t): the bytes before and after
-- it are as they were.
-- Assumes nothing.
use mathlib.Core.Path.{◌≡◌, sym, ap, ap₂, ◌∙◌}
use mathlib.Core.List.{List, ◌++◌, append_assoc, append-nil}
use Prim.Native.Nat.{ℕ, ◌+◌, ◌-◌, ◌≤◌}
use native.Mathlib.Omega.{arith}
use lib.ListN.{length, take, drop, length-append, length-take, length-drop, drop_of_length-le}
use lib.Seq.{take_all, take_at, drop-drop, drop-append-add}

-- What was lent comes back as last, between the bytes before it and those after the part, of which there are none.
-- last is what put says of the part that it was lent.
pub put_at : (out : List ℕ) (at : ℕ) (t last : List ℕ) → at + length t ≤ length out →
    last ≡ t ++ drop (length t) (take (length out - at) (drop at out)) →
    take at out ++ (last ++ drop (length out - at) (drop at out)) ≡ take at out ++ (t ++ drop (at + length t) out)
put_at out at t last h e =
    let l : length (drop at out) ≤ length out - at = simp length-drop (omega arith) in
    ap (λ (x : List ℕ). take at out ++ x)
    (rw (e, take_all (length out - at) (drop at out) l, drop_of_length-le (drop at out) {i = length out - at} l)
    (append-nil (t ++ drop (length t) (drop at out)) ∙ ap (λ (x : List ℕ). t ++ x) (drop-drop (length t) at out)))

-- A loop that writes a slice from the front: out is d with e written over its start, and t goes directly after e.
pub put_more : (d e out : List ℕ) (at : ℕ) (t last : List ℕ) → out ≡ e ++ drop (length e) d → length e ≡ at → at + length t ≤ length out →
    last ≡ t ++ drop (length t) (take (length out - at) (drop at out)) →
    take at out ++ (last ++ drop (length out - at) (drop at out)) ≡ (e ++ t) ++ drop (length (e ++ t)) d
put_more d e out at t last w l h p =
    put_at out at t last h p
    ∙ rw (w, take_at e (drop (length e) d) at l, ← l, drop-append-add e (drop (length e) d) (length t), drop-drop (length t) (length e) d, length-append e t)
    (sym (append_assoc e t (drop (length e + length t) d)))

-- what put wrote is not seen past its end
pub drop_put : (s d : List ℕ) (k : ℕ) → length s ≤ k → drop k (s ++ drop (length s) d) ≡ drop k d
drop_put s d k h =
    let e : k ≡ length s + (k - length s) = omega arith in
    rw (e, drop-append-add s (drop (length s) d) (k - length s)) (drop-drop (k - length s) (length s) d)

-- the part of a slice from a place to its end
pub to_end : (s : List ℕ) (n : ℕ) → take (length s - n) (drop n s) ≡ drop n s
to_end s n = take_all (length s - n) (drop n s) (simp length-drop (omega arith))

pub rest-size : (s : List ℕ) (n : ℕ) → length (take (length s - n) (drop n s)) ≡ length s - n
rest-size s n = ap length (to_end s n) ∙ length-drop n s

-- a first write of n bytes has n bytes
pub size_of : (d e out : List ℕ) (n : ℕ) → out ≡ e ++ drop n d → length out ≡ length d → n ≤ length d → length e ≡ n
size_of d e out n w l h = omega (arith, ap length w, length-append e (drop n d), length-drop n d)

-- a string put at the end of another
pub put_end : (out : List ℕ) (at : ℕ) (t last : List ℕ) → at + length t ≡ length out →
    last ≡ t ++ drop (length t) (take (length out - at) (drop at out)) →
    take at out ++ (last ++ drop (length out - at) (drop at out)) ≡ take at out ++ t
put_end out at t last h e =
    put_at out at t last (omega arith) e
    ∙ ap (λ (x : List ℕ). take at out ++ x) (rw (drop_of_length-le out {i = at + length t} (omega arith)) (append-nil t))

-- A second write directly after a first of n bytes: last is what the callee says of the part that it was lent.
pub then : (d e out t last : List ℕ) (n j : ℕ) → out ≡ e ++ drop n d → length out ≡ length d → n + j ≤ length d →
    last ≡ t ++ drop j (take (length out - n) (drop n out)) → length last ≡ length (take (length out - n) (drop n out)) →
    take n out ++ (last ++ drop (length out - n) (drop n out)) ≡ (e ++ t) ++ drop (n + j) d
then d e out t last n j w l h p q =
    let le : length e ≡ n = omega (arith, ap length w, length-append e (drop n d), length-drop n d) in
    let lp : length (take (length out - n) (drop n out)) ≡ length out - n = simp (length-take, length-drop) (omega arith) in
    let lt : length t ≡ j = omega (arith, ap length p, length-append t (drop j (take (length out - n) (drop n out))), length-drop j (take (length out - n) (drop n out))) in
    put_more d e out n t last (w ∙ ap (λ (m : ℕ). e ++ drop m d) (sym le)) le (omega arith)
    (p ∙ ap (λ (m : ℕ). t ++ drop m (take (length out - n) (drop n out))) (sym lt))
    ∙ ap (λ (m : ℕ). (e ++ t) ++ drop m d) (length-append e t ∙ ap₂ ◌+◌ le lt)
