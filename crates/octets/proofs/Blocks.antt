-- A string cut into blocks of k bytes.
-- Assumes nothing.
use mathlib.Core.Path.{◌≡◌, ap, ◌∙◌}
use mathlib.Core.List.{List, ◌++◌}
use Prim.Native.Nat.{ℕ, suc, ◌*◌, ◌≤◌}
use native.Mathlib.Nat.{mul-suc, add_comm}
use native.Mathlib.Omega.{arith}
use lib.ListN.{length, take, drop, length-take, length-drop}
use lib.Seq.{drop-drop, take-append-le, drop-append-le}
use Rattle.octets.specs.Blocks.{block}

-- a full block has k bytes
pub length-block : (k : ℕ) (s : List ℕ) (i : ℕ) → k * suc i ≤ length s → length (block k s i) ≡ k
length-block k s i h = let e = mul-suc k i in simp (length-take, length-drop) (omega arith)

-- block i + 1 is block i of what follows the first block
pub block-suc : (k : ℕ) (s : List ℕ) (i : ℕ) → block k s (suc i) ≡ block k (drop k s) i
block-suc k s i = rw (drop-drop, mul-suc, add_comm (k * i) k)

-- a full block of s is a block of every string that begins with s
pub block_append : (k : ℕ) (s z : List ℕ) (i : ℕ) → k * suc i ≤ length s → block k (s ++ z) i ≡ block k s i
block_append k s z i h =
    let e = mul-suc k i in
    ap (take k) (drop-append-le (k * i) s z (omega arith))
    ∙ take-append-le k (drop (k * i) s) z (simp length-drop (omega arith))
