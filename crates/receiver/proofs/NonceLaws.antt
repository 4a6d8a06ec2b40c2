-- Big-endian numbers of four and eight bytes.
-- Assumes nothing.
use mathlib.Core.Path.{◌≡◌, ap}
use mathlib.Core.List.{List}
use Prim.Native.Nat.{ℕ, ◌<◌}
use native.Mathlib.Omega.{arith}
use lib.ListN.{length}
use lib.Seq.{take_all}
use Rattle.std.specs.Int.{from_be_bytes, w32, w64}
use Rattle.octets.specs.Numbers.{number}
use Rattle.octets.proofs.Numbers.{number_more}

pub of_four : (s : List ℕ) → length s ≡ 4 → from_be_bytes w32 s ≡ number s
unfolding number
of_four s h =
    let step = λ (i : ℕ) (l : i < length s). number_more s i l in
    omega (arith, step 0 (omega (arith, h)), step 1 (omega (arith, h)), step 2 (omega (arith, h)), step 3 (omega (arith, h)), ap number (take_all 4 s (omega (arith, h))))

pub of_eight : (s : List ℕ) → length s ≡ 8 → from_be_bytes w64 s ≡ number s
unfolding number
of_eight s h =
    let step = λ (i : ℕ) (l : i < length s). number_more s i l in
    omega (
      arith,
      step 0 (omega (arith, h)),
      step 1 (omega (arith, h)),
      step 2 (omega (arith, h)),
      step 3 (omega (arith, h)),
      step 4 (omega (arith, h)),
      step 5 (omega (arith, h)),
      step 6 (omega (arith, h)),
      step 7 (omega (arith, h)),
      ap number (take_all 8 s (omega (arith, h))),
    )
