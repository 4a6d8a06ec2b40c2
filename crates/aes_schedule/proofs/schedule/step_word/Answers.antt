-- `aes_schedule::schedule::step_word` meets its contract, by the cases of the definition.
-- Assumes nothing.
use mathlib.Core.Path.{◌≡◌, sym, ap, ap₂, ◌∙◌}
use Prim.Native.Nat.{ℕ, ◌-◌}
use native.Mathlib.Omega.{arith}
use lib.Bits.{bit_xor}
use borrow.Author.Rules.{rules}
use Rattle.octets.specs.Xor.{xors}
use Rattle.fips197.specs.Schedule.{sub_word, rot_word, power, rcon}
use Rattle.fips197.proofs.ScheduleLaws.{temp-first, temp_middle, temp-short, temp_other}
use Rattle.aes_schedule.specs.Words.{bytes_of}
use Rattle.aes_schedule.proofs.WordLaws.{xor_bytes}
use Rattle.aes_schedule.proofs.ExpandLaws.{rcon-word, quotient_is, remainder_is}
use Rattle.aes_schedule.proofs.schedule.step_word.Goals as goal

-- RotWord, SubWord and Rcon
first : (x r y p j : ℕ) → bytes_of r ≡ rot_word (bytes_of x) → bytes_of y ≡ sub_word (bytes_of r) → p ≡ power (j - 1) →
    bytes_of (bit_xor y p) ≡ xors (sub_word (rot_word (bytes_of x))) (rcon j)
first x r y p j e f g = xor_bytes y p ∙ ap₂ xors (f ∙ ap sub_word e) (rcon-word j p g)

-- the remainder of a place
differs : {m k n : ℕ} → m ≡ k → (k ≡ n → ⊥) → m ≡ n → ⊥
differs e f h = f (sym e ∙ h)

pub returns-in-0 : goal.returns-in-0
returns-in-0 c =
    first _ _ _ _ _ c.rot_word.ensures c.sub_word.ensures (rw (quotient_is _ _ _ c.requires.k_lt_nk.0) c.power_of.ensures)
    ∙ sym (temp-first _ _ _ (remainder_is _ _ _ c.requires.k_lt_nk.0 ∙ c.in-0.is))

pub returns-in-4 : goal.returns-in-4
returns-in-4 c =
    let e = remainder_is _ _ _ c.requires.k_lt_nk.0 in
    c.sub_word-in-4.ensures ∙ sym (temp_middle _ _ _ (differs e (λ h. omega (arith, h, c.in-4.is))) c.if-nk-gt6.true (e ∙ c.in-4.is))

pub returns-in_default : goal.returns-in_default
returns-in_default c =
    sym (temp-short _ _ _ (differs (remainder_is _ _ _ c.requires.k_lt_nk.0) (λ h. omega (arith, h, c.in-4.is))) c.if-nk-gt6.false)

pub returns-in_default-2 : goal.returns-in_default-2
returns-in_default-2 c =
    let e = remainder_is _ _ _ c.requires.k_lt_nk.0 in
    sym (temp_other _ _ _ (differs e (search rules)) (differs e (search rules)))
