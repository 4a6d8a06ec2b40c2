-- The equivalent inverse cipher is the inverse cipher, under every key and on every block.
-- Assumes nothing.
use mathlib.Core.Path.{◌≡◌, ap, ap₂, ◌∙◌}
use mathlib.Core.Bool.{true}
use mathlib.Core.List.{List}
use Prim.Native.Nat.{ℕ, suc, ◌+◌, ◌-◌, ◌*◌, ◌<◌}
use native.Mathlib.Omega.{arith}
use lib.ListN.{length}
use Rattle.octets.specs.Strings.{Bytes}
use Rattle.fips197.specs.Schedule.{is_key, key_expansion}
use Rattle.fips197.specs.Cipher.{inv_cipher, key_rounds}
use Rattle.fips197.specs.Equivalent.{eq_inv_cipher_over, key_expansion_eic, eq_inv_cipher, eq_state, Equivalent}
use Rattle.fips197.proofs.EqFigure.{written_out}
use Rattle.fips197.proofs.EquivalentLaws.{length_keys, rounds-same, cipher-same, at_last, at-round}
use Rattle.fips197.proofs.Inverses.{room}

-- the modified schedule of a key has as many bytes as the schedule
pub length_EIC : (key : List ℕ) → Bytes key → is_key key ≡ true → length (key_expansion_eic key) ≡ 16 * suc (key_rounds key)
unfolding key_expansion_eic
length_EIC key b h = length_keys (key_expansion key) (key_rounds key) (room key b h) (suc (key_rounds key)) (omega arith)

-- over the modified schedule of a key, at its number of rounds
pub deciphered : (key w s r : List ℕ) (nr : ℕ) → Bytes key → is_key key ≡ true → w ≡ key_expansion_eic key → nr ≡ key_rounds key → r ≡ eq_inv_cipher_over w nr s →
    r ≡ inv_cipher key s
unfolding key_expansion_eic inv_cipher
deciphered key w s r nr b h p q e =
    e ∙ ap₂ (λ (x : List ℕ) (n : ℕ). eq_inv_cipher_over x n s) p q ∙ cipher-same (key_expansion key) (key_rounds key) (room key b h) (omega arith) s

last_step : (dw s : List ℕ) (nr : ℕ) → 0 < nr → eq_state dw nr (4 * nr - 1) s ≡ eq_inv_cipher_over dw nr s
last_step dw s nr h =
    ap (λ (k : ℕ). eq_state dw nr k s) {x = 4 * nr - 1} {y = 4 * (nr - 1) + 3} (omega arith)
    ∙ at_last dw s nr (nr - 1) _ (at-round dw s nr (nr - 1) (omega arith)) (omega arith)

pub equivalent : Equivalent
unfolding key_expansion_eic eq_inv_cipher inv_cipher
equivalent =
    record {
      figure = written_out;
      same = λ key s b h. cipher-same (key_expansion key) (key_rounds key) (room key b h) (omega arith) s;
      rounds-same = λ key s b h. rounds-same (key_expansion key) (key_rounds key) (room key b h) s;
      step-round = at-round;
      step-last = last_step;
    }
