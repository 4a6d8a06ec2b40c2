-- Laws of the key schedule, over the number of key words. The examples are checked before these laws.
-- Assumes nothing.
use mathlib.Core.Path.{◌≡◌, refl, ◌∙◌}
use mathlib.Core.Bool.{Bool, true, false, cond, ◌||◌, and-false}
use mathlib.Core.List.{List}
use Prim.Native.Nat.{ℕ, zero, suc, ◌+◌, ◌-◌, ◌*◌, ◌/◌, ◌%◌, ◌<◌, ◌≤◌}
use native.Mathlib.Omega.{arith}
use lib.Dec.{eqb, ltb}
use lib.ListN.{length, drop, length-append}
use borrow.Author.Tests.{eqb-true, eq-eqb, ne_eqb, lt-ltb, le-ltb}
use Rattle.octets.specs.Strings.{Bytes, Octets}
use Rattle.octets.specs.Xor.{xors}
use Rattle.octets.specs.Blocks.{block}
use Rattle.octets.proofs.Strings.{bytes_append, bytes_take, bytes_drop, length-table, bytes-table}
use Rattle.octets.proofs.Xor.{length-xors, bytes-xors}
use Rattle.octets.proofs.Blocks.{length-block}
use Rattle.field.proofs.Rules.{xtime_byte, s_box_byte}
use Rattle.fips197.specs.Schedule.{is_key, sub_word, rot_word, power, rcon, at_start, at_middle, temp, next_word, expanded, key_expansion}
use Rattle.fips197.proofs.Examples

-- what a key's length is good for: it is a number of words, which is even and 4 to 8
pub record KeyWords (key : List ℕ) : Type 0 where
  pub least : 4 ≤ length key / 4
  pub most : length key / 4 ≤ 8
  pub whole : length key ≡ 4 * (length key / 4)
  pub even : length key / 4 % 2 ≡ 0

pub key-words : (key : List ℕ) → is_key key ≡ true → KeyWords key
unfolding is_key
key-words key h = go (eqb (length key) 16) (eqb (length key) 24) (eqb (length key) 32) refl refl refl h
  where
    go : (x y z : Bool) → eqb (length key) 16 ≡ x → eqb (length key) 24 ≡ y → eqb (length key) 32 ≡ z → (x || y || z) ≡ true → KeyWords key
    go true y z p q r e = let n = eqb-true (length key) 16 p in record { least = omega arith; most = omega arith; whole = omega arith; even = omega arith }
    go false true z p q r e = let n = eqb-true (length key) 24 q in record { least = omega arith; most = omega arith; whole = omega arith; even = omega arith }
    go false false z p q r e = let n = eqb-true (length key) 32 (r ∙ e) in record { least = omega arith; most = omega arith; whole = omega arith; even = omega arith }

-- ---- lengths and bytes

xors-octets : (n : ℕ) (a b : List ℕ) → Octets n a → Octets n b → Octets n (xors a b)
xors-octets n a b p q = record { size = length-xors a b ∙ omega (arith, p.size, q.size); small = bytes-xors a b p.small q.small }

pub power_byte : (j : ℕ) → power j < 256
unfolding power
power_byte zero = omega arith
power_byte (suc j) = xtime_byte (power j)

sub_word-octets : (t : List ℕ) → Octets 4 (sub_word t)
unfolding sub_word
sub_word-octets t = record { size = length-table _ 4; small = bytes-table _ 4 (λ k h. s_box_byte _) }

rcon-octets : (j : ℕ) → Octets 4 (rcon j)
unfolding rcon
rcon-octets j = record { size = refl; small = (power_byte _, (omega arith, (omega arith, (omega arith, tt)))) }

one_of : (x y : Bool) (a b c : List ℕ) → Octets 4 a → Octets 4 b → Octets 4 c → Octets 4 (cond x a (cond y b c))
one_of true y a b c p q r = p
one_of false true a b c p q r = q
one_of false false a b c p q r = r

temp-octets : (nk i : ℕ) (t : List ℕ) → Octets 4 t → Octets 4 (temp nk i t)
unfolding temp
temp-octets nk i t o = one_of (at_start nk i) (at_middle nk i) _ _ _ (xors-octets 4 _ _ (sub_word-octets (rot_word t)) (rcon-octets (i / nk))) (sub_word-octets t) o

word-octets : (w : List ℕ) (i : ℕ) → Bytes w → 4 * suc i ≤ length w → Octets 4 (block 4 w i)
word-octets w i b h = record { size = length-block 4 w i h; small = bytes_take 4 (drop (4 * i) w) (bytes_drop (4 * i) w b) }

pub next_word-octets : (nk i : ℕ) (w : List ℕ) → 0 < nk → nk ≤ i → Octets (4 * i) w → Octets 4 (next_word nk i w)
next_word-octets nk i w p h o =
    let l = o.size in
    xors-octets 4 _ _ (word-octets w (i - nk) o.small (omega arith)) (temp-octets nk i _ (word-octets w (i - 1) o.small (omega arith)))

pub expanded-octets : (nk : ℕ) (key : List ℕ) (m : ℕ) → 0 < nk → Octets (4 * nk) key → Octets (4 * (nk + m)) (expanded nk key m)
unfolding expanded
expanded-octets nk key zero p o = record { size = o.size ∙ omega arith; small = o.small }
expanded-octets nk key (suc m) p o =
    let w = expanded nk key m in
    let ih = expanded-octets nk key m p o in
    let n = next_word-octets nk (nk + m) w p (omega arith) ih in
    record {
      size = length-append w (next_word nk (nk + m) w) ∙ omega (arith, ih.size, n.size);
      small = bytes_append w (next_word nk (nk + m) w) ih.small n.small;
    }

pub key_expansion-octets : (key : List ℕ) → Bytes key → KeyWords key → Octets (16 * (length key / 4 + 7)) (key_expansion key)
unfolding key_expansion
key_expansion-octets key b k =
    let e = expanded-octets (length key / 4) key (4 * (length key / 4 + 6 + 1) - length key / 4) (omega arith) (record { size = k.whole; small = b }) in
    record { size = e.size ∙ omega arith; small = e.small }

-- ---- temp, by cases

module _ (nk i : ℕ) (t : List ℕ) where
  pub temp-first : i % nk ≡ 0 → temp nk i t ≡ xors (sub_word (rot_word t)) (rcon (i / nk))
  unfolding temp
  temp-first h = rw (eq-eqb (i % nk) 0 h)

  pub temp_middle : (i % nk ≡ 0 → ⊥) → 6 < nk → i % nk ≡ 4 → temp nk i t ≡ sub_word t
  unfolding temp
  temp_middle h p q = rw (ne_eqb (i % nk) 0 h, lt-ltb 6 nk p, eq-eqb (i % nk) 4 q)

  pub temp-short : (i % nk ≡ 0 → ⊥) → nk ≤ 6 → temp nk i t ≡ t
  unfolding temp
  temp-short h p = rw (ne_eqb (i % nk) 0 h, le-ltb 6 nk p)

  pub temp_other : (i % nk ≡ 0 → ⊥) → (i % nk ≡ 4 → ⊥) → temp nk i t ≡ t
  unfolding temp
  temp_other h q = rw (ne_eqb (i % nk) 0 h, ne_eqb (i % nk) 4 q, and-false (ltb 6 nk))
