-- The key schedule as the code takes it, over the number of key words.
-- Assumes nothing.
use mathlib.Core.Path.{◌≡◌, refl, sym, ap, ap₂, ◌∙◌}
use mathlib.Core.Bool.{true}
use mathlib.Core.List.{List, ◌++◌, append_assoc}
use Prim.Native.Nat.{ℕ, suc, ◌+◌, ◌-◌, ◌*◌, ◌/◌, ◌%◌, ◌<◌, ◌≤◌}
use native.Mathlib.Nat.{add-zero, mul-suc, mul-add-mod_self_left, mul-add-div, mod-eq_of_lt, div-eq_of_lt, lt_of_mul-lt-mul_left}
use native.Mathlib.Numerals.{add-one}
use native.Mathlib.Omega.{arith}
use lib.ListN.{length, take, drop, length-append, length-take, take-append-drop, get_or-append}
use lib.Seq.{get_or-take, take_at, drop_at, drop-drop, drop-append-add, length-take-le}
use Rattle.octets.specs.Strings.{over}
use Rattle.octets.specs.Xor.{xors}
use Rattle.octets.specs.Blocks.{block}
use Rattle.octets.proofs.Parts.{drop_put, put_more}
use Rattle.octets.proofs.Blocks.{block_append}
use Rattle.fips197.specs.Schedule.{is_key, power, rcon, temp, next_word, expanded, key_expansion}
use Rattle.fips197.proofs.ScheduleLaws.{power_byte, key-words, temp_other}
use Rattle.aes_schedule.specs.declared.schedule.Place.{Place}
use Rattle.aes_schedule.specs.Words.{bytes_of, word_at}
use Rattle.aes_schedule.specs.Boxes.{Boxes}
use Rattle.aes_schedule.specs.Place.{passed, Paired}
use Rattle.aes_schedule.proofs.WordLaws.{byte_word, word_bytes}

-- Rcon as a word is a power of x
pub rcon-word : (j p : ℕ) → p ≡ power (j - 1) → bytes_of p ≡ rcon j
unfolding rcon
rcon-word j p e = rw e (byte_word (power (j - 1)) (power_byte (j - 1)))

-- ---- the place of a word, nk words q + 1 times and k more

module _ (nk q k : ℕ) (h : k < nk) where
  gathered : nk + (nk * q + k) ≡ nk * suc q + k
  gathered = rw mul-suc (omega arith)

  pub remainder_is : (nk + (nk * q + k)) % nk ≡ k
  remainder_is = rw (gathered, mul-add-mod_self_left nk (suc q) k) (mod-eq_of_lt h)

  pub quotient_is : (nk + (nk * q + k)) / nk - 1 ≡ q
  quotient_is = rw (gathered, mul-add-div {m = nk} (omega arith) (suc q) k, div-eq_of_lt h) (omega arith)

-- ---- the round table in front of what is written

pub boxes_append : {t : List ℕ} → Boxes t → (z : List ℕ) → Boxes (t ++ z)
boxes_append {t} b z =
    record {
      long = omega (arith, length-append t z);
      box_is = λ v h. get_or-append t z 0 (8 * v + 1) (omega arith) ∙ b.box_is v h;
    }

boxes-take : {t : List ℕ} → Boxes t → (n : ℕ) → 2048 ≤ n → Boxes (take n t)
boxes-take {t} b n h =
    record {
      long = simp length-take (omega arith);
      box_is = λ v l. get_or-take n t (8 * v + 1) 0 (omega arith) ∙ b.box_is v l;
    }

-- ---- the loop that writes the schedule

-- w is d with the key's words and m more written from a place on, and x is the last of them
pub record Expanding (key d : List ℕ) (at nk : ℕ) (w : List ℕ) (x m : ℕ) : Type 0 where
  pub least : 4 ≤ nk
  pub most : nk ≤ 8
  pub behind : 2048 ≤ at
  pub room : at + 240 ≤ length d
  pub within : m ≤ 3 * nk + 28
  pub long : length w ≡ length d
  pub boxes : Boxes w
  pub size : length (expanded nk key m) ≡ 4 * (nk + m)
  pub so_far : w ≡ over (take at d ++ expanded nk key m) d
  pub last : bytes_of x ≡ block 4 (expanded nk key m) (nk + m - 1)

-- so it is before a turn, which writes two words at a place
pub record Turning (key d : List ℕ) (at nk : ℕ) (w : List ℕ) (x : ℕ) (p : Place) (m : ℕ) : Type 0 where
  pub words : Expanding key d at nk w x m
  pub place : Paired nk p
  pub so_many : m ≡ passed nk p
  pub pairs : m % 2 ≡ 0

-- w after its part from n on was lent and came back as last
abbrev lent : List ℕ → ℕ → List ℕ → List ℕ
lent w n last = take n w ++ (last ++ drop (length w - n) (drop n w))

-- the key has been written at a place of e
module _ (key e last : List ℕ) (at : ℕ) (h : is_key key ≡ true) (r : at + 240 ≤ length e) (p : last ≡ over key (take (length e - at) (drop at e))) where
  front : length (take at e) ≡ at
  front = length-take-le at e (omega arith)

  begun : lent e at last ≡ over (take at e ++ key) e
  begun = let k = key-words key h in put_more e (take at e) e at key last (rw front (sym (take-append-drop at e))) front (omega arith) p

  -- a string that covers the key comes to stand in e as if the key had not been written
  over-begun : (s : List ℕ) → length key ≤ length s → over (take at (lent e at last) ++ s) (lent e at last) ≡ over (take at e ++ s) e
  over-begun s l =
      rw (take_at (take at e) (last ++ drop (length e - at) (drop at e)) at front, begun)
      (ap (λ (z : List ℕ). (take at e ++ s) ++ z) (drop_put (take at e ++ key) e (length (take at e ++ s)) (simp length-append (omega arith))))

  pub expand_none : (x : ℕ) → Boxes e → 2048 ≤ at → length (lent e at last) ≡ length e → bytes_of x ≡ word_at key (4 * (length key / 4 - 1)) →
      Turning key (lent e at last) at (length key / 4) (lent e at last) x (record { k = 0; q = 0 }) 0
  unfolding expanded
  expand_none x b t l w =
      let k = key-words key h in
      let words : Expanding key (lent e at last) at (length key / 4) (lent e at last) x 0 = record {
        least = k.least;
        most = k.most;
        behind = t;
        room = omega arith;
        within = omega arith;
        long = refl;
        boxes = boxes_append (boxes-take b at t) _;
        size = k.whole ∙ omega arith;
        so_far = begun ∙ sym (over-begun key (omega arith));
        last = rw add-zero (w ∙ word_bytes key (4 * (length key / 4 - 1)) (omega arith));
      } in
      record {
        words = words;
        place = record { most = k.most; even = k.even; pair = refl; inside = omega arith };
        so_many = omega arith;
        pairs = refl;
      }

  -- all words have been written
  pub expand_all : {w : List ℕ} {x m : ℕ} → Expanding key (lent e at last) at (length key / 4) w x m → 3 * (length key / 4) + 28 ≤ m →
      w ≡ take at e ++ over (key_expansion key) (drop at e)
  unfolding key_expansion
  expand_all {w} {x} {m} v g =
      let k = key-words key h in
      let s = expanded (length key / 4) key m in
      let n : m ≡ 4 * (length key / 4 + 6 + 1) - length key / 4 = omega arith in
      v.so_far ∙ over-begun s (omega arith) ∙ append_assoc (take at e) s _
      ∙ ap (λ (z : List ℕ). take at e ++ (s ++ z)) (rw (length-append (take at e) s, front) (sym (drop-drop (length s) at e)))
      ∙ ap (λ (j : ℕ). take at e ++ over (expanded (length key / 4) key j) (drop at e)) n

module _ {key d : List ℕ} {at nk : ℕ} {w : List ℕ} {x m : ℕ} (v : Expanding key d at nk w x m) where
  ahead : length (take at d) ≡ at
  ahead = length-take-le at d (omega arith)

  -- word m, as it stands
  word_m : word_at w (at + 4 * m) ≡ block 4 (expanded nk key m) m
  word_m =
      let p = take at d in
      let s = expanded nk key m in
      let z = drop (length (p ++ s)) d in
      word_bytes w (at + 4 * m) (omega arith)
      ∙ ap (take 4) (ap₂ drop (ap (λ (k : ℕ). k + 4 * m) (sym ahead)) (v.so_far ∙ append_assoc p s z) ∙ drop-append-add p (s ++ z) (4 * m))
      ∙ block_append 4 s z m (omega arith)

  -- one word more has been written, where the words end
  pub expand_turn : (next : ℕ) (t last : List ℕ) → m < 3 * nk + 28 →
      bytes_of next ≡ xors (word_at w (at + 4 * m)) (temp nk (nk + m) (bytes_of x)) → t ≡ bytes_of next →
      let n = at + 4 * (nk + m) in
      last ≡ over t (take (length w - n) (drop n w)) → length (lent w n last) ≡ length w → Expanding key d at nk (lent w n last) next (m + 1)
  unfolding expanded
  expand_turn next t last h e et el ln =
      let p = take at d in
      let s = expanded nk key m in
      let b = bytes_of next in
      let n : b ≡ next_word nk (nk + m) s =
      e ∙ ap₂ xors (word_m ∙ ap (block 4 s) {x = m} {y = nk + m - nk} (omega arith)) (ap (temp nk (nk + m)) v.last) in
      record {
        least = v.least;
        most = v.most;
        behind = v.behind;
        room = v.room;
        within = omega arith;
        long = ln ∙ v.long;
        boxes = boxes_append (boxes-take v.boxes (at + 4 * (nk + m)) (omega arith)) _;
        size = rw (add-one m, ← n) (length-append s b ∙ omega arith);
        so_far =
            rw (add-one m, ← n)
            (put_more d (p ++ s) w (at + 4 * (nk + m)) b last v.so_far (length-append p s ∙ omega (arith, ahead)) (omega arith) (rw et at el)
            ∙ ap (λ (z : List ℕ). over z d) (append_assoc p s b));
        last = rw (add-one m, ← n) (sym (ap (take 4) (drop_at s b (4 * (nk + suc m - 1)) (v.size ∙ omega arith))));
      }

module _ {key d : List ℕ} {at nk : ℕ} {w : List ℕ} {x : ℕ} {p : Place} {m : ℕ} (v : Turning key d at nk w x p m) where
  -- q is the power of x in Rcon
  pub few : m < 3 * nk + 28 → p.q < 10
  few h = lt_of_mul-lt-mul_left nk (omega arith)

  pub room_for_two : m < 3 * nk + 28 → m + 1 < 3 * nk + 28
  room_for_two h = let l : m / 2 < 3 * (nk / 2) + 14 = omega arith in omega arith

  pub fits-two : m < 3 * nk + 28 → m + 2 < 54
  fits-two h = omega arith

  -- the second word of a turn is not a special one
  pub second : (t : List ℕ) → temp nk (nk + (m + 1)) t ≡ t
  second t =
      let e : nk + (m + 1) ≡ nk + (nk * p.q + (p.k + 1)) = omega arith in
      let r : (nk + (m + 1)) % nk ≡ p.k + 1 = rw e (remainder_is nk p.q (p.k + 1) (omega arith)) in
      temp_other nk (nk + (m + 1)) t (λ h. omega arith) (λ h. omega arith)

  -- two words more have been written
  pub turned : {w' : List ℕ} {x' : ℕ} {p' : Place} → (i : ℕ) → m ≡ 2 * i → Expanding key d at nk w' x' (m + 1 + 1) → Paired nk p' → passed nk p' ≡ passed nk p + 2 →
      Turning key d at nk w' x' p' (2 * (i + 1))
  turned i h e a n = let s : 2 * (i + 1) ≡ m + 1 + 1 = omega arith in record { words = rw s e; place = a; so_many = omega arith; pairs = omega arith }

  -- the key words are even in number, so the last turn ends with the last word
  pub ended : (i : ℕ) → m ≡ 2 * i → (3 * nk + 28) / 2 ≤ i → 3 * nk + 28 ≤ m
  ended i e h = let n : nk % 2 ≡ 0 = v.place.even in omega arith

  pub begun_turn : (i : ℕ) → m ≡ 2 * i → i < (3 * nk + 28) / 2 → m < 3 * nk + 28
  begun_turn i e h = omega arith
