-- The context as it is made, and as the rounds read it.
-- Assumes nothing.
use mathlib.Core.Path.{◌≡◌, refl, ap, ap₂, ◌∙◌}
use mathlib.Core.Bool.{true, false}
use mathlib.Core.List.{List, ◌++◌, append_assoc}
use Prim.Native.Nat.{ℕ, suc, ◌+◌, ◌-◌, ◌*◌, ◌<◌, ◌≤◌}
use native.Mathlib.Omega.{arith}
use lib.Dec.{eqb}
use lib.ListN.{length, take, drop, replicate, length-append, length-drop}
use lib.Seq.{take_at, drop_at}
use Rattle.octets.specs.Strings.{Bytes, table, over}
use Rattle.octets.proofs.Strings.{length-table}
use Rattle.field.specs.SBox.{inv_s_box}
use Rattle.aes_tables.specs.Round.{entry, inverse_entry, entries, forward, inverses}
use Rattle.aes_tables.proofs.RoundLaws.{length-entry, length-inverse_entry, length-entries}
use Rattle.fips197.specs.Schedule.{is_key, key_expansion}
use Rattle.fips197.specs.Equivalent.{key_expansion_eic}
use Rattle.fips197.specs.Cipher.{key_rounds}
use Rattle.fips197.proofs.ScheduleLaws.{key-words, key_expansion-octets}
use Rattle.fips197.proofs.EquivalentLaws.{either_size}
use Rattle.fips197.proofs.Equivalent.{length_EIC}
use Rattle.aes_schedule.specs.Boxes.{Boxes}
use Rattle.aes_schedule.proofs.ExpandLaws.{boxes_append}
use Rattle.aes.specs.Tables.{Entries}
use Rattle.aes.proofs.TableLaws.{entry-boxes, table-entries}
use Rattle.aes.specs.Context.{held, blank_of, Holds, Encrypts, Decrypts, schedule_at, KeysAt, answer, answered}

pub length-forward : length forward ≡ 2048
length-forward = length-entries entry length-entry 0 256

pub length-inverses : length inverses ≡ 2304
length-inverses =
    length-append (entries inverse_entry 0 256) (table inv_s_box 256)
    ∙ omega (arith, length-entries inverse_entry length-inverse_entry 0 256, length-table inv_s_box 256)

-- a string of two parts, cut between them
cut : (s p q : List ℕ) (n : ℕ) → s ≡ p ++ q → length p ≡ n → (take n s ≡ p) × (drop n s ≡ q)
cut s p q n e l = (ap (take n) e ∙ take_at p q n l, ap (drop n) e ∙ drop_at p q n l)

pub blank_long : (tables : List ℕ) (n : ℕ) (ctx : List ℕ) → length tables ≡ n → ctx ≡ blank_of tables → length ctx ≡ n + 240
blank_long tables n ctx l e = ap length e ∙ length-append tables (replicate 240 0) ∙ omega arith

-- the S-box in the context with no key, and the context after its schedule is written
pub blank_boxes : (ctx : List ℕ) → ctx ≡ blank_of forward → Boxes ctx
blank_boxes ctx e = rw e (boxes_append (entry-boxes (table-entries entry length-entry forward refl)) (replicate 240 0))

pub encrypts-made : (key ctx last : List ℕ) → is_key key ≡ true → ctx ≡ blank_of forward → last ≡ take 2048 ctx ++ over (key_expansion key) (drop 2048 ctx) → Encrypts key last
unfolding held
encrypts-made key ctx last h e p =
    let q = cut ctx forward (replicate 240 0) 2048 e length-forward in
    record { good = h; context = p ∙ ap₂ (λ (s d : List ℕ). s ++ over (key_expansion key) d) q.0 q.1 }

module _ (tables w key ctx : List ℕ) (h : Holds tables w key ctx) (n : ℕ) (l : length tables ≡ n) where
  parts : (take n ctx ≡ tables) × (drop n ctx ≡ held w)
  parts = cut ctx tables (held w) n h.context l

  pub holds-long : n ≤ length ctx
  holds-long = omega (arith, ap length h.context, length-append tables (held w))

-- the schedule behind the tables of each context
pub encrypts_keys : (key ctx : List ℕ) → Encrypts key ctx → KeysAt 2048 key ctx
encrypts_keys key ctx h = record { good = h.good; within = omega arith; stand = (parts forward _ key ctx h 2048 length-forward).1 }

pub decrypts_keys : (key inv : List ℕ) → Decrypts key inv → KeysAt 2304 key inv
decrypts_keys key inv h = record { good = h.good; within = omega arith; stand = (parts inverses _ key inv h 2304 length-inverses).1 }

pub length-schedule : (at : ℕ) (key : List ℕ) → Bytes key → is_key key ≡ true → length (schedule_at at key) ≡ 16 * suc (key_rounds key)
length-schedule at key b h = either_size (eqb at 2048) (key_expansion key) (key_expansion_eic key) ((key_expansion-octets key b (key-words key h)).size ∙ omega arith) (length_EIC key b h)

-- a key that is good, and one that is not
pub answer-good : (key : List ℕ) → is_key key ≡ true → 0 ≡ answer key
unfolding answer
answer-good key h = rw h

pub answer_bad : (key : List ℕ) → is_key key ≡ false → 2 ≡ answer key
unfolding answer
answer_bad key h = rw h

pub answered-good : (f : List ℕ → List ℕ → List ℕ) (key s : List ℕ) → is_key key ≡ true → answered f key s ≡ f key s
unfolding answered
answered-good f key s h = rw h

pub answered_bad : (f : List ℕ → List ℕ → List ℕ) (key s : List ℕ) → is_key key ≡ false → answered f key s ≡ s
unfolding answered
answered_bad f key s h = rw h

-- ---- the parts that the rounds read

pub context-table : (key ctx : List ℕ) → Encrypts key ctx → Entries entry (take 2048 ctx)
context-table key ctx h = table-entries entry length-entry _ (parts forward _ key ctx h 2048 length-forward).0

-- a schedule of n bytes
pub context_keys : (key ctx : List ℕ) (at : ℕ) → KeysAt at key ctx → (n : ℕ) → 0 < n → n ≡ length (schedule_at at key) →
    (take (at + n - at) (drop at ctx) ≡ schedule_at at key) × (at + n ≤ length ctx)
unfolding held
context_keys key ctx at h n some e =
    let w = schedule_at at key in
    let m : at + n - at ≡ length w = omega arith in
    let long : length w ≤ length ctx - at =
    omega (arith, ap length h.stand, length-append w (drop (length w) (replicate 240 0)), length-drop at ctx) in
    (ap (λ (k : ℕ). take k (drop at ctx)) m ∙ (cut (drop at ctx) w _ (length w) h.stand refl).0, omega arith)

-- the tables of decryption, and what stands behind them
module _ (inv rest : List ℕ) (e : inv ≡ inverses ++ rest) where
  behind : (take 2048 inv ≡ entries inverse_entry 0 256) × (drop 2048 inv ≡ table inv_s_box 256 ++ rest)
  behind =
      cut inv (entries inverse_entry 0 256) (table inv_s_box 256 ++ rest) 2048 (e ∙ append_assoc (entries inverse_entry 0 256) (table inv_s_box 256) rest)
      (length-entries inverse_entry length-inverse_entry 0 256)

  pub inverse-first : Entries inverse_entry (take 2048 inv)
  inverse-first = table-entries inverse_entry length-inverse_entry _ behind.0

  pub inverse-second : take 256 (drop 2048 inv) ≡ table inv_s_box 256
  inverse-second = (cut (drop 2048 inv) (table inv_s_box 256) rest 256 behind.1 (length-table inv_s_box 256)).0
