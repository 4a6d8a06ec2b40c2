-- What a call that uses a key holds of it, and what the calls answer.
-- Assumes nothing.
use Rattle.std.specs.Prelude.{◌≡◌, true, cond, List, ◌++◌, ℕ, ◌≤◌, eqb, drop, replicate}
use Rattle.octets.specs.Strings.{over}
use Rattle.aes_tables.specs.Round.{forward, inverses}
use Rattle.fips197.specs.Schedule.{is_key, key_expansion}
use Rattle.fips197.specs.Equivalent.{key_expansion_eic}

-- a schedule, in 240 bytes
unfoldable pub held : List ℕ → List ℕ
held w = over w (replicate 240 0)

-- tables, with no key
abbrev pub blank_of : List ℕ → List ℕ
blank_of tables = tables ++ replicate 240 0

-- Tables, and a schedule w of the key. Nothing outside this crate looks inside.
pub record Holds (tables w key ctx : List ℕ) : Type 0 where
  pub good : is_key key ≡ true
  pub context : ctx ≡ tables ++ held w

-- what E under a key reads, in 2,288 bytes, and what D reads, in 2,544, whose schedule is EqInvCipher's
abbrev pub Encrypts : List ℕ → List ℕ → Type 0
Encrypts key ctx = Holds forward (key_expansion key) key ctx

abbrev pub Decrypts : List ℕ → List ℕ → Type 0
Decrypts key inv = Holds inverses (key_expansion_eic key) key inv

-- the schedule that stands at a place: E's behind its table, D's behind its own tables
abbrev pub schedule_at : ℕ → List ℕ → List ℕ
schedule_at at key = cond (eqb at 2048) (key_expansion key) (key_expansion_eic key)

pub record KeysAt (at : ℕ) (key ctx : List ℕ) : Type 0 where
  pub good : is_key key ≡ true
  pub within : at ≤ 2304
  pub stand : drop at ctx ≡ held (schedule_at at key)

-- the answer to a call with a key: 0, or 2 where it has none of the three lengths
unfoldable pub answer : List ℕ → ℕ
answer key = cond (is_key key) 0 2

-- the block after a call: under E or D of the key, or as it was where the answer is 2
unfoldable pub answered : (List ℕ → List ℕ → List ℕ) → List ℕ → List ℕ → List ℕ
answered f key s = cond (is_key key) (f key s) s
