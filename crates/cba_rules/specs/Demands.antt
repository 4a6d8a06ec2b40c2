-- The three demands on plain sealing and plain opening, as statements about what the two calls answer, r, and leave in the output at
-- exit, out'. A call's contract is `SealCall` or `OpenCall` of specs/Refusals, and each statement begins there.
-- Assumes nothing.
use Rattle.std.specs.Prelude.{◌≡◌, true, List, ◌++◌, ◌⊎◌, ℕ, ◌+◌, ◌-◌, ◌^◌, ◌≤◌, eqb, length, take, drop, replicate}
use Rattle.octets.specs.Strings.{Bytes, Octets}
use Rattle.octets.specs.Count.{count}
use Rattle.fips197.specs.Cipher.{cipher, inv_cipher}
use Rattle.cba_mode.specs.Sets.{is_set, key_bytes, tag_bits, capacity}
use Rattle.cba_mode.specs.Seal.{ENC}
use Rattle.cba_mode.specs.Open.{DEC, is_false}
use Rattle.cba_mode.specs.Open.Opened.{opened, refused}
use Rattle.answers.specs.Rows.{Decides}
use Rattle.cba_rules.specs.Checks.{set_tag, seal_rows, open_rows}
use Rattle.cba_rules.specs.Refusals.{sealing, opening, open_answer, SealCall, OpenCall}

-- ---- Demand 1: every bad input refused by its own number, in a fixed order, every other call accepted, and what each refusal leaves
--
-- Here it is of the plain calls, with the numbers 1 to 8. Of every other call it stands in that call's theorems, likewise by `Decides` over
-- its rows and by what a refusal leaves:
--   a ledger's calls, with 9, 10, 12 and 13   `LedgerTheorems` of ledger_rules: making, sealing, keeping, carrying; refused, unmade
--   a receiver's, with 12 and 15              `ReceiverTheorems` of receiver_rules: making, opens; leaves, unmade
--   making and checking a mark, with 14       `MarkTheorems` of cmac_rules: makes, checks
--   a line of the hub, with 11                `LineTheorems` of hub_rules: decides; seals, opens

-- an answer r by the rows, and what is left of the output
pub record SealRefusals (set : ℕ) (key N A M out : List ℕ) (r : ℕ) (out' : List ℕ) : Type 0 where
  pub decides : Decides (seal_rows set (length key) (length N) (length A) (length M) (length out)) r
  -- every refusal writes nothing
  pub untouched : (r ≡ 0 → ⊥) → out' ≡ out

pub record OpenRefusals (set : ℕ) (key N A C out : List ℕ) (r : ℕ) (out' : List ℕ) : Type 0 where
  pub decides : Decides (open_rows set (length key) (length N) (length A) (length C) (length out) (is_false (opening set key N A C))) r
  -- every refusal but 8 writes nothing; 8 writes zeros over the first c − t bytes and leaves the others
  pub untouched : (r ≡ 0 → ⊥) → (r ≡ 8 → ⊥) → out' ≡ out
  pub zeros : r ≡ 8 → out' ≡ replicate (length C - set_tag set) 0 ++ drop (length C - set_tag set) out

pub record Demand1 : Type 0 where
  pub seals : (set : ℕ) (key N A M out : List ℕ) (r : ℕ) (out' : List ℕ) → SealCall set key N A M out r out' → SealRefusals set key N A M out r out'
  pub opens : (set : ℕ) (key N A C out : List ℕ) (r : ℕ) (out' : List ℕ) → OpenCall set key N A C out r out' → OpenRefusals set key N A C out r out'

-- ---- Demand 2: an accepted call gives what ENC and DEC of v1-1 give over AES, with the set's τ and b, and changes no byte beyond it

-- strings of bytes, as every slice is
pub record AllBytes (key N A text : List ℕ) : Type 0 where
  pub key-bytes : Bytes key
  pub nonce-bytes : Bytes N
  pub data_bytes : Bytes A
  pub text-bytes : Bytes text

pub record Demand2 : Type 0 where
  pub seals : (set : ℕ) (key N A M out : List ℕ) (r : ℕ) (out' : List ℕ) → AllBytes key N A M → SealCall set key N A M out r out' → r ≡ 0 →
      out' ≡ ENC (cipher key) (tag_bits set) (capacity set) N A M ++ drop (length M + set_tag set) out
  -- the message is the first c − t bytes
  pub opens : (set : ℕ) (key N A C out : List ℕ) (r : ℕ) (out' : List ℕ) → AllBytes key N A C → OpenCall set key N A C out r out' → r ≡ 0 →
      let n = length C - set_tag set in
      (DEC (cipher key) (inv_cipher key) (tag_bits set) (capacity set) N A C ≡ opened (take n out')) × (drop n out' ≡ drop n out)
  pub refuses : (set : ℕ) (key N A C out : List ℕ) (r : ℕ) (out' : List ℕ) → OpenCall set key N A C out r out' → r ≡ 8 →
      DEC (cipher key) (inv_cipher key) (tag_bits set) (capacity set) N A C ≡ refused

-- ---- Demand 3: how many strings open, to what, and which are refused as false

-- a set, a key and a nonce of its lengths, and data within the limit
pub record Given (set : ℕ) (key N A : List ℕ) : Type 0 where
  pub is-set : is_set set ≡ true
  pub its_key : Octets (key_bytes set) key
  pub its_nonce : Octets 12 N
  pub its_data : Bytes A
  pub data_limit : length A ≤ 4096

-- any string of 0 to 65,536 bytes
pub record Message (M : List ℕ) : Type 0 where
  pub bytes : Bytes M
  pub limit : length M ≤ 65536

-- what is said of one string C of c bytes
pub record Decided (set : ℕ) (key N A C : List ℕ) (n r : ℕ) (out' : List ℕ) : Type 0 where
  -- (b) if it opens, the first c − t bytes of the output are a message, it is the message's sealing, and no other message's
  pub message : r ≡ 0 → Message (take n out')
  pub its_sealing : r ≡ 0 → sealing set key N A (take n out') ≡ C
  pub no_other : r ≡ 0 → (M : List ℕ) → Message M → sealing set key N A M ≡ C → M ≡ take n out'
  -- (c) it is refused as false exactly when no message seals to it, and else it opens
  pub false-none : r ≡ 8 → (M : List ℕ) → Message M → sealing set key N A M ≡ C → ⊥
  pub none-false : ((M : List ℕ) → Message M → sealing set key N A M ≡ C → ⊥) → r ≡ 8
  pub no_third : (r ≡ 0) ⊎ (r ≡ 8)

-- for every set, key, nonce and data, every length c from t to 65,536 + t and every output of at least c − t bytes
pub record Demand3 : Type 0 where
  -- (a) the number of strings of c bytes that open
  pub counted : (set : ℕ) (key N A : List ℕ) → Given set key N A → (c : ℕ) → set_tag set ≤ c → c ≤ 65536 + set_tag set →
      (out : List ℕ) → c - set_tag set ≤ length out → count c (λ C. eqb (open_answer set key N A C out) 0) ≡ 256 ^ (c - set_tag set)
  -- (b) and (c)
  pub decided : (set : ℕ) (key N A : List ℕ) → Given set key N A → (c : ℕ) → set_tag set ≤ c → c ≤ 65536 + set_tag set →
      (out : List ℕ) → c - set_tag set ≤ length out → (C : List ℕ) → Octets c C →
      (r : ℕ) (out' : List ℕ) → OpenCall set key N A C out r out' → Decided set key N A C (c - set_tag set) r out'

-- The statement speaks of the calls: the sealing of a message is what plain sealing, which accepts it, writes, and the strings that
-- are counted are those that plain opening answers with 0.
pub record Speaks : Type 0 where
  pub seals : (set : ℕ) (key N A M : List ℕ) → Given set key N A → Message M → (out : List ℕ) → length M + set_tag set ≤ length out →
      (r : ℕ) (out' : List ℕ) → SealCall set key N A M out r out' → (r ≡ 0) × (take (length M + set_tag set) out' ≡ sealing set key N A M)
  pub opens : (set : ℕ) (key N A C out : List ℕ) (r : ℕ) (out' : List ℕ) → OpenCall set key N A C out r out' →
      eqb (open_answer set key N A C out) 0 ≡ eqb r 0
