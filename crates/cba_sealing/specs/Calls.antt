-- What the functions of sealing require and leave. d is the output at entry and out at exit; sum is the sum whose first t bytes are T_A.
-- Assumes nothing.
use Rattle.std.specs.Prelude.{◌≡◌, Bool, cond, List, ◌++◌, ℕ, zero, suc, ◌+◌, ◌*◌, ◌/◌, ◌≤◌, length, take, drop}
use Rattle.octets.specs.Xor.{xors}
use Rattle.octets.specs.Blocks.{block}
use Rattle.fips197.specs.Cipher.{cipher}
use Rattle.aes_schedule.specs.Words.{block_of}
use Rattle.aes.specs.declared.pairs.Pair.{Pair}
use Rattle.cba_mode.specs.Sets.{Fits, ell, tag_bytes}
use Rattle.cba_mode.specs.Offsets.{F, offset, pad, leading}
use Rattle.cba_mode.specs.Seal.{checksum, cipher_blocks, Δ₀, masked, joined_block, joined_end, joined_tail, last_block, last_offset, separate_tail, seal_with}
use Rattle.cba_steps.specs.declared.parameters.Parameters.{Parameters}
use Rattle.cba_steps.specs.declared.endings.Ending.{Ending}
use Rattle.cba_steps.specs.declared.endings.Ending.TheVariants.{Joined, Separate}
use Rattle.cba_steps.specs.declared.offsets.Halves.{Halves}
use Rattle.cba_steps.specs.Halves.{halves_of}
use Rattle.cba_sealing.specs.declared.begin.Begun.{Begun}
use Rattle.cba_sealing.specs.declared.blocks.Running.{Running}

-- ---- what every form requires

-- parameters that fit, and a nonce
pub record Given (p : Parameters) (N : List ℕ) : Type 0 where
  pub fits : Fits p.tau p.capacity
  pub nonce : length N ≡ 12

-- and room for the sealing of M
pub record Seals (p : Parameters) (N M d : List ℕ) : Type 0 where
  pub given : Given p N
  pub room : length M + tag_bytes p.tau ≤ length d

-- ---- parts

-- ℓ in bytes
abbrev pub first_bytes : Parameters → ℕ
first_bytes p = ell p.tau p.capacity / 8

-- T_A
abbrev pub data_tag : Parameters → List ℕ → List ℕ
data_tag p sum = take (tag_bytes p.tau) sum

-- a string plus the bytes of a block from a place on
abbrev pub masked_by : ℕ → List ℕ → List ℕ → List ℕ
masked_by at block s = xors s (take (length s) (drop at block))

-- what every form begins with: the first offset, T_A with zeros before it, and C_0 from M_0, or M_0 from C_0
pub record Covered (key : List ℕ) (p : Parameters) (N sum s d : List ℕ) (b : Begun) (out : List ℕ) : Type 0 where
  pub offset-is : halves_of b.offset ≡ Δ₀ (cipher key) p.tau p.capacity N
  pub data_is : b.data ≡ leading 16 (data_tag p sum)
  pub data_size : length (data_tag p sum) ≡ tag_bytes p.tau
  pub written : out ≡ masked (cipher key) p.tau p.capacity N s ++ drop (length s) d

-- E(M ⊕ Δ) ⊕ Δ
abbrev pub through : (List ℕ → List ℕ) → List ℕ → List ℕ → List ℕ
through E Δ M = xors (E (xors M Δ)) Δ

-- the same of two blocks, each with its own offset
pub record Through (E : List ℕ → List ℕ) (Δ₁ Δ₂ : List ℕ) (m r : Pair) : Type 0 where
  pub first : block_of r.x ≡ through E Δ₁ (block_of m.x)
  pub second : block_of r.y ≡ through E Δ₂ (block_of m.y)

-- S plus the first n blocks of M
unfoldable pub summed : List ℕ → List ℕ → ℕ → List ℕ
summed S M zero = S
summed S M (suc n) = xors (summed S M n) (block 16 M n)

-- after k full blocks of M through the block function E: the offset, the sum σ, and the blocks over d
pub record Passed (E : List ℕ → List ℕ) (σ Δ M d : List ℕ) (k : ℕ) (r : Running) (out : List ℕ) : Type 0 where
  pub offset-is : halves_of r.offset ≡ offset Δ k
  pub sum_is : block_of r.sum ≡ σ
  pub written : out ≡ cipher_blocks E Δ M k ++ drop (16 * k) d

-- the first k blocks of M through E, of which b says whether they are the message's: if not, those that come out are
abbrev pub Blocks : (List ℕ → List ℕ) → Bool → Halves → List ℕ → List ℕ → ℕ → Running → List ℕ → Type 0
Blocks E b start M d k r out =
    let Δ = halves_of start in
    Passed E (checksum (cond b M (cipher_blocks E Δ M k)) k) Δ M d k r out

-- the first n blocks of M, after those that left s
abbrev pub More : (List ℕ → List ℕ) → Bool → Running → List ℕ → List ℕ → ℕ → Running → List ℕ → Type 0
More E b s M d n r out =
    let Δ = halves_of s.offset in
    Passed E (summed (block_of s.sum) (cond b M (cipher_blocks E Δ M n)) n) Δ M d n r out

-- C_{m−1} of the joined form
abbrev pub JoinedBlock : List ℕ → Halves → List ℕ → List ℕ → List ℕ → List ℕ → List ℕ → Type 0
JoinedBlock key h Tag m last d out = out ≡ joined_block (cipher key) (halves_of h) m (last ++ Tag) ++ drop (length last + length Tag) d

-- C_{m−1} C_m of the joined form, from M_{m−1} M_m
abbrev pub JoinedEnd : List ℕ → List ℕ → Running → List ℕ → List ℕ → List ℕ → Type 0
JoinedEnd key Tag s rest d out =
    out ≡ joined_end (cipher key) (F 2 2 (halves_of s.offset)) (xors (block_of s.sum) (take 16 rest)) (take 16 rest) (drop 16 rest ++ Tag)
    ++ drop (length rest + length Tag) d

-- C_m of the separate form, or M_m from it
abbrev pub LastBlock : List ℕ → Halves → List ℕ → List ℕ → List ℕ → List ℕ → Type 0
LastBlock key h Tag last d out = out ≡ last_block (cipher key) (halves_of h) Tag last ++ drop (length last) d

-- the block whose first t bytes are C_{m+1} of the separate form
abbrev pub tag_block : (List ℕ → List ℕ) → List ℕ → List ℕ → List ℕ → List ℕ → List ℕ
tag_block E Δ Tag S Mm = E (xors (xors (xors S (pad Mm)) (leading 16 Tag)) (last_offset Δ (length Mm)))

-- C_m C_{m+1} of the separate form
abbrev pub SeparateEnd : List ℕ → List ℕ → Running → List ℕ → List ℕ → List ℕ → Type 0
SeparateEnd key Tag s last d out =
    out ≡ (last_block (cipher key) (halves_of s.offset) Tag last ++ take (length Tag) (tag_block (cipher key) (halves_of s.offset) Tag (block_of s.sum) last))
    ++ drop (length last + length Tag) d

-- what follows C_0
unfoldable pub tail_as : Ending → (List ℕ → List ℕ) → List ℕ → List ℕ → List ℕ → List ℕ
tail_as (Joined k) E Δ Tag M' = joined_tail E Δ Tag M' k
tail_as (Separate k) E Δ Tag M' = separate_tail E (8 * length Tag) Δ Tag M' k

abbrev pub Tail : List ℕ → Ending → List ℕ → Halves → List ℕ → List ℕ → List ℕ → Type 0
Tail key e Tag h M' d out = out ≡ tail_as e (cipher key) (halves_of h) Tag M' ++ drop (length M' + length Tag) d

-- ---- the whole

-- ENC, given T_A
abbrev pub Enc : List ℕ → Parameters → List ℕ → List ℕ → List ℕ → List ℕ → List ℕ → Type 0
Enc key p N sum M d out =
    out ≡ seal_with (cipher key) p.tau p.capacity N (data_tag p sum) M ++ drop (length M + tag_bytes p.tau) d
