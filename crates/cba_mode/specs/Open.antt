-- DEC of document 002, over any block cipher E with inverse D, any τ and b.
-- Assumes nothing.
use Rattle.std.specs.Prelude.{◌≡◌, Bool, true, false, not, cond, List, [], ◌++◌, ℕ, zero, suc, ◌-◌, ◌*◌, ◌/◌, ltb, length, take, drop, replicate}
use Rattle.octets.specs.Strings.{eqs}
use Rattle.octets.specs.Xor.{xors}
use Rattle.octets.specs.Blocks.{block}
use Rattle.cba_mode.specs.Sets.{tag_bytes, ell}
use Rattle.cba_mode.specs.Offsets.{F, offset, pad, last_bytes, but_last}
use Rattle.cba_mode.specs.Data.{tag_of_data}
use Rattle.cba_mode.specs.Forms.{Form, full_blocks, open_form}
use Rattle.cba_mode.specs.Forms.Form.{short, joined, separate}
use Rattle.cba_mode.specs.Seal.{checksum, Δ₀, masked, short_tag, T, last_block, separate_tag}

-- a message, or ⊥
pub data Opened : Type 0 where
  opened : List ℕ → Opened
  refused : Opened

-- no message seals to it, as DEC tells
unfoldable pub is_false : Opened → Bool
is_false (opened M) = false
is_false refused = true

unfoldable pub message_of : Opened → List ℕ
message_of (opened M) = M
message_of refused = []

-- what DEC has before it decides: the message, and two tags, which must be the same
pub record Attempt : Type 0 where
  pub message : List ℕ
  pub tag : List ℕ
  pub tag' : List ℕ

unfoldable pub verified : Attempt → Bool
verified a = eqs a.tag a.tag'

-- the message where the tags are the same, else ⊥
unfoldable pub check : Attempt → Opened
check a = cond (verified a) (opened a.message) refused

-- a first part of the message, found before the rest of it
unfoldable pub after : List ℕ → Attempt → Attempt
after M a = record { message = M ++ a.message; tag = a.tag; tag' = a.tag' }

-- what the code of an attempt answers, r, and leaves of out, d being out before: the message over the first n bytes
abbrev pub Tried : Attempt → ℕ → Bool → List ℕ → List ℕ → Type 0
Tried a n r d out = (r ≡ verified a) × (out ≡ a.message ++ drop n d)

-- what the code of DEC answers and leaves of out: the message over the first n bytes, or zeros
abbrev pub Answered : Opened → ℕ → Bool → List ℕ → List ℕ → Type 0
Answered o n r d out = (r ≡ not (is_false o)) × (out ≡ cond r (message_of o) (replicate n 0) ++ drop n d)

module _ (E D : List ℕ → List ℕ) where
  -- M_1 .. M_i: Δ becomes F_{2,2}(Δ), M_i = D(C_i ⊕ Δ) ⊕ Δ
  unfoldable pub plain_blocks : List ℕ → List ℕ → ℕ → List ℕ
  plain_blocks Δ C' zero = []
  plain_blocks Δ C' (suc i) = plain_blocks Δ C' i ++ xors (D (xors (block 16 C' i) (offset Δ (suc i)))) (offset Δ (suc i))

  -- the first k blocks of C', then the rest by what ends the form, which takes Δ and S after them
  unfoldable pub from_blocks : (List ℕ → List ℕ → List ℕ → Attempt) → List ℕ → List ℕ → ℕ → Attempt
  from_blocks end Δ C' k = let Ms = plain_blocks Δ C' k in after Ms (end (offset Δ k) (checksum Ms k) (drop (16 * k) C'))

  -- M_{m−1} = C'_m ⊕ S ⊕ E(pad(C'_{m−1}) ⊕ Δ'), Δ' = F_{6,6}(Δ)
  unfoldable pub joined_plain : List ℕ → List ℕ → List ℕ → List ℕ → List ℕ
  joined_plain Δ S C₁ Cm = xors (xors Cm S) (E (xors (pad C₁) (F 6 6 Δ)))

  -- M_m T' = C'_{m−1} ⊕ MSB(E(M_{m−1} ⊕ F_{2,2}(Δ)))
  unfoldable pub joined_rest : List ℕ → List ℕ → List ℕ → List ℕ
  joined_rest Δ C₁ M₁ = xors C₁ (take (length C₁) (E (xors M₁ (F 2 2 Δ))))

  module _ (τ : ℕ) where
    -- M_{m−1} M_m from C'_{m−1} C'_m; T' must be T
    unfoldable pub joined_attempt : List ℕ → List ℕ → List ℕ → List ℕ → Attempt
    joined_attempt Tag Δ S C' =
        let C₁ = but_last 16 C' in
        let M₁ = joined_plain Δ S C₁ (last_bytes 16 C') in
        let MmT = joined_rest Δ C₁ M₁ in
        record { message = M₁ ++ but_last (tag_bytes τ) MmT; tag = last_bytes (tag_bytes τ) MmT; tag' = Tag }

    -- M_m from C_m, and the tag after it
    unfoldable pub separate_attempt : List ℕ → List ℕ → List ℕ → List ℕ → Attempt
    separate_attempt Tag Δ S C' =
        let Mm = last_block E Δ Tag (but_last (tag_bytes τ) C') in
        record { message = Mm; tag = last_bytes (tag_bytes τ) C'; tag' = separate_tag E τ Δ Tag S Mm }

  module _ (τ b : ℕ) where
    -- the attempt in each form; the number of blocks before the end is m − 2, or 0 where m = 1
    unfoldable pub attempt : Form → List ℕ → List ℕ → List ℕ → Attempt
    attempt short N Ta C =
        let C₀ = but_last (tag_bytes τ) C in
        record { message = masked E τ b N C₀; tag = last_bytes (tag_bytes τ) C; tag' = short_tag E τ b N Ta C₀ }
    attempt joined N Ta C =
        let l = ell τ b / 8 in
        let C₀ = take l C in
        after (masked E τ b N C₀) (from_blocks (joined_attempt τ (T τ Ta C₀)) (Δ₀ E τ b N) (drop l C) (full_blocks l (length C) - 1))
    attempt separate N Ta C =
        let l = ell τ b / 8 in
        let C₀ = take l C in
        after (masked E τ b N C₀) (from_blocks (separate_attempt τ (T τ Ta C₀)) (Δ₀ E τ b N) (drop l C) (full_blocks l (length C) - 1))

    -- DEC after its first step
    unfoldable pub open_with : List ℕ → List ℕ → List ℕ → Opened
    open_with N Ta C = cond (ltb (length C) (tag_bytes τ)) refused (check (attempt (open_form (ell τ b / 8) (tag_bytes τ) (length C)) N Ta C))

    -- DEC(K, N, A, C): T_A is H(K, A)
    abbrev pub DEC : List ℕ → List ℕ → List ℕ → Opened
    DEC N A C = open_with N (tag_of_data E τ b A) C
