-- An attempt at opening undoes a sealing, part by part: the last blocks of each form, the full blocks before them, C_0.
-- Assumes nothing.
use mathlib.Core.Path.{◌≡◌, refl, sym, ap, ap₂, subst, ◌∙◌}
use mathlib.Core.Bool.{true}
use mathlib.Core.List.{List, ◌++◌, append_assoc}
use Prim.Native.Nat.{ℕ, zero, suc, ◌+◌, ◌-◌, ◌*◌, ◌≤◌}
use native.Mathlib.Nat.{mul-suc}
use native.Mathlib.Omega.{arith}
use lib.Dec.{T}
use lib.ListN.{length, take, drop, take-append-drop, length-append, length-take}
use lib.Seq.{take_at, drop_at, take-add}
use Rattle.octets.specs.Strings.{Bytes, Octets, eqs}
use Rattle.octets.specs.Xor.{xors}
use Rattle.octets.specs.Blocks.{block}
use Rattle.octets.proofs.Tests.{eqs→eq, eqs-same}
use Rattle.octets.proofs.Xor.{xors-comm, xors-cancel}
use Rattle.octets.proofs.Blocks.{block_append}
use Rattle.cba_mode.specs.Offsets.{offset, last_bytes, but_last}
use Rattle.cba_mode.specs.Seal.{checksum, cipher_blocks}
use Rattle.cba_mode.specs.Open.{Attempt, verified, after, plain_blocks, from_blocks}
use Rattle.cba_mode.specs.RoundTrip.{BlockCipher}
use Rattle.cba_mode.proofs.OffsetLaws.{xors-octets, append_octets, take-octets, drop-octets, offset-octets}
use Rattle.cba_mode.proofs.SealLaws.{block-octets, checksum-octets, cipher_blocks-octets, whitened}

-- On messages of n bytes, and ciphertexts of t more: an attempt at a sealing is verified and has its message, and what is verified
-- is the sealing of the attempt's message.
pub record Undoes (n t : ℕ) (seal : List ℕ → List ℕ) (try : List ℕ → Attempt) : Type 0 where
  pub sealed : (M : List ℕ) → Octets n M → Octets (n + t) (seal M)
  pub message-back : (M : List ℕ) → Octets n M → (try (seal M)).message ≡ M
  pub verified-back : (M : List ℕ) → Octets n M → verified (try (seal M)) ≡ true
  pub message-octets : (C : List ℕ) → Octets (n + t) C → Octets n (try C).message
  pub sealing-back : (C : List ℕ) → Octets (n + t) C → verified (try C) ≡ true → seal (try C).message ≡ C

-- the tags of a verified attempt are the same
pub tags-same : (a : Attempt) → verified a ≡ true → a.tag ≡ a.tag'
unfolding verified
tags-same a h = eqs→eq a.tag a.tag' (subst T (sym h) tt)

pub same-tags : (a : Attempt) → a.tag ≡ a.tag' → verified a ≡ true
unfolding verified
same-tags a e = ap (λ (s : List ℕ). eqs s a.tag') e ∙ eqs-same a.tag'

-- a first part of the message changes no tag
pub verified-after : (M : List ℕ) (a : Attempt) → verified (after M a) ≡ verified a
unfolding verified after
verified-after M a = refl

-- the same sealing and the same attempt, written in another way
pub undoes-same : {n t : ℕ} {seal seal' : List ℕ → List ℕ} {try try' : List ℕ → Attempt} → ((M : List ℕ) → Octets n M → seal M ≡ seal' M) →
    ((C : List ℕ) → Octets (n + t) C → try C ≡ try' C) → Undoes n t seal' try' → Undoes n t seal try
undoes-same {n} {t} {seal} {seal'} {try} {try'} e f u =
    let both : (M : List ℕ) → Octets n M → try (seal M) ≡ try' (seal' M) = λ M o. ap try (e M o) ∙ f (seal' M) (u.sealed M o) in
    record {
      sealed = λ M o. subst (Octets (n + t)) (sym (e M o)) (u.sealed M o);
      message-back = λ M o. ap (λ (a : Attempt). a.message) (both M o) ∙ u.message-back M o;
      verified-back = λ M o. ap verified (both M o) ∙ u.verified-back M o;
      message-octets = λ C o. subst (λ (a : Attempt). Octets n a.message) (sym (f C o)) (u.message-octets C o);
      sealing-back = λ C o h.
          ap (λ (a : Attempt). seal a.message) (f C o) ∙ e (try' C).message (u.message-octets C o)
          ∙ u.sealing-back C o (ap verified (sym (f C o)) ∙ h);
    }

-- ---- strings

-- adding a string twice
pub xors-undo : (a b : List ℕ) → length a ≤ length b → xors (xors a b) b ≡ a
xors-undo a b h = xors-comm (xors a b) b ∙ ap (xors b) (xors-comm a b) ∙ xors-cancel b a h

-- a string in front of t bytes, and these
pub but_last-at : (t : ℕ) (x y : List ℕ) → length y ≡ t → but_last t (x ++ y) ≡ x
unfolding but_last
but_last-at t x y h = take_at x y (length (x ++ y) - t) (omega (arith, length-append x y))

pub last_bytes-at : (t : ℕ) (x y : List ℕ) → length y ≡ t → last_bytes t (x ++ y) ≡ y
unfolding last_bytes
last_bytes-at t x y h = drop_at x y (length (x ++ y) - t) (omega (arith, length-append x y))

pub but_last-last_bytes : (t : ℕ) (c : List ℕ) → but_last t c ++ last_bytes t c ≡ c
unfolding but_last last_bytes
but_last-last_bytes t c = take-append-drop (length c - t) c

pub but_last-octets : (t n : ℕ) {c : List ℕ} → Octets (n + t) c → Octets n (but_last t c)
unfolding but_last
but_last-octets t n {c} o = subst (λ (k : ℕ). Octets n (take k c)) {x = n} {y = length c - t} (omega (arith, o.size)) (take-octets n (n + t) o (omega arith))

-- what follows the first m bytes
pub behind : (m n : ℕ) {s : List ℕ} → Octets (m + n) s → Octets n (drop m s)
behind m n o = let p = drop-octets m (m + n) o in record { size = p.size ∙ omega arith; small = p.small }

-- ---- the full blocks

-- only the first 16 k bytes count
pub checksum-prefix : (s z : List ℕ) (k : ℕ) → 16 * k ≤ length s → checksum (s ++ z) k ≡ checksum s k
unfolding checksum
checksum-prefix s z zero h = refl
checksum-prefix s z (suc k) h = ap₂ xors (checksum-prefix s z k (omega arith)) (block_append 16 s z k h)

-- opening's blocks are sealing's, with D for E
pub plain-cipher : (E D : List ℕ → List ℕ) (Δ C : List ℕ) (k : ℕ) → plain_blocks E D Δ C k ≡ cipher_blocks D Δ C k
unfolding plain_blocks cipher_blocks
plain-cipher E D Δ C zero = refl
plain-cipher E D Δ C (suc k) = ap (λ (s : List ℕ). s ++ xors (D (xors (block 16 C k) (offset Δ (suc k)))) (offset Δ (suc k))) (plain-cipher E D Δ C k)

take-block : (M : List ℕ) (k : ℕ) → take (16 * k) M ++ block 16 M k ≡ take (16 * suc k) M
take-block M k = sym (ap (λ (n : ℕ). take n M) (mul-suc 16 k) ∙ take-add (16 * k) 16 M)

module _ (G H : List ℕ → List ℕ) (H-block : (x : List ℕ) → Octets 16 x → Octets 16 (H x)) (G-undoes : (x : List ℕ) → Octets 16 x → G (H x) ≡ x) where
  -- one block
  block_back : (m δ : List ℕ) → Octets 16 m → Octets 16 δ → xors (G (xors (xors (H (xors m δ)) δ) δ)) δ ≡ m
  block_back m δ p q =
      let y = xors-octets 16 p q in
      ap (λ (x : List ℕ). xors (G x) δ) (xors-undo (H (xors m δ)) δ (omega (arith, (H-block (xors m δ) y).size, q.size)))
      ∙ ap (λ (x : List ℕ). xors x δ) (G-undoes (xors m δ) y)
      ∙ xors-undo m δ (omega (arith, p.size, q.size))

  -- G's blocks of H's blocks are the text's
  pub blocks-back : (Δ M z : List ℕ) (k : ℕ) → Octets 16 Δ → Bytes M → 16 * k ≤ length M → cipher_blocks G Δ (cipher_blocks H Δ M k ++ z) k ≡ take (16 * k) M
  unfolding cipher_blocks
  blocks-back Δ M z zero q b h = refl
  blocks-back Δ M z (suc k) q b h =
      let P = cipher_blocks H Δ M k in
      let m = block 16 M k in
      let δ = offset Δ (suc k) in
      let c = xors (H (xors m δ)) δ in
      let om = block-octets M k b h in
      let oδ = offset-octets (suc k) q in
      let lc : length c ≡ 16 = (xors-octets 16 (whitened H H-block om oδ) oδ).size in
      let lP : length P ≡ 16 * k = (cipher_blocks-octets H H-block Δ M k q b (omega arith)).size in
      let moved : (P ++ c) ++ z ≡ P ++ (c ++ z) = append_assoc P c z in
      let ec : block 16 ((P ++ c) ++ z) k ≡ c = ap (λ (s : List ℕ). block 16 s k) moved ∙ ap (take 16) (drop_at P (c ++ z) (16 * k) lP) ∙ take_at c z 16 lc in
      ap₂ ◌++◌
      (ap (λ (s : List ℕ). cipher_blocks G Δ s k) moved ∙ blocks-back Δ M (c ++ z) k q b (omega arith))
      (ap (λ (s : List ℕ). xors (G (xors s δ)) δ) ec ∙ block_back m δ om oδ)
      ∙ take-block M k

module _ (E D : List ℕ → List ℕ) (v : BlockCipher E D) where
  -- the k full blocks before the end, whatever the end is
  module _ (end : List ℕ → List ℕ → List ℕ → List ℕ) (try : List ℕ → List ℕ → List ℕ → Attempt) (Δ : List ℕ) (q : Octets 16 Δ) (n t k : ℕ)
      (u : (S : List ℕ) → Octets 16 S → Undoes n t (end (offset Δ k) S) (try (offset Δ k) S)) where
    abbrev tail : List ℕ → List ℕ
    tail M = cipher_blocks E Δ M k ++ end (offset Δ k) (checksum M k) (drop (16 * k) M)

    module _ (M : List ℕ) (o : Octets (16 * k + n) M) where
      abbrev C : List ℕ
      C = end (offset Δ k) (checksum M k) (drop (16 * k) M)

      the_end : Undoes n t (end (offset Δ k) (checksum M k)) (try (offset Δ k) (checksum M k))
      the_end = u (checksum M k) (checksum-octets M k o.small (omega (arith, o.size)))

      tail-octets : Octets (16 * k + n + t) (tail M)
      tail-octets =
          let p = append_octets (cipher_blocks-octets E v.E-block Δ M k q o.small (omega (arith, o.size))) (the_end.sealed (drop (16 * k) M) (behind (16 * k) n o)) in
          record { size = p.size ∙ omega arith; small = p.small }

      plain_there : plain_blocks E D Δ (tail M) k ≡ take (16 * k) M
      plain_there =
          plain-cipher E D Δ (tail M) k
          ∙ blocks-back D E v.E-block v.D-undoes-E Δ M C k q o.small (omega (arith, o.size))

      -- what the attempt at the end takes
      try_there : try (offset Δ k) (checksum (plain_blocks E D Δ (tail M) k) k) (drop (16 * k) (tail M)) ≡ try (offset Δ k) (checksum M k) C
      try_there =
          ap₂ (try (offset Δ k))
          (ap (λ (s : List ℕ). checksum s k) plain_there
          ∙ sym (checksum-prefix (take (16 * k) M) (drop (16 * k) M) k (simp length-take (omega (arith, o.size)))) ∙ ap (λ (s : List ℕ). checksum s k) (take-append-drop (16 * k) M))
          (drop_at (cipher_blocks E Δ M k) C (16 * k) (cipher_blocks-octets E v.E-block Δ M k q o.small (omega (arith, o.size))).size)

    module _ (C : List ℕ) (o : Octets (16 * k + n + t) C) where
      abbrev Ms : List ℕ
      Ms = plain_blocks E D Δ C k

      long : 16 * k ≤ length C
      long = omega (arith, o.size)

      Ms-octets : Octets (16 * k) Ms
      Ms-octets = subst (Octets (16 * k)) (sym (plain-cipher E D Δ C k)) (cipher_blocks-octets D v.D-block Δ C k q o.small long)

      abbrev a : Attempt
      a = try (offset Δ k) (checksum Ms k) (drop (16 * k) C)

      its_end : Undoes n t (end (offset Δ k) (checksum Ms k)) (try (offset Δ k) (checksum Ms k))
      its_end = u (checksum Ms k) (checksum-octets Ms k Ms-octets.small (omega (arith, Ms-octets.size)))

      rest-octets : Octets (n + t) (drop (16 * k) C)
      rest-octets = behind (16 * k) (n + t) (record { size = o.size ∙ omega arith; small = o.small })

      message-sized : Octets (16 * k + n) (Ms ++ a.message)
      message-sized = append_octets Ms-octets (its_end.message-octets (drop (16 * k) C) rest-octets)

      -- sealing the message again
      tail-again : verified a ≡ true → tail (Ms ++ a.message) ≡ C
      tail-again h =
          ap₂ ◌++◌
          (ap (λ (s : List ℕ). cipher_blocks E Δ (s ++ a.message) k) (plain-cipher E D Δ C k)
          ∙ blocks-back E D v.D-block v.E-undoes-D Δ C a.message k q o.small long)
          (ap₂ (end (offset Δ k)) (checksum-prefix Ms a.message k (omega (arith, Ms-octets.size))) (drop_at Ms a.message (16 * k) Ms-octets.size)
          ∙ its_end.sealing-back (drop (16 * k) C) rest-octets h)
          ∙ take-append-drop (16 * k) C

    pub tail-undoes : Undoes (16 * k + n) t tail (λ C. from_blocks E D try Δ C k)
    unfolding from_blocks after
    tail-undoes =
        record {
          sealed = tail-octets;
          message-back = λ M o. ap₂ ◌++◌ (plain_there M o) (ap (λ (x : Attempt). x.message) (try_there M o) ∙ (the_end M o).message-back (drop (16 * k) M) (behind (16 * k) n o)) ∙ take-append-drop (16 * k) M;
          verified-back = λ M o. verified-after (plain_blocks E D Δ (tail M) k) _ ∙ ap verified (try_there M o) ∙ (the_end M o).verified-back (drop (16 * k) M) (behind (16 * k) n o);
          message-octets = message-sized;
          sealing-back = λ C o h. tail-again C o (sym (verified-after (plain_blocks E D Δ C k) _) ∙ h);
        }

-- ---- a first part under a mask that undoes itself

module _ (mask : List ℕ → List ℕ) (rest : List ℕ → List ℕ → List ℕ) (try : List ℕ → List ℕ → Attempt) (l n t : ℕ)
    (mask-octets : (x : List ℕ) → Octets l x → Octets l (mask x)) (mask-twice : (x : List ℕ) → Octets l x → mask (mask x) ≡ x)
    (u : (C₀ : List ℕ) → Octets l C₀ → Undoes n t (rest C₀) (try C₀)) where
  abbrev whole : List ℕ → List ℕ
  whole M = mask (take l M) ++ rest (mask (take l M)) (drop l M)

  head : (r : ℕ) {s : List ℕ} → Octets (l + r) s → Octets l (take l s)
  head r o = take-octets l (l + r) o (omega arith)

  module _ (M : List ℕ) (o : Octets (l + n) M) where
    abbrev C₀ : List ℕ
    C₀ = mask (take l M)

    C₀-octets : Octets l C₀
    C₀-octets = mask-octets (take l M) (head n o)

    whole-octets : Octets (l + n + t) (whole M)
    whole-octets =
        let p = append_octets C₀-octets ((u C₀ C₀-octets).sealed (drop l M) (behind l n o)) in
        record { size = p.size ∙ omega arith; small = p.small }

    first_there : take l (whole M) ≡ C₀
    first_there = take_at C₀ (rest C₀ (drop l M)) l C₀-octets.size

    try_first : try (take l (whole M)) (drop l (whole M)) ≡ try C₀ (rest C₀ (drop l M))
    try_first = ap₂ try first_there (drop_at C₀ (rest C₀ (drop l M)) l C₀-octets.size)

  module _ (C : List ℕ) (o : Octets (l + n + t) C) where
    C-octets : Octets (l + (n + t)) C
    C-octets = record { size = o.size ∙ omega arith; small = o.small }

    its_rest : Undoes n t (rest (take l C)) (try (take l C))
    its_rest = u (take l C) (head (n + t) C-octets)

    abbrev M₀ : List ℕ
    M₀ = mask (take l C)

    abbrev more : List ℕ
    more = (try (take l C) (drop l C)).message

    M₀-octets : Octets l M₀
    M₀-octets = mask-octets (take l C) (head (n + t) C-octets)

    whole_again : verified (try (take l C) (drop l C)) ≡ true → whole (M₀ ++ more) ≡ C
    whole_again h =
        let e : mask (take l (M₀ ++ more)) ≡ take l C = ap mask (take_at M₀ more l M₀-octets.size) ∙ mask-twice (take l C) (head (n + t) C-octets) in
        ap₂ (λ (x y : List ℕ). x ++ rest x y) e (drop_at M₀ more l M₀-octets.size)
        ∙ ap (λ (x : List ℕ). take l C ++ x) (its_rest.sealing-back (drop l C) (behind l (n + t) C-octets) h)
        ∙ take-append-drop l C

  pub first-undoes : Undoes (l + n) t whole (λ C. after (mask (take l C)) (try (take l C) (drop l C)))
  unfolding after
  first-undoes =
      record {
        sealed = whole-octets;
        message-back = λ M o. ap₂ ◌++◌ (ap mask (first_there M o) ∙ mask-twice (take l M) (head n o)) (ap (λ (x : Attempt). x.message) (try_first M o) ∙ (u _ (C₀-octets M o)).message-back (drop l M) (behind l n o)) ∙ take-append-drop l M;
        verified-back = λ M o. verified-after (mask (take l (whole M))) _ ∙ ap verified (try_first M o) ∙ (u _ (C₀-octets M o)).verified-back (drop l M) (behind l n o);
        message-octets = λ C o. append_octets (M₀-octets C o) ((its_rest C o).message-octets (drop l C) (behind l (n + t) (C-octets C o)));
        sealing-back = λ C o h. whole_again C o (sym (verified-after (mask (take l C)) _) ∙ h);
      }

-- ---- a masked message with its tag after it

module _ (mask tag_of : List ℕ → List ℕ) (n t : ℕ)
    (mask-octets : (x : List ℕ) → Octets n x → Octets n (mask x)) (mask-twice : (x : List ℕ) → Octets n x → mask (mask x) ≡ x)
    (tag-octets : (x : List ℕ) → Octets n x → Octets t (tag_of x)) where
  -- the attempt by what it takes for C and for the tag
  abbrev trial : List ℕ → List ℕ → Attempt
  trial c tag = record { message = mask c; tag = tag; tag' = tag_of (mask c) }

  trial_there : (M : List ℕ) → Octets n M → trial (but_last t (mask M ++ tag_of M)) (last_bytes t (mask M ++ tag_of M)) ≡ trial (mask M) (tag_of M)
  trial_there M o =
      let l = (tag-octets M o).size in
      ap₂ trial (but_last-at t (mask M) (tag_of M) l) (last_bytes-at t (mask M) (tag_of M) l)

  pub tagged_undoes : Undoes n t (λ M. mask M ++ tag_of M) (λ C. record { message = mask (but_last t C); tag = last_bytes t C; tag' = tag_of (mask (but_last t C)) })
  tagged_undoes =
      record {
        sealed = λ M o. append_octets (mask-octets M o) (tag-octets M o);
        message-back = λ M o. ap (λ (a : Attempt). a.message) (trial_there M o) ∙ mask-twice M o;
        verified-back = λ M o. ap verified (trial_there M o) ∙ same-tags (trial (mask M) (tag_of M)) (ap tag_of (sym (mask-twice M o)));
        message-octets = λ C o. mask-octets (but_last t C) (but_last-octets t n o);
        sealing-back = λ C o h.
            ap₂ ◌++◌ (mask-twice (but_last t C) (but_last-octets t n o)) (sym (tags-same (trial (but_last t C) (last_bytes t C)) h)) ∙ but_last-last_bytes t C;
      }
