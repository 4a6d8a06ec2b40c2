-- The three demands hold.
-- Assumes nothing.
use mathlib.Core.Path.{◌≡◌, refl, sym, ap, ap₂, subst, ◌∙◌}
use mathlib.Core.Bool.{true, false, cond}
use mathlib.Core.List.{List, ◌++◌}
use mathlib.Core.Logic.{inl, inr}
use Prim.Native.Nat.{ℕ, ◌+◌, ◌-◌, ◌^◌, ◌≤◌}
use native.Mathlib.Omega.{arith}
use borrow.Author.Tests.{eq-eqb, eqb-true}
use lib.Dec.{T, eqb}
use lib.ListN.{length, take, drop}
use lib.Seq.{take_at, drop_at}
use Rattle.octets.specs.Strings.{Bytes, Octets, over}
use Rattle.octets.specs.Count.{count}
use Rattle.octets.proofs.Count.{count_scheme}
use Rattle.fips197.specs.Cipher.{cipher, inv_cipher}
use Rattle.fips197.proofs.Inverses.{inverses}
use Rattle.cba_mode.specs.Sets.{is_set, key_bytes, tag_bits, capacity}
use Rattle.cba_mode.specs.Data.{tag_of_data}
use Rattle.cba_mode.specs.Seal.{ENC}
use Rattle.cba_mode.specs.Open.{Opened, is_false, message_of, DEC}
use Rattle.cba_mode.specs.Open.Opened.{opened, refused}
use Rattle.cba_mode.specs.RoundTrip.{BlockCipher, RoundTrip}
use Rattle.cba_mode.proofs.RoundTrip.{data_trip, refused-opens}
use Rattle.cba_rules.specs.Checks.{set_tag}
use Rattle.cba_rules.specs.Refusals.{sealing, opening, seal_answer, open_answer, seal_leaves, seal_output, open_leaves, open_output, OpenCall}
use Rattle.cba_rules.specs.Demands.{AllBytes, Demand1, Demand2, Given, Message, Decided, Demand3, Speaks}
use Rattle.cba_rules.proofs.SetLaws.{set-fits, set_key}
use Rattle.cba_rules.proofs.RefusalLaws.{Common, seal_refusals, open_refusals, seal_accepts, seal_accepted, open_decides, open_accepted, open_false}

pub demand_1 : Demand1
demand_1 = record { seals = seal_refusals; opens = open_refusals }

-- AES under a key of the set
aes : (set : ℕ) (key : List ℕ) → is_set set ≡ true → Octets (key_bytes set) key → BlockCipher (cipher key) (inv_cipher key)
aes set key s k =
    let h = set_key set key s k.size in
    record {
      E-block = λ x o. inverses.E-block key x k.small h o;
      D-block = λ x o. inverses.D-block key x k.small h o;
      D-undoes-E = λ x o. inverses.D-undoes-E key x k.small h o;
      E-undoes-D = λ x o. inverses.E-undoes-D key x k.small h o;
    }

trip : (set : ℕ) (key N A : List ℕ) → is_set set ≡ true → Octets (key_bytes set) key → Octets 12 N → Bytes A → RoundTrip (cipher key) (inv_cipher key) (tag_bits set) (capacity set) N (tag_of_data (cipher key) (tag_bits set) (capacity set) A)
trip set key N A s k n a = data_trip (cipher key) (inv_cipher key) (aes set key s k) (tag_bits set) (capacity set) (set-fits set s) N A n a

-- ---- the outputs of accepted calls, and that a sealing opens

module _ (set : ℕ) (key N A : List ℕ) (v : RoundTrip (cipher key) (inv_cipher key) (tag_bits set) (capacity set) N (tag_of_data (cipher key) (tag_bits set) (capacity set) A)) where
  sealed-out : (M out : List ℕ) → Bytes M → seal_answer set key N A M out ≡ 0 → seal_output set key N A M out ≡ ENC (cipher key) (tag_bits set) (capacity set) N A M ++ drop (length M + set_tag set) out
  unfolding seal_output seal_leaves sealing
  sealed-out M out b e =
      ap (λ (a : ℕ). cond (eqb a 0) (over (sealing set key N A M) out) out) e
      ∙ ap (λ (n : ℕ). ENC (cipher key) (tag_bits set) (capacity set) N A M ++ drop n out) (v.longer M b).size

  -- a sealing opens, to its message
  sealing-opens : (M C : List ℕ) → Bytes M → sealing set key N A M ≡ C → opening set key N A C ≡ opened M
  unfolding sealing opening
  sealing-opens M C b e = ap (DEC (cipher key) (inv_cipher key) (tag_bits set) (capacity set) N A) (sym e) ∙ v.opens M b

  -- a message has t bytes less than what opens to it
  opened-length : (C M : List ℕ) → Bytes C → opening set key N A C ≡ opened M → length C ≡ length M + set_tag set
  unfolding opening
  opened-length C M b e = let o = v.only C M b e in sym (ap length o.1) ∙ (v.longer M o.0).size

  opened_out : (C M out : List ℕ) → Bytes C → open_answer set key N A C out ≡ 0 → opening set key N A C ≡ opened M →
      open_output set key N A C out ≡ M ++ drop (length C - set_tag set) out
  unfolding open_output open_leaves message_of
  opened_out C M out b e o =
      let l : length M ≡ length C - set_tag set = omega (arith, opened-length C M b o) in
      ap₂ (λ (a : ℕ) (x : Opened). open_leaves a (length C - set_tag set) (message_of x) out) e o ∙ ap (λ (n : ℕ). M ++ drop n out) l

-- ---- demand 2

-- DEC's decision
by_decision : (o : Opened) → is_false o ≡ false → o ≡ opened (message_of o)
unfolding is_false message_of
by_decision (opened M) h = refl
by_decision refused h = absurd (subst T h tt)

by_refusal : (o : Opened) → is_false o ≡ true → o ≡ refused
unfolding is_false
by_refusal (opened M) h = absurd (subst T (sym h) tt)
by_refusal refused h = refl

-- the round trip under what an accepted call has
accepted-trip : (set : ℕ) (key N A text : List ℕ) → Common set (length key) (length N) (length A) → AllBytes key N A text → RoundTrip (cipher key) (inv_cipher key) (tag_bits set) (capacity set) N (tag_of_data (cipher key) (tag_bits set) (capacity set) A)
accepted-trip set key N A text p b =
    trip set key N A p.is-set (record { size = p.key-length; small = b.key-bytes }) (record { size = p.nonce-length; small = b.nonce-bytes }) b.data_bytes

pub demand_2 : Demand2
unfolding sealing opening
demand_2 =
    record {
      seals = λ set key N A M out r out' b c e.
          let a = sym c.0 ∙ e in
          c.1 ∙ sealed-out set key N A (accepted-trip set key N A M (seal_accepted set key N A M out a).0 b) M out b.text-bytes a;
      opens = λ set key N A C out r out' b c e.
          let a = sym c.0 ∙ e in
          let p = open_accepted set key N A C out a in
          let v = accepted-trip set key N A C p.0.0 b in
          let M = message_of (opening set key N A C) in
          let o : opening set key N A C ≡ opened M = by_decision (opening set key N A C) p.1 in
          let w : out' ≡ M ++ drop (length C - set_tag set) out = c.1 ∙ opened_out set key N A v C M out b.text-bytes a o in
          let l : length M ≡ length C - set_tag set = omega (arith, opened-length set key N A v C M b.text-bytes o) in (
            o ∙ ap opened (sym (ap (take (length C - set_tag set)) w ∙ take_at M _ (length C - set_tag set) l)),
            ap (drop (length C - set_tag set)) w ∙ drop_at M _ (length C - set_tag set) l,
          );
      refuses = λ set key N A C out r out' c e. by_refusal (opening set key N A C) (open_false set key N A C out (sym c.0 ∙ e)).1;
    }

-- ---- demand 3

module _ (set : ℕ) (key N A : List ℕ) (g : Given set key N A) where
  abbrev t : ℕ
  t = set_tag set

  v : RoundTrip (cipher key) (inv_cipher key) (tag_bits set) (capacity set) N (tag_of_data (cipher key) (tag_bits set) (capacity set) A)
  v = trip set key N A g.is-set g.its_key g.its_nonce g.its_data

  module _ (c : ℕ) (least : t ≤ c) (most : c ≤ 65536 + t) (out : List ℕ) (room : c - t ≤ length out) where
    abbrev n : ℕ
    n = c - t

    module _ (C : List ℕ) (o : Octets c C) where
      -- the answer is DEC's decision
      answered : open_answer set key N A C out ≡ cond (is_false (opening set key N A C)) 8 0
      answered =
          open_decides set key N A C out
          (record { is-set = g.is-set; key-length = g.its_key.size; nonce-length = g.its_nonce.size; data_limit = g.data_limit })
          (record { limit = omega (arith, o.size); least = omega (arith, o.size); room = omega (arith, o.size) })

      opened_0 : (M : List ℕ) → opening set key N A C ≡ opened M → open_answer set key N A C out ≡ 0
      unfolding is_false
      opened_0 M e = answered ∙ ap (λ (x : Opened). cond (is_false x) 8 0) e

      refused_8 : opening set key N A C ≡ refused → open_answer set key N A C out ≡ 8
      unfolding is_false
      refused_8 e = answered ∙ ap (λ (x : Opened). cond (is_false x) 8 0) e

      decide : (r : ℕ) (out' : List ℕ) → OpenCall set key N A C out r out' → Decided set key N A C n r out'
      unfolding sealing opening message_of
      decide r out' call = go (opening set key N A C) refl
        where
          go : (x : Opened) → opening set key N A C ≡ x → Decided set key N A C n r out'
          go (opened M) e =
              let a = opened_0 M e in
              let z : r ≡ 0 = call.0 ∙ a in
              let s = v.only C M o.small e in
              let l : length C ≡ length M + t = opened-length set key N A v C M o.small e in
              let w : take n out' ≡ M = ap (take n) (call.1 ∙ opened_out set key N A v C M out o.small a e) ∙ take_at M _ n (omega (arith, o.size)) in
              record {
                message = λ h. subst Message (sym w) (record { bytes = s.0; limit = omega (arith, o.size) });
                its_sealing = λ h. ap (sealing set key N A) w ∙ s.1;
                no_other = λ h M' m e'. ap message_of (sym (sealing-opens set key N A v M' C m.bytes e') ∙ e) ∙ sym w;
                false-none = λ h. absurd (omega (arith, z, h));
                none-false = λ h. absurd (h M (record { bytes = s.0; limit = omega (arith, o.size) }) s.1);
                no_third = inl z;
              }
          go refused e =
              let z : r ≡ 8 = call.0 ∙ refused_8 e in
              record {
                message = λ h. absurd (omega (arith, z, h));
                its_sealing = λ h. absurd (omega (arith, z, h));
                no_other = λ h. absurd (omega (arith, z, h));
                false-none = λ h M m e'. refused-opens (sym e ∙ sealing-opens set key N A v M C m.bytes e');
                none-false = λ h. z;
                no_third = inr z;
              }

    -- strings of n bytes are messages
    message-of : (M : List ℕ) → Octets n M → Message M
    message-of M o = record { bytes = o.small; limit = omega (arith, o.size) }

    sized : (M : List ℕ) → Octets n M → Octets c (sealing set key N A M)
    unfolding sealing
    sized M o = let s = v.longer M o.small in record { size = s.size ∙ omega (arith, o.size); small = s.small }

    number : count c (λ C. eqb (open_answer set key N A C out) 0) ≡ 256 ^ n
    unfolding sealing
    number =
        count_scheme (sealing set key N A) (λ C. eqb (open_answer set key N A C out) 0) n c sized
        (λ M o. eq-eqb (open_answer set key N A (sealing set key N A M) out) 0 (opened_0 (sealing set key N A M) (sized M o) M (sealing-opens set key N A v M (sealing set key N A M) o.small refl)))
        (λ C o h.
        let d = decide C o _ _ (refl, refl) in
        let z = eqb-true (open_answer set key N A C out) 0 h in
        record {
          message = take n (open_output set key N A C out);
          octets = record { size = omega (arith, (v.longer (take n (open_output set key N A C out)) (d.message z).bytes).size, ap length (d.its_sealing z), o.size); small = (d.message z).bytes };
          seals = d.its_sealing z;
          sole = λ M m e. d.no_other z M (message-of M m) e;
        })

pub demand_3 : Demand3
demand_3 =
    record {
      counted = λ set key N A g c least most out room. number set key N A g c least most out room;
      decided = λ set key N A g c least most out room C o r out' call. decide set key N A g c least most out room C o r out' call;
    }

pub speaks : Speaks
unfolding sealing
speaks =
    record {
      seals = λ set key N A M g m out room r out' call.
          let c : Common set (length key) (length N) (length A) =
          record { is-set = g.is-set; key-length = g.its_key.size; nonce-length = g.its_nonce.size; data_limit = g.data_limit } in
          let e : r ≡ 0 = call.0 ∙ seal_accepts set key N A M out c (record { limit = m.limit; room = room }) in
          let b = trip set key N A g.is-set g.its_key g.its_nonce g.its_data in
          (e, ap (take (length M + set_tag set)) (call.1 ∙ sealed-out set key N A b M out m.bytes (sym call.0 ∙ e)) ∙ take_at (sealing set key N A M) _ (length M + set_tag set) (b.longer M m.bytes).size);
      opens = λ set key N A C out r out' call. ap (λ (a : ℕ). eqb a 0) (sym call.0);
    }
