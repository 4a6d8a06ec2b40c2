-- The loops of the program: what they keep.
-- Assumes nothing.
use mathlib.Core.Path.{◌≡◌, refl, sym, ap, subst, ◌∙◌}
use mathlib.Core.Bool.{Bool, true, false, not}
use mathlib.Core.List.{List, [], ◌∷◌, ◌++◌, append_assoc}
use Prim.Native.Nat.{ℕ, ◌+◌, ◌-◌, ◌*◌, ◌<◌, ◌≤◌}
use native.Mathlib.Omega.{arith}
use borrow.Author.Tests.{le-ltb, lt-ltb}
use lib.Dec.{T, ltb}
use lib.ListN.{length, take, drop, take-append-drop, length-append, length-drop}
use lib.Seq.{take_all, length-take-le}
use Rattle.std.proofs.lemmas.List.{append-nil}
use Rattle.hub.specs.declared.Going.{Going}
use Rattle.hub.specs.declared.Going.TheVariants.{More, Failed}
use Rattle.hub.specs.declared.Step.{Step}
use Rattle.hub_run.specs.Held.{Held}
use Rattle.hub_run.specs.declared.chunk.Fed.{Fed}
use Rattle.hub_rules.specs.Stream.{State, begin, is_done, after, output}
use Rattle.hub_run.specs.Values.{Feeds}
use Rattle.hub_rules.proofs.StreamLaws.{after_append, output_append}
use Rattle.hub.specs.Follows.{going_on, is_more, has_failed, Follows, Reached}

-- of a chunk all but the rest has been fed, and all that it says has been written
pub record Saying (h : Held) (chunk : List ℕ) (next : Held) (rest : List ℕ) (wrote : ℕ) : Type 0 where
  pub fed : List ℕ
  pub whole : fed ++ rest ≡ chunk
  pub state-is : next.state ≡ after h.state fed
  pub wrote_is : wrote ≡ length (output h.state fed)
  pub wrote_most : wrote ≤ 65536 * length fed
  pub small : length chunk ≤ 65536

pub said-none : (h : Held) (chunk : List ℕ) → length chunk ≤ 65536 → Saying h chunk h chunk 0
unfolding after output
said-none h chunk a = record { fed = []; whole = refl; state-is = refl; wrote_is = refl; wrote_most = omega arith; small = a }

-- the rest of a chunk is used up further, by a call with out as its output
module _ {n : ℕ} {h next : Held} {wrote : ℕ} {chunk : List ℕ} (out rest : List ℕ) (v : Saying h chunk next rest wrote) (u : 0 < length rest) (b : length out ≤ 65536)
    {r : Fed} {next' : Held} {last : List ℕ} (f : Feeds n next rest r next' out last) where
  abbrev part : List ℕ
  part = take r.used rest

  whole' : (v.fed ++ part) ++ drop r.used rest ≡ chunk
  whole' = append_assoc v.fed part (drop r.used rest) ∙ ap (λ (x : List ℕ). v.fed ++ x) (take-append-drop r.used rest) ∙ v.whole

  length-fed : length (v.fed ++ part) ≡ length v.fed + r.used
  length-fed = length-append v.fed part ∙ ap (λ (i : ℕ). length v.fed + i) (length-take-le r.used rest f.used_most)

  -- what it says
  says-more : wrote + r.written ≡ length (output h.state (v.fed ++ part))
  says-more =
      let a = ap length (output_append h.state v.fed part) in
      let c = length-append (output h.state v.fed) (output (after h.state v.fed) part) in
      let e = f.goes.said.0 ∙ ap (λ (x : State). length (output x part)) v.state-is in
      omega (arith, a, c, e, v.wrote_is)

  -- all of it is written, or less
  wrote_small : {k : ℕ} → k ≤ r.written → wrote + k ≤ 65536 * length (v.fed ++ part)
  wrote_small l = omega (arith, l, v.wrote_most, f.written-most, f.used_some u, b, length-fed)

  pub wrote_fits : {k : ℕ} → k ≤ r.written → wrote + k ≤ 65536 * 65536
  wrote_fits l = omega (arith, wrote_small l, length-fed, f.used_most, ap length v.whole, length-append v.fed rest, v.small)

  -- the code lends the rest by its length
  pub said_more : {k : ℕ} → k ≤ r.written → r.written ≤ k → Saying h chunk next' (take (length rest - r.used) (drop r.used rest)) (wrote + k)
  said_more p q =
      record {
        fed = v.fed ++ part;
        whole = ap (λ (x : List ℕ). (v.fed ++ part) ++ x) (take_all (length rest - r.used) (drop r.used rest) (omega (arith, length-drop r.used rest))) ∙ whole';
        state-is = f.goes.state-is ∙ ap (λ (x : State). after x part) v.state-is ∙ sym (after_append h.state v.fed part);
        wrote_is = omega (arith, p, q, says-more);
        wrote_most = wrote_small p;
        small = v.small;
      }

  pub said-short : {k : ℕ} → k < r.written → Follows h chunk (record { read = length chunk; wrote = wrote + k; going = Failed }) next'
  said-short {k} l =
      let a = ap (λ (x : List ℕ). length (output h.state x)) whole' in
      let m = ap length (output_append h.state (v.fed ++ part) (drop r.used rest)) in
      let c = length-append (output h.state (v.fed ++ part)) (output (after h.state (v.fed ++ part)) (drop r.used rest)) in
      let s : wrote + k < length (output h.state chunk) = omega (arith, l, a, m, c, says-more) in
      record {
        read_is = refl;
        wrote_most = omega (arith, s);
        failed_is = sym (lt-ltb (wrote + k) (length (output h.state chunk)) s);
        state-is = λ e. absurd (subst T e tt);
        goes_on = λ e. absurd (subst T (sym e) tt);
        more-is = λ e z. absurd (subst T e tt);
      }

-- that the run is over or not is no failure, and says whether more is read
not_failed : (b : Bool) → has_failed (going_on b) ≡ false
not_failed true = refl
not_failed false = refl

more_is : (b : Bool) → is_more (going_on b) ≡ not b
more_is true = refl
more_is false = refl

not-true : (b : Bool) → not b ≡ true → b ≡ false
not-true true e = sym e
not-true false e = refl

none : (s : List ℕ) → length s ≤ 0 → s ≡ []
none [] h = refl
none (x ∷ s) h = absurd (omega (arith, h))

-- all of it has been fed, and no write failed
pub said_all : {h : Held} {chunk : List ℕ} {next : Held} {rest : List ℕ} {wrote : ℕ} → Saying h chunk next rest wrote → length rest ≤ 0 → {g : Going} → g ≡ going_on (is_done next.state) →
    Follows h chunk (record { read = length chunk; wrote = wrote; going = g }) next
said_all {h} {chunk} {next} {rest} {wrote} v u {g} e =
    let st = h.state in
    let t : v.fed ≡ chunk = sym (append-nil v.fed) ∙ ap (λ (x : List ℕ). v.fed ++ x) (sym (none rest u)) ∙ v.whole in
    let w : wrote ≡ length (output st chunk) = v.wrote_is ∙ ap (λ (x : List ℕ). length (output st x)) t in
    let m : is_more g ≡ not (is_done next.state) = ap is_more e ∙ more_is (is_done next.state) in
    record {
      read_is = refl;
      wrote_most = omega (arith, w);
      failed_is = ap has_failed e ∙ not_failed (is_done next.state) ∙ sym (le-ltb wrote (length (output st chunk)) (omega (arith, w)));
      state-is = λ z. v.state-is ∙ ap (after st) t;
      goes_on = λ z. (ap has_failed e ∙ not_failed (is_done next.state), not-true (is_done next.state) (sym m ∙ z));
      more-is = λ z l. m;
    }

-- ---- one read

-- of nothing
pub follows_none : (h : Held) (input : List ℕ) {r : Step} {g : Going} → is_done h.state ≡ false → r ≡ record { read = 0; wrote = 0; going = g } → has_failed g ≡ false →
    Follows h (take r.read input) r h
unfolding after output
follows_none h input {r} {g} o e p =
    rw e (record {
      read_is = refl;
      wrote_most = omega arith;
      failed_is = p;
      state-is = λ z. refl;
      goes_on = λ z. (p, o);
      more-is = λ z l. absurd (omega (arith, l));
    })

-- of n bytes, as the code says how many they were
pub follows_read : {h h' : Held} {r : Step} (input : List ℕ) (n : ℕ) → n ≤ length input → Follows h (take n input) r h' → Follows h (take r.read input) r h'
follows_read {h} {h'} {r} input n l f = subst (λ (k : ℕ). Follows h (take k input) r h') (sym (f.read_is ∙ length-take-le n input l)) f

-- ---- read after read

-- what was read was all said, and more counts
pub record Reading (h : Held) : Type 0 where
  pub said : List ℕ
  pub state-is : h.state ≡ after begin said
  pub not-over : is_done h.state ≡ false

pub read_none : (h : Held) → h.state ≡ begin → Reading h
unfolding begin is_done after
read_none h e = record { said = []; state-is = e; not-over = ap is_done e }

-- the bytes of a read come after those of the reads before
pub read_on : {h h' : Held} {r : Step} {s : List ℕ} → Reading h → Follows h s r h' → Reached r h'
read_on {h} {h'} {r} {s} v f =
    record {
      earlier = v.said;
      last = s;
      failed_is = f.failed_is ∙ ap (λ (x : State). ltb r.wrote (length (output x s))) v.state-is;
      state-is = λ z. f.state-is z ∙ ap (λ (x : State). after x s) v.state-is ∙ sym (after_append begin v.said s);
    }

pub read_more : {h h' : Held} {r : Step} {s : List ℕ} → Reading h → Follows h s r h' → r.going ≡ More → Reading h'
read_more {h} {h'} {r} {s} v f e =
    record {
      said = v.said ++ s;
      state-is = f.state-is (ap has_failed e) ∙ ap (λ (x : State). after x s) v.state-is ∙ sym (after_append begin v.said s);
      not-over = (f.goes_on (ap is_more e)).1;
    }

-- the turns are used up
pub read_long : {h : Held} {r : Step} → Reading h → r ≡ record { read = 0; wrote = 0; going = More } → Reached r h
unfolding output
read_long {h} {r} v e = rw e (record { earlier = v.said; last = []; failed_is = refl; state-is = λ z. v.state-is ∙ ap (after begin) (sym (append-nil v.said)) })
