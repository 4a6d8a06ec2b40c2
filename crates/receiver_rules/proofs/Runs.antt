-- Lists of openings on a receiver.
-- Assumes nothing.
use mathlib.Core.Path.{◌≡◌, refl, sym, ap, subst, ◌∙◌}
use mathlib.Core.Bool.{Bool, true, false, ◌||◌, false≢true}
use mathlib.Core.List.{List, [], ◌∷◌}
use Prim.Native.Nat.{ℕ}
use borrow.Author.Tests.{eqb-true, eqb-false, eq-eqb, ne_eqb}
use lib.Dec.{eqb}
use lib.ListN.{length}
use Rattle.answers.specs.Rows.{is_in}
use Rattle.answers.specs.Calls.{Gave, InTurn, ByList}
use Rattle.answers.proofs.RowLaws.{or_right}
use Rattle.answers.proofs.CallLaws.{by_list}
use Rattle.window_rules.specs.Window.{Window, is_repeat, recorded, recorded_all}
use Rattle.window_rules.specs.Theorems.{is_too_late, Holds}
use Rattle.window_rules.proofs.WindowLaws.{one_more, all_of, none_yet}
use Rattle.window_rules.proofs.HighestLaws.{holds-all}
use Rattle.receiver_rules.specs.Receiver.{Receiver, make_answer, made_receiver, Fresh, key_of, prefix_of, counter_of, with_counter}
use Rattle.receiver_rules.specs.Runs.{Opening, answer_on, after, output_on, gives, Promised, run, accepted, NoneTwice, SameMaking, AsPlain}
use Rattle.receiver_rules.proofs.ReceiverLaws.{made-fresh, not-repeated, plain-call, new-call, next-accepted, next-refused}

after-accepted : (v : Receiver) (o : Opening) → answer_on v o ≡ 0 → after v o ≡ with_counter v (counter_of o.nonce)
unfolding answer_on after
after-accepted v o e = next-accepted v o.nonce o.ad o.ciphertext o.out e

after-refused : (v : Receiver) (o : Opening) → (answer_on v o ≡ 0 → ⊥) → after v o ≡ v
unfolding answer_on after
after-refused v o n = next-refused v o.nonce o.ad o.ciphertext o.out n

-- A property of a receiver, the receiver after a list of openings and the counters that were accepted holds for every list, if it holds
-- for none and one accepted opening more keeps it.
module _ (P : Receiver → Receiver → List ℕ → Type 0) (none : (v : Receiver) → P v v [])
    (more : (v m : Receiver) (o : Opening) (ks : List ℕ) → answer_on v o ≡ 0 → P (with_counter v (counter_of o.nonce)) m ks → P v m (counter_of o.nonce ∷ ks)) where
  pub by_openings : (os : List Opening) (v : Receiver) → P v (run v os) (accepted v os)
  unfolding run accepted
  by_openings [] v = none v
  by_openings (o ∷ os) v = go (λ m. by_openings os m) (eqb (answer_on v o) 0) refl
    where
      go : ((m : Receiver) → P m (run m os) (accepted m os)) → (b : Bool) → eqb (answer_on v o) 0 ≡ b → P v (run v (o ∷ os)) (accepted v (o ∷ os))
      go rest true e =
          let z = eqb-true (answer_on v o) 0 e in
          rw (e, after-accepted v o z) (more v _ o _ z (rest (with_counter v (counter_of o.nonce))))
      go rest false e = rw (e, after-refused v o (eqb-false (answer_on v o) 0 e)) (rest v)

-- the window is that of before with these counters recorded
pub window-after : (os : List Opening) (v : Receiver) → (run v os).window ≡ recorded_all v.window (accepted v os)
unfolding recorded_all
window-after = by_openings (λ v m ks. m.window ≡ recorded_all v.window ks) (λ v. refl) (λ v m o ks e h. h)

-- a counter that is recorded is a repeat then
itself : (v : Receiver) (c : ℕ) → is_repeat (recorded v.window c) c ≡ true
itself v c = one_more v.window c c ∙ or_right (is_repeat v.window c) _ (rw (eq-eqb c c refl) refl)

-- and a repeat stays one
still : (v : Receiver) (k c : ℕ) → is_repeat v.window c ≡ true → is_repeat (recorded v.window k) c ≡ true
still v k c r = one_more v.window k c ∙ rw r refl

-- what is accepted is another counter than a repeat
another : (v : Receiver) (o : Opening) (c : ℕ) → answer_on v o ≡ 0 → is_repeat v.window c ≡ true → eqb c (counter_of o.nonce) ≡ false
unfolding answer_on
another v o c e r =
    ne_eqb c (counter_of o.nonce) (λ z. false≢true (sym (not-repeated v o.nonce o.ad o.ciphertext (length o.out) e) ∙ ap (is_repeat v.window) (sym z) ∙ r))

-- none of these counters was a repeat before, and none is there twice
once-each : (os : List Opening) (v : Receiver) → NoneTwice (accepted v os) × ((c : ℕ) → is_repeat v.window c ≡ true → is_in c (accepted v os) ≡ false)
unfolding is_in
once-each =
    by_openings
    (λ v m ks. NoneTwice ks × ((c : ℕ) → is_repeat v.window c ≡ true → is_in c ks ≡ false))
    (λ v. (tt, λ c h. refl))
    (λ v m o ks e h. ((h.1 (counter_of o.nonce) (itself v (counter_of o.nonce)), h.0), λ c r. rw (another v o c e r) (h.1 c (still v (counter_of o.nonce) c r))))

pub accepted-once : (v : Receiver) (os : List Opening) → NoneTwice (accepted v os)
accepted-once v os = (once-each os v).0

pub repeats-after : (v : Receiver) (os : List Opening) (c : ℕ) →
    is_repeat (run v os).window c ≡ is_repeat v.window c || (is_in c (accepted v os) || is_too_late c (accepted v os))
repeats-after v os c = ap (λ (w : Window). is_repeat w c) (window-after os v) ∙ all_of v.window (accepted v os) c

pub repeats-fresh : (v : Receiver) (os : List Opening) (c : ℕ) → Fresh v →
    is_repeat (run v os).window c ≡ is_in c (accepted v os) || is_too_late c (accepted v os)
repeats-fresh v os c f = repeats-after v os c ∙ rw (none_yet v.window c f) refl

pub holds-accepted : (v : Receiver) (os : List Opening) (k : ℕ) (ks : List ℕ) → Fresh v → accepted v os ≡ k ∷ ks → Holds (run v os).window (k ∷ ks)
holds-accepted v os k ks f e = subst (λ (w : Window). Holds w (k ∷ ks)) (sym (window-after os v ∙ ap (recorded_all v.window) e)) (holds-all v.window k ks f)

-- ---- from a making on

pub same-making : (os : List Opening) (v : Receiver) → SameMaking v (run v os)
same-making =
    by_openings (λ v m ks. SameMaking v m) (λ v. record { set-stays = refl; key-stays = refl; prefix-stays = refl })
    (λ v m o ks e h. record { set-stays = h.set-stays; key-stays = h.key-stays; prefix-stays = h.prefix-stays })

module _ (set : ℕ) (key : List ℕ) (prefix : ℕ) (os : List Opening) (o : Opening) (e : make_answer set key ≡ 0) where
  abbrev made : Receiver
  made = made_receiver set key prefix

  -- an opening under the set and the key of the receiver after the list is one under those of the making
  with_key : AsPlain (run made os).set (key_of (run made os)) (run made os) o → AsPlain set key (run made os) o
  unfolding key_of
  with_key p =
      let f = made-fresh set key prefix e in
      let s = same-making os made in
      let k : key_of (run made os) ≡ key_of made = rw (s.set-stays, s.key-stays) refl in
      subst (λ (x : ℕ). AsPlain x key (run made os) o) (s.set-stays ∙ f.set_is)
      (subst (λ (x : List ℕ). AsPlain (run made os).set x (run made os) o) (k ∙ f.key-is) p)

  key-after : length (run made os).key ≡ 32
  key-after = ap length (same-making os made).key-stays ∙ (made-fresh set key prefix e).key-length

  pub listed_plain : (answer_on (run made os) o ≡ 12 → ⊥) → (answer_on (run made os) o ≡ 15 → ⊥) → AsPlain set key (run made os) o
  unfolding answer_on output_on
  listed_plain n12 n15 = with_key (plain-call (run made os) o.nonce o.ad o.ciphertext o.out key-after n12 n15)

  pub listed-new : let c = counter_of o.nonce in prefix_of o.nonce ≡ prefix → is_in c (accepted made os) || is_too_late c (accepted made os) ≡ false →
      AsPlain set key (run made os) o
  unfolding answer_on output_on
  listed-new p n =
      let f = made-fresh set key prefix e in
      with_key
      (new-call (run made os) o.nonce o.ad o.ciphertext o.out (repeats-fresh made os (counter_of o.nonce) f.fresh ∙ n) key-after
      (p ∙ sym f.prefix-is ∙ sym (same-making os made).prefix-stays))

-- ---- openings made one after the other

all-given : (v : Receiver) (o : Opening) (g : Gave Receiver) → Promised v o g → g ≡ gives v o
unfolding answer_on after output_on
all-given v o g p = rw (sym p.answer-is, sym p.next-is, sym p.output-is) refl

pub in_turn : (v : Receiver) (os : List Opening) (gs : List (Gave Receiver)) → InTurn Promised v os gs → ByList gives run v os gs
unfolding run
in_turn = by_list Promised gives run all-given (λ v. refl) (λ v o os. refl)
