-- The theorems of the ledger.
-- Assumes nothing.
use mathlib.Core.Path.{◌≡◌, refl, sym, ap, subst, ◌∙◌}
use mathlib.Core.Bool.{Bool, true, false, cond, ◌&&◌, false≢true}
use mathlib.Core.List.{List, [], ◌∷◌, ◌++◌, append-nil}
use mathlib.Core.Option.{Option, none, some}
use Prim.Native.Nat.{ℕ, zero, suc, ◌+◌, ◌≤◌}
use native.Mathlib.Omega.{arith}
use lib.Dec.{eqb}
use lib.ListN.{length, get_or, replicate}
use Rattle.answers.specs.Rows.{numbers, is_in, own_numbers}
use Rattle.answers.proofs.RowLaws.{decides}
use Rattle.cba_mode.specs.Sets.{is_set, key_bytes}
use Rattle.cba_rules.specs.Refusals.{SealCall}
use Rattle.cba_rules.proofs.SetLaws.{key-most, held-key}
use Rattle.cba_rules.proofs.RefusalLaws.{key-accepts}
use Rattle.ledger_rules.specs.Ledger.{Heading, Ledger, fresh, make_rows, make_answer, key_of, heading_at, is_heading_name, is_kept, ledger_answer, ledger_output}
use Rattle.ledger_rules.specs.Ledger.Source.{given, named}
use Rattle.ledger_rules.specs.Runs.{Call, answer_on, after, run, accepted, charges, NoCarrying, before_carrying, since_carrying, last_kept, is_some, ByName, LedgerTheorems}
use Rattle.ledger_rules.specs.Runs.Call.{seals, keeps, carries}
use Rattle.ledger_rules.proofs.Examples.{examples}
use Rattle.ledger_rules.proofs.LedgerLaws.{make_accepted, made-fresh, made_blank, ledger_decides, ledger_accepted, seal_accepted, keep_accepts, named-kept, given-name, given-plain, named-plain, keep_decides, kept-nonce, carry_decides, carry_set, carried-accepted, carried-only, carried_same, carried-twice, made-same, never-stale, takes_first}
use Rattle.ledger_rules.proofs.Runs.{after-refused, run_append, same-making, in_turn, in_two, cut, sums, rises, On, names}
use Rattle.ledger_rules.proofs.FillingLaws.{example-charges, empty-charges, takes-more, takes-no-more, sixteen, all-heartbeats}

-- in a ledger value the key has 32 bytes
most-key : (l : Ledger) → length l.key ≡ 32 → is_set l.set ≡ true → key_bytes l.set ≤ length l.key
most-key l k s = omega (arith, key-most l.set s, k)

plain_so : (l : Ledger) (N A M out : List ℕ) → length l.key ≡ 32 → ledger_answer l N (given A) (length M) (length out) ≡ 0 →
    SealCall l.set (key_of l) N A M out 0 (ledger_output l N (given A) M out)
plain_so l N A M out k e = given-plain l N A M out (most-key l k (ledger_accepted l N (given A) (length M) (length out) e).is-set) e

-- ---- headings, from a fresh ledger

module _ (b : Bool) (set : ℕ) (key : List ℕ) (console : ℕ) (cs : List Call) where
  abbrev new : Ledger
  new = fresh b set key console

  -- nothing is kept under any name at first
  none_kept : (n name : ℕ) → (get_or {A = Heading} (replicate n (record { kept = false; sum = replicate 16 0 })) name (record { kept = false; sum = [] })).kept ≡ false
  none_kept zero name = refl
  none_kept (suc n) zero = refl
  none_kept (suc n) (suc name) = none_kept n name

  no_false : (x y : Bool) → y ≡ false → x && y ≡ false
  no_false true y h = h
  no_false false y h = refl

  under : (name : ℕ) → On name (run new cs) (last_kept name none (accepted new cs))
  unfolding heading_at
  under name = names name cs new none refl (no_false (is_heading_name name) _ (none_kept 8 name))

  kept_so : (name : ℕ) → is_kept (run new cs) name ≡ is_some (last_kept name none (accepted new cs))
  unfolding is_kept is_some
  kept_so name = go (last_kept name none (accepted new cs)) (under name)
    where
      go : (o : Option (List ℕ)) → On name (run new cs) o → is_kept (run new cs) name ≡ is_some o
      go none u = u
      go (some A) u = u.0

  -- the set and the key that a call uses are still those of the making
  its_key : make_answer set key ≡ 0 → ((run new cs).set ≡ set) × (key_of (run new cs) ≡ key) × (length (run new cs).key ≡ 32)
  unfolding key_of
  its_key made =
      let s = same-making cs new in
      let a = make_accepted set key made in
      let k = held-key set key a.0 a.1 in
      rw (s.set-stays, s.key-stays) (refl, k.1, k.0)

  -- so a sealing under the ledger's is one under these
  with_key : (N A M out out' : List ℕ) → make_answer set key ≡ 0 → SealCall (run new cs).set (key_of (run new cs)) N A M out 0 out' → SealCall set key N A M out 0 out'
  with_key N A M out out' made p =
      let i = its_key made in
      subst (λ (k : List ℕ). SealCall set k N A M out 0 out') i.1 (subst (λ (s : ℕ). SealCall s (key_of (run new cs)) N A M out 0 out') i.0 p)

  given_so : (N A M out : List ℕ) → make_answer set key ≡ 0 → ledger_answer (run new cs) N (given A) (length M) (length out) ≡ 0 →
      SealCall set key N A M out 0 (ledger_output (run new cs) N (given A) M out)
  given_so N A M out made e = with_key N A M out _ made (plain_so (run new cs) N A M out (its_key made).2 e)

  named_so : (name : ℕ) (N M out : List ℕ) → make_answer set key ≡ 0 → ledger_answer (run new cs) N (named name) (length M) (length out) ≡ 0 → ByName new set key cs name N M out
  unfolding is_some
  named_so name N M out made e = go (last_kept name none (accepted new cs)) refl (under name)
    where
      go : (o : Option (List ℕ)) → last_kept name none (accepted new cs) ≡ o → On name (run new cs) o → ByName new set key cs name N M out
      go none f u = absurd (false≢true (sym (kept_so name ∙ ap is_some f) ∙ named-kept (run new cs) N name (length M) (length out) e))
      go (some A) f u =
          let i = its_key made in
          record {
            ad = A;
            last-kept = f;
            plain = with_key N A M out _ made
                (named-plain (run new cs) N name A M out u.2 u.1 (most-key (run new cs) i.2 (ledger_accepted (run new cs) N (named name) (length M) (length out) e).is-set) e);
          }

-- ---- a carrying in a list, from a fresh older ledger

-- a list without a carrying accepts none
kept_or_not : (c : Call) (xs : List Call) (x : Bool) → NoCarrying (c ∷ xs) → NoCarrying xs → NoCarrying (cond x (c ∷ xs) xs)
kept_or_not c xs true n m = n
kept_or_not c xs false n m = m

none-accepted : (cs : List Call) (l : Ledger) → NoCarrying cs → NoCarrying (accepted l cs)
unfolding accepted
none-accepted [] l n = tt
none-accepted (seals s ∷ cs) l n = let h = none-accepted cs (after l (seals s)) n in kept_or_not (seals s) _ (eqb (answer_on l (seals s)) 0) h h
none-accepted (keeps k ∷ cs) l n = let h = none-accepted cs (after l (keeps k)) n in kept_or_not (keeps k) _ (eqb (answer_on l (keeps k)) 0) h h
none-accepted (carries ∷ cs) l n = absurd n

module _ (set : ℕ) (key : List ℕ) (console : ℕ) where
  abbrev old : Ledger
  old = fresh false set key console

  older-sum : (cs : List Call) → NoCarrying (accepted old cs) → (run old cs).total ≡ charges false (accepted old cs)
  unfolding charges before_carrying since_carrying
  older-sum cs n =
      let xs = accepted old cs in
      let c = subst (λ (ys : List Call). (before_carrying ys ≡ xs) × (since_carrying ys ≡ [])) (append-nil xs) (cut xs [] n refl) in
      (sums cs old).sum ∙ rw (c.0, c.1) (omega arith)

  at-carrying : (before later : List Call) → is_set set ≡ true → NoCarrying before →
      let l = run old before in
      (run old (before ++ (carries ∷ later))).total ≡ charges false (accepted old before) + charges true (accepted (after l carries) later)
  unfolding run after
  at-carrying before later s n =
      let l = run old before in
      let m = after l carries in
      let z = carried-accepted l (carry_set l (ap is_set (same-making before old).set-stays ∙ s)) in
      let t = ap (λ (x : Ledger). x.total) z in
      let h = ap (λ (x : Ledger). charges x.heartbeats (before_carrying (accepted m later))) z in
      ap (λ (x : Ledger). x.total) (run_append old before (carries ∷ later))
      ∙ omega (arith, (sums later m).sum, t, h, older-sum before (none-accepted before old n), in_two true (accepted m later))

pub ledger_theorems : LedgerTheorems
unfolding make_answer make_rows numbers is_in own_numbers after charges before_carrying since_carrying
ledger_theorems =
    record {
      examples = examples;
      making = λ set key. decides (make_rows set (length key)) refl;
      sealing = ledger_decides;
      keeping = keep_decides;
      carrying = carry_decides;
      makes_where = λ set key. key-accepts set (length key);
      seals_where = seal_accepted;
      keeps_where = keep_accepts;
      carries_where = carry_set;
      not-name = given-name;
      made = made-fresh;
      unmade = made_blank;
      same-making = λ l cs. same-making cs l;
      calls = in_turn;
      counted = λ b set key console cs.
          let h = sums cs (fresh b set key console) in
          record { total = h.sum ∙ omega arith; most = h.within (omega arith); rising = (rises cs (fresh b set key console)).rise-new };
      newer = λ set key console cs. (sums cs (fresh true set key console)).sum ∙ omega (arith, in_two true (accepted (fresh true set key console) cs));
      older = older-sum;
      carried = λ set key console cs before later n e.
          let c = cut before (carries ∷ later) n refl in
          (sums cs (fresh false set key console)).sum ∙ rw (e, c.0, c.1) (omega arith);
      carried-at = at-carrying;
      only-charge = carried-only;
      new-charge = λ l e. ap (λ (m : Ledger). m.heartbeats) (carried-accepted l e);
      stays = λ l cs. (sums cs l).charge-stays;
      same = carried_same;
      again = carried-twice;
      made-carried = made-same;
      plain = plain_so;
      by_value = given_so;
      by_name = named_so;
      is-kept = kept_so;
      no-nonce = λ l k. kept-nonce l k.name k.ad;
      refused = after-refused;
      begins = λ l cs. (rises cs l).begin;
      apart = λ k l cs ds N n x y. n (sym ((rises cs k).begin N x) ∙ (rises ds l).begin N y);
      not-stale = never-stale;
      takes = takes_first;
      full = λ b key console M out g. (sixteen b key g).total-is;
      one-block-more = λ b key console M out room g h. takes-no-more g.console-number (sixteen b key g) 1 room (omega arith) (omega arith) (omega (arith, (example-charges b).1));
      nothing = λ key console M out room g h. takes-more g.console-number (sixteen false key g) 0 room (omega arith) (omega arith) (omega (arith, empty-charges.1));
      heartbeat = λ key console M out room g h. takes-no-more g.console-number (sixteen true key g) 0 room (omega arith) (omega arith) (omega (arith, empty-charges.0));
      heartbeats_fill = λ key console M out g. (all-heartbeats key g).total-is;
      heartbeats_end = λ key console M out room g h. takes-no-more g.console-number (all-heartbeats key g) 0 room (omega arith) (omega arith) (omega (arith, empty-charges.0));
    }
