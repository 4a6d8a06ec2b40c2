-- The two calls about marks: what an answer says, and that a making and a checking agree.
-- Assumes nothing.
use mathlib.Core.Path.{◌≡◌, refl, sym, ap, subst, ◌∙◌}
use mathlib.Core.Bool.{Bool, true, false, not, ◌&&◌}
use mathlib.Core.List.{List, [], ◌∷◌, ◌++◌}
use Prim.Native.Nat.{ℕ, ◌≤◌}
use native.Mathlib.Omega.{arith}
use borrow.Author.Tests.{ne_eqb, le-ltb, ltb-false, leb-true, le-leb}
use lib.Dec.{T, eqb, leb}
use lib.ListN.{length, take, drop, length-take}
use lib.Seq.{take_at}
use Rattle.octets.specs.Strings.{Bytes, Octets, eqs}
use Rattle.octets.specs.Count.{bit, count}
use Rattle.octets.proofs.Strings.{bytes_take}
use Rattle.octets.proofs.Tests.{eqs→eq, eqs-same, eqs_other}
use Rattle.octets.proofs.Count.{total-only}
use Rattle.answers.specs.Rows.{Row, answer, Passes, numbers, is_in, own_numbers, Decides}
use Rattle.answers.proofs.RowLaws.{both, not-false, accepts, refuses, passed, refused, passes-parts, decides}
use Rattle.fips197.specs.Schedule.{is_key}
use Rattle.fips197.proofs.Inverses.{encrypted-octets}
use Rattle.cba_rules.specs.Checks.{no_room, forged}
use Rattle.cmac_rules.specs.Cmac.{CMAC, cmac, mark}
use Rattle.cmac_rules.specs.Marks.{mark_rows, make_rows, check_rows, make_answer, make_output, is_start, is_wrong, check_answer, MakeCall, CheckCall}
use Rattle.cmac_rules.proofs.Examples.{subkeys, figure, starts, making-examples, checking_examples}
use Rattle.cmac_rules.specs.Theorems.{Given, Made, Checked, MarkTheorems}

-- ---- lengths

cmac-octets : (key log : List ℕ) → Bytes key → is_key key ≡ true → Octets 16 (cmac key log)
unfolding CMAC cmac
cmac-octets key log b h = encrypted-octets key b h _

mark-octets : (key log : List ℕ) (n : ℕ) → Bytes key → is_key key ≡ true → n ≤ 16 → Octets n (mark key log n)
unfolding mark
mark-octets key log n b h k =
    let o = cmac-octets key log b h in
    record { size = length-take n (cmac key log) ∙ omega (arith, o.size); small = bytes_take n (cmac key log) o.small }

-- ---- the rows have numbers of their own

module _ (key : List ℕ) (log n : ℕ) where
  pub own-mark : own_numbers (numbers (mark_rows key log n)) ≡ true
  unfolding numbers is_in own_numbers
  own-mark = refl

  own_make : (out : ℕ) → own_numbers (numbers (make_rows key log n out)) ≡ true
  unfolding numbers is_in own_numbers
  own_make out = refl

  own-check : (wrong : Bool) → own_numbers (numbers (check_rows key log n wrong)) ≡ true
  unfolding numbers is_in own_numbers
  own-check wrong = refl

  -- ---- the checks that both calls begin with

  pub given-passes : (rows : List Row) → Given key log n → Passes rows → Passes (mark_rows key log n ++ rows)
  given-passes rows c p = (ap not c.is-key, (le-ltb 65536 log c.limit, (rw (le-leb 4 n c.least, le-leb n 16 c.most) refl, p)))

  passes-given : Passes (mark_rows key log n) → Given key log n
  passes-given p =
      let m = both (leb 4 n) (leb n 16) (not-false (leb 4 n && leb n 16) p.1.1.0) in
      record { is-key = not-false (is_key key) p.0; limit = ltb-false 65536 log p.1.0; least = leb-true 4 n m.0; most = leb-true n 16 m.1 }

  pub answered-given : answer (mark_rows key log n) ≡ 0 → Given key log n
  answered-given e = passes-given (passed (mark_rows key log n) own-mark e)

-- ---- making

module _ (key log : List ℕ) (n : ℕ) (out : List ℕ) where
  make_accepts : Given key (length log) n → n ≤ length out → make_answer key log n out ≡ 0
  unfolding make_answer
  make_accepts g h =
      accepts (make_rows key (length log) n (length out))
      (given-passes key (length log) n (no_room n (length out) ∷ []) g (le-ltb (length out) n h, tt))

  make_accepted : make_answer key log n out ≡ 0 → Given key (length log) n
  unfolding make_answer
  make_accepted e =
      passes-given key (length log) n
      (passes-parts (mark_rows key (length log) n) (no_room n (length out) ∷ [])
      (passed (make_rows key (length log) n (length out)) (own_make key (length log) n (length out)) e)).0

  pub make_untouched : (make_answer key log n out ≡ 0 → ⊥) → make_output key log n out ≡ out
  unfolding make_output
  make_untouched h = rw (ne_eqb (make_answer key log n out) 0 h)

  make_written : make_answer key log n out ≡ 0 → Bytes key → make_output key log n out ≡ mark key log n ++ drop n out
  unfolding make_output
  make_written e b =
      let c = make_accepted e in
      rw e (ap (λ (k : ℕ). mark key log n ++ drop k out) (mark-octets key log n b c.is-key c.most).size)

  makes : (r : ℕ) (out' : List ℕ) → MakeCall key log n out r out' → Made key log n out r out'
  unfolding make_answer mark
  makes r out' c =
      let rows = make_rows key (length log) n (length out) in
      record {
        decides = subst (Decides rows) (sym c.0) (decides rows (own_make key (length log) n (length out)));
        accepted = λ g h. c.0 ∙ make_accepts g h;
        untouched = λ h. c.1 ∙ make_untouched (λ z. h (c.0 ∙ z));
        written = λ e b. c.1 ∙ make_written (sym c.0 ∙ e) b;
      }

-- ---- checking

module _ (key log m : List ℕ) where
  is_right : is_wrong key log m ≡ false → m ≡ mark key log (length m)
  unfolding is_start is_wrong mark
  is_right e = eqs→eq m (mark key log (length m)) (subst T (sym (not-false (eqs m (mark key log (length m))) e)) tt)

  right-mark : m ≡ mark key log (length m) → is_wrong key log m ≡ false
  unfolding is_start is_wrong mark
  right-mark e = ap (λ (x : List ℕ). not (eqs m x)) (sym e) ∙ ap not (eqs-same m)

  wrong-mark : (m ≡ mark key log (length m) → ⊥) → is_wrong key log m ≡ true
  unfolding is_start is_wrong mark
  wrong-mark h = ap not (eqs_other m (mark key log (length m)) h)

  abbrev rows : List Row
  rows = check_rows key (length log) (length m) (is_wrong key log m)

  own : own_numbers (numbers rows) ≡ true
  own = own-check key (length log) (length m) (is_wrong key log m)

  check-accepted : check_answer key log m ≡ 0 → m ≡ mark key log (length m)
  unfolding check_answer
  check-accepted e = is_right (passes-parts (mark_rows key (length log) (length m)) (forged (is_wrong key log m) ∷ []) (passed rows own e)).1.0

  check-false : check_answer key log m ≡ 8 → m ≡ mark key log (length m) → ⊥
  unfolding check_answer
  check-false e h = subst T (sym (refused (mark_rows key (length log) (length m)) (forged (is_wrong key log m)) [] own e).1 ∙ right-mark h) tt

  -- where what both calls begin with passes, and n is the length
  module _ {n : ℕ} (e : length m ≡ n) (c : Given key (length log) n) where
    begins : (more : List Row) → Passes more → Passes (mark_rows key (length log) (length m) ++ more)
    begins more p = given-passes key (length log) (length m) more (subst (Given key (length log)) (sym e) c) p

    check-yes : m ≡ mark key log n → check_answer key log m ≡ 0
    unfolding check_answer
    check-yes h =
        accepts rows
        (begins (forged (is_wrong key log m) ∷ []) (right-mark (h ∙ ap (mark key log) (sym e)), tt))

    check-no : (m ≡ mark key log n → ⊥) → check_answer key log m ≡ 8
    unfolding check_answer
    check-no h =
        refuses (mark_rows key (length log) (length m)) (forged (is_wrong key log m)) [] (begins [] tt)
        (wrong-mark (λ x. h (x ∙ ap (mark key log) e)))

  checks : (r : ℕ) → CheckCall key log m r → Checked key log m r
  unfolding check_answer mark
  checks r c =
      record {
        decides = subst (Decides rows) (sym c) (decides rows own);
        right = λ e. check-accepted (sym c ∙ e);
        yes = λ g h. c ∙ check-yes refl g h;
        wrong = λ e h. check-false (sym c ∙ e) h;
        no = λ g h. c ∙ check-no refl g h;
      }

-- ---- both calls

pub mark-theorems : MarkTheorems
unfolding bit count
mark-theorems =
    record {
      subkeys = subkeys;
      figure = figure;
      starts = starts;
      making-examples = making-examples;
      checking_examples = checking_examples;
      makes = makes;
      checks = checks;
      size = λ key log b h. (cmac-octets key log b h).size;
      agree = λ key log n out r out' b c e.
          let z : make_answer key log n out ≡ 0 = sym c.0 ∙ e in
          let a = make_accepted key log n out z in
          let l : length (mark key log n) ≡ n = (mark-octets key log n b a.is-key a.most).size in
          let w : take n out' ≡ mark key log n = rw (c.1, make_written key log n out z b) (take_at (mark key log n) (drop n out) n l) in
          sym (check-yes key log (take n out') (ap length w ∙ l) a w);
      one = λ key log n b g.
          let x = mark key log n in
          let o = mark-octets key log n b g.is-key g.most in
          total-only n (λ m. bit (eqb (check_answer key log m) 0)) x o
          (λ m v ne. ap (λ (a : ℕ). bit (eqb a 0)) (check-no key log m v.size g ne))
          ∙ ap (λ (a : ℕ). bit (eqb a 0)) (check-yes key log x o.size g refl);
    }
