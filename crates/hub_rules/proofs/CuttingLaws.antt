-- Every way of cutting the input into chunks gives the whole run.
-- Assumes nothing.
use mathlib.Core.Path.{◌≡◌, refl, sym, ap, ap₂, ◌∙◌}
use mathlib.Core.Bool.{Bool, true, false, cond, not, ◌&&◌}
use mathlib.Core.List.{List, [], ◌∷◌, ◌++◌, append_assoc}
use mathlib.Core.Logic.{⊎_elim}
use Prim.Native.Nat.{ℕ, zero, suc, ◌+◌, ◌<◌}
use native.Mathlib.Omega.{arith}
use borrow.Author.Tests.{eq-eqb, ne_eqb}
use lib.Dec.{eqb}
use lib.ListN.{length, take, replicate}
use Rattle.octets.specs.Strings.{eqs}
use Rattle.octets.proofs.Tests.{eqs_other}
use Rattle.hub_grammar.specs.Lines.{line_limit, parse}
use Rattle.hub_grammar.specs.Lines.Parsed.{malformed}
use Rattle.hub_rules.specs.Answers.{accepted_set, line_for}
use Rattle.hub_grammar.proofs.Grammar.{parse-long}
use Rattle.hub_rules.proofs.StreamLaws.{after_append, output_append, over-stays, kept, kept_more}
use Rattle.hub_rules.specs.Whole.{last_line, first_line, heading, wrong_first, summary_head, lines_from, at_most, answers_from, count_for, row_for, rows_from, after_the_first, output_of, hub}
use Rattle.hub_rules.specs.Stream.{line_kept, State, begin, is_done, counted, ended, end_says, longer, next, says, after, output, pending, rows_of, summary, ending, outputs, joined, Cutting}

-- ---- chunks

-- all that is said from a state on
whole : State → List ℕ → List ℕ
whole st s = output st s ++ ending (after st s)

outputs-whole : (st : State) (chunks : List (List ℕ)) → outputs st chunks ≡ whole st (joined chunks)
unfolding outputs joined whole output after
outputs-whole st [] = refl
outputs-whole st (a ∷ chunks) =
    let s = joined chunks in
    ap (λ (x : List ℕ). output st a ++ x) (outputs-whole (after st a) chunks)
    ∙ sym (append_assoc (output st a) (output (after st a) s) (ending (after (after st a) s)))
    ∙ ap₂ (λ (x : List ℕ) (y : State). x ++ ending y) (sym (output_append st a s)) (sym (after_append st a s))

over-whole : (st : State) → is_done st ≡ true → (s : List ℕ) → whole st s ≡ ending st
unfolding whole
over-whole st o s = let e = over-stays st o s in rw (e.0, e.1) refl

-- a byte
whole_end : (st : State) (c : ℕ) (s : List ℕ) → is_done st ≡ false → eqb c 10 ≡ true → whole st (c ∷ s) ≡ end_says st ++ whole (ended st) s
unfolding whole output after next says
whole_end st c s o t = rw (o, t) (append_assoc (end_says st) (output (ended st) s) (ending (after (ended st) s)))

whole-more : (st : State) (c : ℕ) (s : List ℕ) → is_done st ≡ false → eqb c 10 ≡ false → whole st (c ∷ s) ≡ whole (longer st (c ∷ [])) s
unfolding whole output after next says
whole-more st c s o n = rw (o, n) refl

-- ---- no more of a line is needed than is kept

-- what is the same for all lines over the limit needs no more
kept_same : {A : Type 0} (f : List ℕ → A) (a : A) → ((v : List ℕ) → line_limit < length v → f v ≡ a) → (w : List ℕ) → f (take line_kept w) ≡ f w
kept_same f a h w =
    ⊎_elim
    (λ (e : take line_kept w ≡ w). ap f e)
    (λ (e : (line_kept < length w) × (length (take line_kept w) ≡ line_kept)). h (take line_kept w) (omega (arith, e.1)) ∙ sym (h w (omega (arith, e.0))))
    (kept w)

parse-kept : (w : List ℕ) → parse (take line_kept w) ≡ parse w
parse-kept = kept_same parse malformed parse-long

first-kept : (w : List ℕ) → eqs (take line_kept w) first_line ≡ eqs w first_line
first-kept = kept_same (λ (v : List ℕ). eqs v first_line) false (λ v h. eqs_other v first_line (λ e. absurd (omega (arith, h, ap length e))))

empty-kept : (w : List ℕ) → eqb (length (take line_kept w)) 0 ≡ eqb (length w) 0
empty-kept = kept_same (λ (v : List ℕ). eqb (length v) 0) false (λ v h. ne_eqb (length v) 0 (λ e. absurd (omega (arith, h, e))))

-- ---- the state of a run that is not wrong: n lines have ended, and w is the line so far

reading : ℕ → List ℕ → List ℕ → State
reading n cs w = record { lines = n; wrong = false; counts = cs; line = take line_kept w }

reading-over : (n : ℕ) (cs w : List ℕ) → is_done (reading n cs w) ≡ eqb n (last_line + 1)
unfolding is_done reading
reading-over n cs w = refl

reading-longer : (n : ℕ) (cs w s : List ℕ) → longer (reading n cs w) s ≡ reading n cs (w ++ s)
unfolding longer reading
reading-longer n cs w s = ap (λ (x : List ℕ). record { lines = n; wrong = false; counts = cs; line = x }) (kept_more w s)

module _ (n : ℕ) (cs w : List ℕ) (h : 0 < n) where
  later : eqb n 0 ≡ false
  later = ne_eqb n 0 (λ e. absurd (omega (arith, h, e)))

  reading-ended : ended (reading n cs w) ≡ reading (n + 1) (counted 1 (accepted_set (parse w)) cs) []
  unfolding ended reading
  reading-ended = rw (later, parse-kept w) refl

  reading-says : end_says (reading n cs w) ≡ line_for n w
  unfolding end_says reading line_for
  reading-says = rw (later, parse-kept w) refl

-- the same, to the end of the input: k more lines are read
pub counted_all : List ℕ → List (List ℕ) → List ℕ
counted_all cs [] = cs
counted_all cs (l ∷ ls) = counted_all (counted 1 (accepted_set (parse l)) cs) ls

-- what is said of the lines ls, of which the first is the n-th
rest : ℕ → List ℕ → List (List ℕ) → List ℕ
rest n cs ls = answers_from n ls ++ (summary_head ++ rows_of 1 (counted_all cs ls))

rest-line : (n : ℕ) (cs l : List ℕ) (ls : List (List ℕ)) → rest n cs (l ∷ ls) ≡ line_for n l ++ rest (n + 1) (counted 1 (accepted_set (parse l)) cs) ls
unfolding rest answers_from counted_all
rest-line n cs l ls = append_assoc (line_for n l) (answers_from (n + 1) ls) (summary_head ++ rows_of 1 (counted_all (counted 1 (accepted_set (parse l)) cs) ls))

at_most-none : (k : ℕ) → at_most k [] ≡ []
unfolding at_most
at_most-none zero = refl
at_most-none (suc k) = refl

-- whether the last line ended without LF
reading-pending : (n : ℕ) (cs w : List ℕ) → 0 < n → pending (reading n cs w) ≡ (not (eqb n (last_line + 1)) && not (eqb (length w) 0))
unfolding pending is_done reading
reading-pending n cs w h = rw (later n cs w h, empty-kept w) refl

settled : (n : ℕ) (cs w : List ℕ) → pending (reading n cs w) ≡ false → ending (reading n cs w) ≡ rest n cs []
unfolding ending summary reading rest answers_from counted_all
settled n cs w p = ap (λ (b : Bool). cond b (end_says (reading n cs w) ++ summary (ended (reading n cs w))) (summary (reading n cs w))) p

unsettled : (n : ℕ) (cs w : List ℕ) → 0 < n → pending (reading n cs w) ≡ true → ending (reading n cs w) ≡ rest n cs (w ∷ [])
unfolding ending summary rest answers_from counted_all reading
unsettled n cs w h p =
    ap (λ (b : Bool). cond b (end_says (reading n cs w) ++ summary (ended (reading n cs w))) (summary (reading n cs w))) p
    ∙ ap₂ (λ (x : List ℕ) (y : State). x ++ summary y) (reading-says n cs w h) (reading-ended n cs w h)
    ∙ sym (rest-line n cs w [])

end_law : (w : List ℕ) (n k : ℕ) (cs : List ℕ) → 0 < n → n + suc k ≡ last_line + 1 → ending (reading n cs w) ≡ rest n cs (at_most (suc k) (lines_from w []))
unfolding lines_from at_most
end_law w n k cs h e = go (eqb (length w) 0) (reading-pending n cs w h ∙ ap (λ (b : Bool). not b && not (eqb (length w) 0)) (ne_eqb n (last_line + 1) (λ z. absurd (omega (arith, z, e)))))
  where
    go : (b : Bool) → pending (reading n cs w) ≡ not b → ending (reading n cs w) ≡ rest n cs (at_most (suc k) (cond b [] (w ∷ [])))
    go true p = settled n cs w p
    go false p = unsettled n cs w h p ∙ ap (λ (x : List (List ℕ)). rest n cs (w ∷ x)) (sym (at_most-none k))

byte_law : (c : ℕ) (s w : List ℕ) (n k : ℕ) (cs : List ℕ) → 0 < n → n + suc k ≡ last_line + 1 →
    whole (reading (n + 1) (counted 1 (accepted_set (parse w)) cs) []) s ≡ rest (n + 1) (counted 1 (accepted_set (parse w)) cs) (at_most k (lines_from [] s)) →
    whole (reading n cs (w ++ (c ∷ []))) s ≡ rest n cs (at_most (suc k) (lines_from (w ++ (c ∷ [])) s)) →
    whole (reading n cs w) (c ∷ s) ≡ rest n cs (at_most (suc k) (lines_from w (c ∷ s)))
unfolding lines_from at_most
byte_law c s w n k cs h e ended_is longer-is = go (eqb c 10) refl
  where
    still : is_done (reading n cs w) ≡ false
    still = reading-over n cs w ∙ ne_eqb n (last_line + 1) (λ z. absurd (omega (arith, z, e)))

    go : (b : Bool) → eqb c 10 ≡ b → whole (reading n cs w) (c ∷ s) ≡ rest n cs (at_most (suc k) (cond b (w ∷ lines_from [] s) (lines_from (w ++ (c ∷ [])) s)))
    go true t =
        whole_end (reading n cs w) c s still t
        ∙ ap₂ (λ (x : List ℕ) (y : State). x ++ whole y s) (reading-says n cs w h) (reading-ended n cs w h)
        ∙ ap (λ (x : List ℕ). line_for n w ++ x) ended_is
        ∙ sym (rest-line n cs w (at_most k (lines_from [] s)))
    go false t = whole-more (reading n cs w) c s still t ∙ ap (λ (x : State). whole x s) (reading-longer n cs w (c ∷ [])) ∙ longer-is

reads : (s w : List ℕ) (n k : ℕ) (cs : List ℕ) → 0 < n → n + k ≡ last_line + 1 → whole (reading n cs w) s ≡ rest n cs (at_most k (lines_from w s))
unfolding at_most whole after output
reads s w n zero cs h e =
    let o : eqb n (last_line + 1) ≡ true = eq-eqb n (last_line + 1) (omega (arith, e)) in
    over-whole (reading n cs w) (reading-over n cs w ∙ o) s ∙ settled n cs w (reading-pending n cs w h ∙ ap (λ (b : Bool). not b && not (eqb (length w) 0)) o)
reads [] w n (suc k) cs h e = end_law w n k cs h e
reads (c ∷ s) w n (suc k) cs h e =
    byte_law c s w n k cs h e (reads s [] (n + 1) k (counted 1 (accepted_set (parse w)) cs) (omega arith) (omega (arith, e))) (reads s (w ++ (c ∷ [])) n (suc k) cs h e)

-- ---- the counts

-- the counts of sets i, i + 1, .. with those of the lines ls added
added : ℕ → List ℕ → List (List ℕ) → List ℕ
added i [] ls = []
added i (c ∷ cs) ls = (c + count_for i ls) ∷ added (i + 1) cs ls

added_none : (i : ℕ) (cs : List ℕ) → added i cs [] ≡ cs
unfolding added count_for
added_none i [] = refl
added_none i (c ∷ cs) = ap₂ ◌∷◌ {x = c + 0} {y = c} (omega arith) (added_none (i + 1) cs)

added-line : (i : ℕ) (cs l : List ℕ) (ls : List (List ℕ)) → added i (counted i (accepted_set (parse l)) cs) ls ≡ added i cs (l ∷ ls)
unfolding added counted count_for
added-line i [] l ls = refl
added-line i (c ∷ cs) l ls =
    let x : ℕ = cond (eqb (accepted_set (parse l)) i) 1 0 in
    ap₂ ◌∷◌ {x = (c + x) + count_for i ls} {y = c + (x + count_for i ls)} (omega arith) (added-line (i + 1) cs l ls)

counted-all : (cs : List ℕ) (ls : List (List ℕ)) → counted_all cs ls ≡ added 1 cs ls
unfolding counted_all
counted-all cs [] = sym (added_none 1 cs)
counted-all cs (l ∷ ls) = counted-all (counted 1 (accepted_set (parse l)) cs) ls ∙ added-line 1 cs l ls

rows-added : (k i : ℕ) (ls : List (List ℕ)) → rows_of i (added i (replicate k 0) ls) ≡ rows_from k i ls
unfolding rows_of added rows_from
rows-added zero i ls = refl
rows-added (suc k) i ls = ap₂ (λ (n : ℕ) (x : List ℕ). row_for i n ++ x) {x = 0 + count_for i ls} {y = count_for i ls} (omega arith) (rows-added k (i + 1) ls)

-- ---- the first line

after_first : (s : List ℕ) → whole (reading 1 (replicate 10 0) []) s ≡ after_the_first (lines_from [] s)
unfolding after_the_first rest
after_first s =
    let ls = at_most last_line (lines_from [] s) in
    reads s [] 1 last_line (replicate 10 0) (omega arith) (omega arith)
    ∙ ap (λ (x : List ℕ). answers_from 1 ls ++ (summary_head ++ x)) (ap (rows_of 1) (counted-all (replicate 10 0) ls) ∙ rows-added 10 1 ls)

-- a first line that has ended, with the rest of the input
first-line : (w s : List ℕ) → end_says (reading 0 (replicate 10 0) w) ++ whole (ended (reading 0 (replicate 10 0) w)) s ≡ output_of (w ∷ lines_from [] s)
unfolding output_of end_says ended reading is_done ending pending summary
first-line w s = rw (first-kept w) (go (eqs w first_line))
  where
    go : (b : Bool) → cond b [] wrong_first ++ whole (record { lines = 1; wrong = not b; counts = replicate 10 0; line = [] }) s ≡ cond b (after_the_first (lines_from [] s)) wrong_first
    go true = after_first s
    go false = ap (λ (x : List ℕ). wrong_first ++ x) (over-whole (record { lines = 1; wrong = true; counts = replicate 10 0; line = [] }) refl s)

first_end : (w : List ℕ) → ending (reading 0 (replicate 10 0) w) ≡ output_of (lines_from w [])
unfolding ending pending is_done reading whole output after lines_from ended output_of
first_end w = ap (λ (x : List ℕ). end_says (reading 0 (replicate 10 0) w) ++ x) (sym (no_more (eqs (take line_kept w) first_line))) ∙ first-line w [] ∙ empty w
  where
    no_more : (b : Bool) → ending (record { lines = 1; wrong = not b; counts = replicate 10 0; line = [] }) ≡ summary (record { lines = 1; wrong = not b; counts = replicate 10 0; line = [] })
    no_more true = refl
    no_more false = refl

    empty : (w : List ℕ) → output_of (w ∷ []) ≡ output_of (cond (eqb (length w) 0) [] (w ∷ []))
    empty [] = refl
    empty (x ∷ w) = rw (ne_eqb (suc (length w)) 0 (λ z. absurd (omega (arith, z)))) refl

first_byte : (c : ℕ) (s w : List ℕ) → whole (reading 0 (replicate 10 0) (w ++ (c ∷ []))) s ≡ output_of (lines_from (w ++ (c ∷ [])) s) →
    whole (reading 0 (replicate 10 0) w) (c ∷ s) ≡ output_of (lines_from w (c ∷ s))
unfolding lines_from
first_byte c s w longer-is = go (eqb c 10) refl
  where
    go : (b : Bool) → eqb c 10 ≡ b → whole (reading 0 (replicate 10 0) w) (c ∷ s) ≡ output_of (cond b (w ∷ lines_from [] s) (lines_from (w ++ (c ∷ [])) s))
    go true t = whole_end (reading 0 (replicate 10 0) w) c s (reading-over 0 (replicate 10 0) w) t ∙ first-line w s
    go false t =
        whole-more (reading 0 (replicate 10 0) w) c s (reading-over 0 (replicate 10 0) w) t
        ∙ ap (λ (x : State). whole x s) (reading-longer 0 (replicate 10 0) w (c ∷ []))
        ∙ longer-is

firsts : (s w : List ℕ) → whole (reading 0 (replicate 10 0) w) s ≡ output_of (lines_from w s)
unfolding whole output after
firsts [] w = first_end w
firsts (c ∷ s) w = first_byte c s w (firsts s (w ++ (c ∷ [])))

pub cutting : Cutting
unfolding begin reading hub
cutting chunks = ap (λ (x : List ℕ). heading ++ x) (outputs-whole begin chunks ∙ firsts (joined chunks) [])
