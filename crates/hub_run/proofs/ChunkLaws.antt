-- A chunk up to the end of its first line, and chunk after chunk.
-- Assumes nothing.
use mathlib.Core.Path.{◌≡◌, refl, sym, ap, ap₂, subst, ◌∙◌}
use mathlib.Core.Bool.{Bool, true, false}
use mathlib.Core.List.{List, [], ◌∷◌, ◌++◌, append_assoc}
use Prim.Native.Nat.{ℕ, ◌+◌, ◌-◌, ◌<◌, ◌≤◌, min}
use native.Mathlib.Omega.{arith}
use lib.ListN.{length, take, drop, length-append, length-take, length-drop, take-append-drop}
use lib.Seq.{take_all, take_at, length-take-le}
use mathlib.Core.Logic.{⊎_elim}
use Rattle.text.proofs.WritingLaws.{middle_length, puts_most, puts_then}
use Rattle.octets.proofs.Parts.{put_at}
use Rattle.hub_grammar.specs.Lines.{length_before}
use Rattle.text.specs.Writing.{Puts}
use Rattle.hub_run.specs.Held.{Kept, extended, Held, value_of}
use Rattle.hub_run.specs.declared.chunk.Fed.{Fed}
use Rattle.hub_rules.specs.Stream.{line_room, line_kept, State, is_done, ended, end_says, longer, after, output, overlaid, buffer, used_from, chunk_used}
use Rattle.hub_run.specs.Values.{Goes, Ends, FeedsLine, FeedsChunk}
use Rattle.hub_rules.proofs.StreamLaws.{after_append, output_append, over-stays, longer-over, piece, with_end, with_line}
use Rattle.hub_rules.proofs.BufferLaws.{buffer_append, over-keeps, end_keeps, piece-kept}
use Rattle.hub_rules.proofs.UsedLaws.{first-all, first-line, goes_on, stops, none_left, line-used}
use Rattle.octets.proofs.Tests.{le_or_lt}

-- ---- what the code keeps of a piece: n bytes of it, over the buffer from the line's end on

kept_piece : (a p : List ℕ) (n : ℕ) → length a ≤ line_kept → n ≡ min (length p) (line_kept - length a) → a ++ take n p ≡ take line_kept (a ++ p)
kept_piece a p n h e =
    ⊎_elim
    (λ (q : length p ≤ line_kept - length a).
    ap (λ (x : List ℕ). a ++ x) (take_all n p (omega (arith, e, q))) ∙ sym (take_all line_kept (a ++ p) (omega (arith, length-append a p, h, q))))
    (λ (q : line_kept - length a < length p).
    sym
    (ap (λ (x : List ℕ). take line_kept (a ++ x)) (sym (take-append-drop n p))
    ∙ ap (take line_kept) (sym (append_assoc a (take n p) (drop n p)))
    ∙ take_at (a ++ take n p) (drop n p) line_kept (length-append a (take n p) ∙ omega (arith, length-take n p, e, q, h))))
    (le_or_lt (length p) (line_kept - length a))

take-least : (s : List ℕ) (k n : ℕ) → n ≡ min (length s) k → take n s ≡ take k s
take-least s k n e =
    ⊎_elim
    (λ (q : length s ≤ k). take_all n s (omega (arith, e, q)) ∙ sym (take_all k s q))
    (λ (q : k < length s). ap (λ (i : ℕ). take i s) {x = n} {y = k} (omega (arith, e, q)))
    (le_or_lt (length s) k)

-- bytes is the buffer, of which n bytes are the line so far
module _ (bytes piece last : List ℕ) (at n : ℕ) (m : at ≤ line_kept) (room : length bytes ≡ line_kept) (e : n ≡ min (length piece) (line_kept - at))
    (w : last ≡ take n piece ++ drop (length (take n piece)) (take (line_kept - at) (drop at bytes))) where
  pub extends : let bytes' = take at bytes ++ (last ++ drop (line_kept - at) (drop at bytes)) in
      ◌≡◌ {A = Kept} (record { line = take (at + n) bytes'; bytes = bytes' }) (extended (record { line = take at bytes; bytes = bytes }) piece)
  extends =
      let t = take n piece in
      let a = take at bytes in
      let lt : length t ≡ n = length-take n piece ∙ omega (arith, e) in
      let la : length a ≡ at = length-take at bytes ∙ omega (arith, room, m) in
      let bytes' = a ++ (last ++ drop (line_kept - at) (drop at bytes)) in
      let put : bytes' ≡ overlaid at t bytes =
      ap (λ (x : ℕ). a ++ (last ++ drop (x - at) (drop at bytes))) (sym room)
      ∙ put_at bytes at t last (omega (arith, lt, e, room)) (subst (λ (x : ℕ). last ≡ t ++ drop (length t) (take (x - at) (drop at bytes))) (sym room) w) in
      let w' : bytes' ≡ (a ++ t) ++ drop (at + length t) bytes = put ∙ sym (append_assoc a t (drop (at + length t) bytes)) in
      let l : length (a ++ t) ≡ at + n = length-append a t ∙ omega (arith, la, lt) in
      ap₂ (λ (x y : List ℕ). record { line = x; bytes = y })
      (ap (take (at + n)) w' ∙ take_at (a ++ t) (drop (at + length t) bytes) (at + n) l ∙ kept_piece a piece n (omega (arith, la, m)) (e ∙ ap (λ (x : ℕ). min (length piece) (line_kept - x)) (sym la)))
      (put ∙ ap (λ (x : List ℕ). overlaid at x bytes) (take-least piece (line_kept - at) n e) ∙ ap (λ (x : ℕ). overlaid x (take (line_kept - x) piece) bytes) (sym la))

-- ---- feeding

-- more of the line is kept
pub record KeepsPiece (h : Held) (piece : List ℕ) (k : Held) : Type 0 where
  pub state-is : k.state ≡ longer h.state piece
  pub bytes_are : k.bytes ≡ overlaid (length h.state.line) (take (line_kept - length h.state.line) piece) h.bytes

pub keeps : (lines : ℕ) (wrong : Bool) (counts : List ℕ) (l l' : Kept) (piece : List ℕ) → l' ≡ extended l piece →
    KeepsPiece (value_of lines wrong counts l) piece (value_of lines wrong counts l')
unfolding longer
keeps lines wrong counts l l' piece e = record { state-is = rw e refl; bytes_are = rw e refl }

-- a line that is at most as long as is kept, in a buffer with room for one
module _ (h : Held) (chunk : List ℕ) where
  pub feeds_over : (d : List ℕ) → is_done h.state ≡ true → FeedsLine h chunk (record { used = length chunk; written = 0 }) h d d
  feeds_over d o =
      let e = over-stays h.state o (take (length chunk) chunk) in
      record {
        used_is = rw o refl;
        used_most = omega arith;
        used_some = λ p. p;
        written-most = omega arith;
        goes = record { state-is = sym e.0; said = rw e.1 (refl, refl) };
        bytes_are = sym (over-keeps h.state o h.bytes (take (length chunk) chunk));
      }

  module _ (o : is_done h.state ≡ false) (n : ℕ) (b : n ≡ length_before 10 chunk) (line-size : length h.state.line ≤ line_kept) (room : line_kept ≤ length h.bytes)
      (k : Held) (t : KeepsPiece h (take n chunk) k) where
    -- the buffer after the piece
    piece_is : k.bytes ≡ buffer h.state h.bytes (take n chunk)
    piece_is = t.bytes_are ∙ rw b (sym (piece-kept chunk h.state h.bytes o line-size room))

    pub feeds_piece : (d : List ℕ) → n ≡ length chunk → FeedsLine h chunk (record { used = n; written = 0 }) k d d
    feeds_piece d l =
        let e = piece chunk h.state o line-size in
        record {
          used_is = rw o (b ∙ first-all chunk (sym b ∙ l));
          used_most = omega (arith, l);
          used_some = λ p. omega (arith, l, p);
          written-most = omega arith;
          goes = record { state-is = t.state-is ∙ rw b (sym e.0); said = rw (b, e.1) (refl, refl) };
          bytes_are = piece_is;
        }

    pub feeds_line : (d out : List ℕ) (g : Held) (r : ℕ) → length out ≡ length d → n ≤ length chunk → (n ≡ length chunk → ⊥) → Ends k r g d out →
        FeedsLine h chunk (record { used = n + 1; written = r }) g d out
    feeds_line d out g r z m l w =
        let less : length_before 10 chunk < length chunk = omega (arith, sym b, m, l) in
        let e = with_line chunk h.state o line-size less in
        let p = take (length_before 10 chunk) chunk in
        let k-is : k.state ≡ longer h.state p = t.state-is ∙ ap (λ (x : ℕ). longer h.state (take x chunk)) b in
        record {
          used_is = rw o (ap (λ (x : ℕ). x + 1) b ∙ first-line chunk less);
          used_most = omega (arith, m, l);
          used_some = λ p. omega arith;
          written-most = omega (arith, puts_most (end_says k.state) d out r w.goes.said, z);
          goes =
              record {
                state-is = w.goes.state-is ∙ ap ended k-is ∙ sym e.0 ∙ ap (λ (x : ℕ). after h.state (take (x + 1) chunk)) (sym b);
                said = subst (λ (x : List ℕ). Puts x r d out) (ap end_says k-is ∙ sym e.1 ∙ ap (λ (x : ℕ). output h.state (take (x + 1) chunk)) (sym b)) w.goes.said;
              };
          bytes_are =
              w.bytes_are
              ∙ sym
              (ap (λ (x : ℕ). buffer h.state h.bytes (take (x + 1) chunk)) b
              ∙ ap (buffer h.state h.bytes) (with_end chunk less)
              ∙ buffer_append h.state h.bytes p (10 ∷ [])
              ∙ ap₂ (λ (x : State) (y : List ℕ). buffer x y (10 ∷ [])) (piece chunk h.state o line-size).0 (ap (λ (x : ℕ). buffer h.state h.bytes (take x chunk)) (sym b) ∙ sym piece_is)
              ∙ end_keeps (longer h.state p) (longer-over h.state p ∙ o) k.bytes);
        }

-- ---- one line of a chunk after the other: all but the rest is used up

pub record Feeding (h : Held) (chunk d : List ℕ) (next : Held) (rest : List ℕ) (written : ℕ) (out : List ℕ) : Type 0 where
  pub fed : List ℕ
  pub whole : fed ++ rest ≡ chunk
  pub written-most : written ≤ length out
  pub same_out : length out ≡ length d
  pub small : length d < 18446744073709551616
  -- so that a first line always goes in
  pub none : length fed ≡ 0 → written ≡ 0
  pub goes : Goes (after h.state fed) (output h.state fed) next written d out
  pub bytes_are : next.bytes ≡ buffer h.state h.bytes fed
  -- what is used up in all
  pub all : length fed + used_from true next.state (length d) written rest ≡ chunk_used h.state (length d) chunk

pub feeding_none : (h : Held) (chunk d : List ℕ) → length d < 18446744073709551616 → Feeding h chunk d h chunk 0 d
unfolding after output buffer
feeding_none h chunk d b =
    record {
      fed = [];
      whole = refl;
      written-most = omega arith;
      same_out = refl;
      small = b;
      none = λ e. refl;
      goes = record { state-is = refl; said = (refl, refl) };
      bytes_are = refl;
      all = omega arith;
    }

empty : (s : List ℕ) → length s ≤ 0 → s ≡ []
empty [] h = refl
empty (x ∷ s) h = absurd (omega (arith, h))

module _ {h : Held} {chunk d : List ℕ} {next : Held} {rest : List ℕ} {written : ℕ} {out : List ℕ} (f : Feeding h chunk d next rest written out) where
  pub feeding_within : length f.fed + length rest ≡ length chunk
  feeding_within = sym (length-append f.fed rest) ∙ ap length f.whole

  module _ (r : Fed) (next' : Held) (last : List ℕ) (m : length last ≡ length (take (length out - written) (drop written out))) (u : 0 < length rest) (q : line_room ≤ length out - written)
      (w : FeedsLine next rest r next' (take (length out - written) (drop written out)) last) where
    -- the code lends the rest by its length
    rest-is : take (length rest - r.used) (drop r.used rest) ≡ drop r.used rest
    rest-is = take_all (length rest - r.used) (drop r.used rest) (omega (arith, length-drop r.used rest))

    pub feeding_less : length (take (length rest - r.used) (drop r.used rest)) < length rest
    feeding_less = omega (arith, u, w.used_some u, w.used_most, ap length rest-is, length-drop r.used rest)

    pub feeding_turn : Feeding h chunk d next' (take (length rest - r.used) (drop r.used rest)) (written + r.written) (take written out ++ (last ++ drop (length out - written) (drop written out)))
    feeding_turn =
        let st = h.state in
        let p = take r.used rest in
        let g = w.goes in
        let lf : length (f.fed ++ p) ≡ length f.fed + r.used =
        length-append f.fed p ∙ ap (λ (x : ℕ). length f.fed + x) (length-take-le r.used rest w.used_most) in
        let part = take (length out - written) (drop written out) in
        let lp : length part ≡ length out - written = length-take (length out - written) (drop written out) ∙ omega (arith, length-drop written out) in
        let room : written + r.written ≤ length out = omega (arith, w.written-most, lp, f.written-most) in
        let long = middle_length out last written r.written room m in
        record {
          fed = f.fed ++ p;
          whole = append_assoc f.fed p _ ∙ ap (λ (x : List ℕ). f.fed ++ x) (ap (λ (x : List ℕ). p ++ x) rest-is ∙ take-append-drop r.used rest) ∙ f.whole;
          written-most = omega (arith, room, long);
          same_out = long ∙ f.same_out;
          small = f.small;
          none = λ z. absurd (omega (arith, z, lf, w.used_some u));
          goes =
              record {
                state-is = g.state-is ∙ ap (λ (x : State). after x p) f.goes.state-is ∙ sym (after_append st f.fed p);
                said =
                    subst (λ (x : List ℕ). Puts x (written + r.written) d (take written out ++ (last ++ drop (length out - written) (drop written out))))
                    (ap (λ (x : State). output st f.fed ++ output x p) f.goes.state-is ∙ sym (output_append st f.fed p))
                    (puts_then d out (output st f.fed) (output next.state p) last written r.written f.goes.said room g.said);
              };
          bytes_are =
              w.bytes_are
              ∙ ap₂ (λ (x : State) (y : List ℕ). buffer x y p) f.goes.state-is f.bytes_are
              ∙ sym (buffer_append st h.bytes f.fed p);
          all =
              ap₂ (λ (x : State) (y : ℕ). length (f.fed ++ p) + used_from true x (length d) (written + y) (take (length rest - r.used) (drop r.used rest))) g.state-is g.said.0
              ∙ ap (λ (z : List ℕ). length (f.fed ++ p) + used_from true (after next.state p) (length d) (written + length (output next.state p)) z) rest-is
              ∙ omega (arith, used_next, lf)
              ∙ ap (λ (z : ℕ). length f.fed + z) (sym (goes_on (length d) next.state written rest (omega (arith, q, f.same_out))))
              ∙ f.all;
        }
      where
        used_next : used_from false next.state (length d) written rest
            ≡ r.used + used_from true (after next.state (take r.used rest)) (length d) (written + length (output next.state (take r.used rest))) (drop r.used rest)
        used_next = line-used (length d) next.state written rest r.used w.used_is

  pub feeding_small : (r : ℕ) → r ≤ length (take (length out - written) (drop written out)) → written + r < 18446744073709551616
  feeding_small r m = omega (arith, m, length-take (length out - written) (drop written out), length-drop written out, f.written-most, f.same_out, f.small)

  -- it stops where all is used up, or for want of room, but never before the first line
  stopped : used_from true next.state (length d) written rest ≡ 0 → (0 < length chunk → 0 < length f.fed) → FeedsChunk h chunk (record { used = length chunk - length rest; written = written }) next d out
  stopped e some =
      let n : length f.fed ≡ length chunk - length rest = omega (arith, feeding_within) in
      let cut : take (length chunk - length rest) chunk ≡ f.fed = ap (take (length chunk - length rest)) (sym f.whole) ∙ take_at f.fed rest (length chunk - length rest) n in
      record {
        used_is = omega (arith, n, e, f.all);
        used_most = omega arith;
        used_some = λ p. omega (arith, n, some p);
        written-most = omega (arith, f.written-most, f.same_out);
        goes = subst (λ (x : List ℕ). Goes (after h.state x) (output h.state x) next written d out) (sym cut) f.goes;
        bytes_are = f.bytes_are ∙ ap (buffer h.state h.bytes) (sym cut);
      }

  pub feeding_end : length rest ≤ 0 → FeedsChunk h chunk (record { used = length chunk - length rest; written = written }) next d out
  feeding_end u =
      stopped (ap (used_from true next.state (length d) written) (empty rest u) ∙ none_left (length d) next.state written) (λ p. omega (arith, p, u, feeding_within))

  pub feeding_full : line_room ≤ length d → length out - written < line_room → FeedsChunk h chunk (record { used = length chunk - length rest; written = written }) next d out
  feeding_full m q =
      let some : 0 < length f.fed = ⊎_elim (λ (z : length f.fed ≤ 0). absurd (omega (arith, m, q, f.same_out, f.none (omega (arith, z))))) (λ (z : 0 < length f.fed). z) (le_or_lt (length f.fed) 0) in
      stopped (stops (length d) next.state written rest (omega (arith, q, f.same_out))) (λ p. some)
