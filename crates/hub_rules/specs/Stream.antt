-- The run byte by byte: the state between two bytes, and what each byte adds to the output. A chunk is any string of bytes.
-- Assumes nothing.
use Rattle.std.specs.Prelude.{◌≡◌, Bool, true, false, cond, not, ◌&&◌, ◌||◌, List, [], ◌∷◌, ◌++◌, ℕ, suc, ◌+◌, ◌-◌, eqb, ltb, length, take, drop, replicate}
use Rattle.octets.specs.Strings.{eqs}
use Rattle.hub_grammar.specs.Lines.{line_limit, parse}
use Rattle.hub_rules.specs.Answers.{accepted_set, line_for}
use Rattle.hub_rules.specs.Whole.{last_line, first_line, heading, wrong_first, summary_head, row_for, hub}

-- of a line so many bytes are kept: with so many it is malformed, whatever follows
abbrev pub line_kept : ℕ
line_kept = line_limit + 1

-- room for a line of output
abbrev pub line_room : ℕ
line_room = 4200

pub record State : Type 0 where
  -- the lines that have ended, the first among them
  pub lines : ℕ
  -- the first line was another
  pub wrong : Bool
  -- the accepted lines of each set, from set 1 on
  pub counts : List ℕ
  -- the line so far, as much of it as is kept
  pub line : List ℕ

unfoldable pub begin : State
begin = record { lines = 0; wrong = false; counts = replicate 10 0; line = [] }

-- nothing more is read: the first line was wrong, or the last line has ended
unfoldable pub is_done : State → Bool
is_done st = st.wrong || eqb st.lines (last_line + 1)

-- one more for a set, the list's first count being that of set i; none for 0
unfoldable pub counted : ℕ → ℕ → List ℕ → List ℕ
counted i set [] = []
counted i set (c ∷ cs) = (c + cond (eqb set i) 1 0) ∷ counted (i + 1) set cs

-- ---- a line's end

unfoldable pub ended : State → State
ended st =
    record {
      lines = st.lines + 1;
      wrong = eqb st.lines 0 && not (eqs st.line first_line);
      counts = cond (eqb st.lines 0) st.counts (counted 1 (accepted_set (parse st.line)) st.counts);
      line = [];
    }

unfoldable pub end_says : State → List ℕ
end_says st = cond (eqb st.lines 0) (cond (eqs st.line first_line) [] wrong_first) (line_for st.lines st.line)

-- ---- a byte

-- more of the line
unfoldable pub longer : State → List ℕ → State
longer st s = record { lines = st.lines; wrong = st.wrong; counts = st.counts; line = take line_kept (st.line ++ s) }

unfoldable pub next : State → ℕ → State
next st c = cond (is_done st) st (cond (eqb c 10) (ended st) (longer st (c ∷ [])))

unfoldable pub says : State → ℕ → List ℕ
says st c = cond (is_done st) [] (cond (eqb c 10) (end_says st) [])

-- ---- a chunk

unfoldable pub after : State → List ℕ → State
after st [] = st
after st (c ∷ s) = after (next st c) s

unfoldable pub output : State → List ℕ → List ℕ
output st [] = []
output st (c ∷ s) = says st c ++ output (next st c) s

-- ---- the buffer that holds the line so far, with what earlier lines left beyond it

-- t over the bytes of b from a place on
abbrev pub overlaid : ℕ → List ℕ → List ℕ → List ℕ
overlaid at t b = take at b ++ (t ++ drop (at + length t) b)

-- after a byte, which is put at the end of the line, where it is kept
unfoldable pub stored : State → List ℕ → ℕ → List ℕ
stored st b c =
    cond (is_done st) b (cond (eqb c 10) b (cond (ltb (length st.line) line_kept) (overlaid (length st.line) (c ∷ []) b) b))

-- after a chunk
unfoldable pub buffer : State → List ℕ → List ℕ → List ℕ
buffer st b [] = b
buffer st b (c ∷ s) = buffer (next st c) (stored st b c) s

-- ---- how much of a chunk is used up at once

-- up to the end of its first line, or all of it
unfoldable pub first_length : List ℕ → ℕ
first_length [] = 0
first_length (c ∷ s) = suc (cond (eqb c 10) 0 (first_length s))

abbrev pub line_used : State → List ℕ → ℕ
line_used st s = cond (is_done st) (length s) (first_length s)

-- One line after the other, as long as the output has room for a line more. room is the output's length, w what has been
-- said; new says that a line has just ended.
unfoldable pub used_from : Bool → State → ℕ → ℕ → List ℕ → ℕ
used_from new st room w [] = 0
used_from new st room w (c ∷ s) =
    cond (new && ltb (room - w) line_room) 0
    (suc (used_from (not (is_done st) && eqb c 10) (next st c) room (w + length (says st c)) s))

abbrev pub chunk_used : State → ℕ → List ℕ → ℕ
chunk_used st room s = used_from true st room 0 s

-- ---- the end of the input

-- a line without LF, or no first line
unfoldable pub pending : State → Bool
pending st = not (is_done st) && (eqb st.lines 0 || not (eqb (length st.line) 0))

-- the rows, the list's first count being that of set i
unfoldable pub rows_of : ℕ → List ℕ → List ℕ
rows_of i [] = []
rows_of i (c ∷ cs) = row_for i c ++ rows_of (i + 1) cs

unfoldable pub summary : State → List ℕ
summary st = cond st.wrong [] (summary_head ++ rows_of 1 st.counts)

unfoldable pub ending : State → List ℕ
ending st = cond (pending st) (end_says st ++ summary (ended st)) (summary st)

-- ---- every way of cutting the input

unfoldable pub outputs : State → List (List ℕ) → List ℕ
outputs st [] = ending st
outputs st (chunk ∷ chunks) = output st chunk ++ outputs (after st chunk) chunks

unfoldable pub joined : List (List ℕ) → List ℕ
joined [] = []
joined (chunk ∷ chunks) = chunk ++ joined chunks

-- the heading and what the chunks say, put together, are the whole run on the chunks put together
abbrev pub Cutting : Type 0
Cutting = (chunks : List (List ℕ)) → heading ++ outputs begin chunks ≡ hub (joined chunks)
