-- A receiver (request F-7 of document 02): what a making and an opening answer, the next receiver, and the output.
-- Assumes nothing.
use Rattle.std.specs.Prelude.{◌≡◌, Bool, false, cond, List, [], ◌∷◌, ◌++◌, ℕ, ◌-◌, eqb, length, take, drop, replicate}
use Rattle.octets.specs.Numbers.{number}
use Rattle.answers.specs.Rows.{Row, answer}
use Rattle.cba_mode.specs.Sets.{key_bytes}
use Rattle.cba_mode.specs.Open.{is_false, message_of}
use Rattle.cba_rules.specs.Checks.{set_tag, bad_set, bad_nonce, bad_start, long_data, forged, key_rows, ciphertext_rows}
use Rattle.cba_rules.specs.Refusals.{opening, open_leaves}
use Rattle.window_rules.specs.Window.{Window, is_repeat, recorded}

-- the set, the key with zeros after it up to 32 bytes, the number that its nonces begin with, and the window over their counters
pub record Receiver : Type 0 where
  pub set : ℕ
  pub key : List ℕ
  pub prefix : ℕ
  pub window : Window

-- no counter accepted
abbrev pub no_window : Window
no_window = record { begun = false; highest = 0; marks = 0 }

-- no receiver: set 0, a key of zeros, prefix 0 and no counter
abbrev pub no_receiver : Receiver
no_receiver = record { set = 0; key = replicate 32 0; prefix = 0; window = no_window }

-- ---- making: 1, then 2

unfoldable pub make_rows : ℕ → ℕ → List Row
make_rows set key = key_rows set key

unfoldable pub make_answer : ℕ → List ℕ → ℕ
make_answer set key = answer (make_rows set (length key))

-- the key with zeros after it, and no counter
abbrev pub begin : ℕ → List ℕ → ℕ → Receiver
begin set key prefix = record { set = set; key = key ++ replicate (32 - length key) 0; prefix = prefix; window = no_window }

unfoldable pub made_receiver : ℕ → List ℕ → ℕ → Receiver
made_receiver set key prefix = cond (eqb (make_answer set key) 0) (begin set key prefix) no_receiver

-- a receiver that has accepted nothing is fresh, whatever its other fields hold
abbrev pub Fresh : Receiver → Type 0
Fresh v = v.window.begun ≡ false

-- ---- what an opening looks at

-- the key's first bytes, as many as the set's key has
unfoldable pub key_of : Receiver → List ℕ
key_of v = take (key_bytes v.set) v.key

-- the number that a nonce begins with, its first four bytes, and the counter, its last eight, both big-endian
unfoldable pub prefix_of : List ℕ → ℕ
prefix_of N = number (take 4 N)

unfoldable pub counter_of : List ℕ → ℕ
counter_of N = number (drop 4 N)

-- 12, console: the nonce begins with another number
abbrev pub bad_prefix : ℕ → List ℕ → Row
bad_prefix prefix N = bad_start prefix (prefix_of N)

-- 15, repeat
abbrev pub repeated : Bool → Row
repeated again = record { number = 15; when = again }

-- the nonce's own checks: 3, 12
abbrev pub nonce_rows : ℕ → List ℕ → List Row
nonce_rows prefix N = bad_nonce (length N) ∷ bad_prefix prefix N ∷ []

-- ---- opening: 1, 3, 12, 4, 5, 6, 7, 15, 8

-- those between 1 and 15, by the set's t
abbrev pub length_checks : ℕ → ℕ → List ℕ → ℕ → ℕ → ℕ → List Row
length_checks t prefix N ad ciphertext out = nonce_rows prefix N ++ (long_data ad ∷ ciphertext_rows t ciphertext out)

unfoldable pub receiver_rows : Receiver → List ℕ → ℕ → ℕ → ℕ → Bool → List Row
receiver_rows v N ad ciphertext out no-message =
    bad_set v.set
    ∷ (length_checks (set_tag v.set) v.prefix N ad ciphertext out
    ++ (repeated (is_repeat v.window (counter_of N)) ∷ forged no-message ∷ []))

unfoldable pub receiver_answer : Receiver → List ℕ → List ℕ → List ℕ → ℕ → ℕ
receiver_answer v N A C out =
    answer (receiver_rows v N (length A) (length C) out (is_false (opening v.set (key_of v) N A C)))

-- a counter recorded, all else as before
abbrev pub with_counter : Receiver → ℕ → Receiver
with_counter v c = record { set = v.set; key = v.key; prefix = v.prefix; window = recorded v.window c }

-- the next receiver: accepted, with the counter recorded; refused, as before
unfoldable pub next_receiver : Receiver → List ℕ → List ℕ → List ℕ → ℕ → Receiver
next_receiver v N A C out = cond (eqb (receiver_answer v N A C out) 0) (with_counter v (counter_of N)) v

-- the output: what opening leaves after such an answer
unfoldable pub receiver_output : Receiver → List ℕ → List ℕ → List ℕ → List ℕ → List ℕ
receiver_output v N A C out =
    open_leaves (receiver_answer v N A C (length out)) (length C - set_tag v.set) (message_of (opening v.set (key_of v) N A C)) out

-- what an opening promises: its answer r, the next receiver v', and out', the output at exit
pub record ReceiverCall (v : Receiver) (N A C out : List ℕ) (r : ℕ) (v' : Receiver) (out' : List ℕ) : Type 0 where
  pub answer-is : r ≡ receiver_answer v N A C (length out)
  pub next-is : v' ≡ next_receiver v N A C (length out)
  pub output-is : out' ≡ receiver_output v N A C out
