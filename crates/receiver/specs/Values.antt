-- The code's receiver as the definitions' one, field by field, and what its calls promise.
-- Assumes nothing.
use Rattle.std.specs.Prelude.{List, ℕ, Result, Ok, Err}
use Rattle.answers.specs.declared.refusals.Refusal.{Refusal}
use Rattle.answers.specs.Refusals.{number_of, number_of_refusal}
use Rattle.receiver.specs.declared.receiver.Outcome.{Outcome}
use Rattle.receiver.specs.declared.receiver.Receiver.{Receiver}
use Rattle.receiver.specs.declared.window.Window.{Window}
use Rattle.window_rules.specs.Window as windows
use Rattle.receiver_rules.specs.Receiver.{ReceiverCall}
use Rattle.receiver_rules.specs.Receiver as rules

abbrev pub window_of : Window → windows.Window
window_of w = record { begun = w.begun; highest = w.highest; marks = w.marks }

abbrev pub value_of : Receiver → rules.Receiver
value_of v = record { set = v.set; key = v.key; prefix = v.prefix; window = window_of v.window }

-- an opening: what it gives back, r, and out', the output at exit
abbrev pub Received : Receiver → List ℕ → List ℕ → List ℕ → List ℕ → Outcome → List ℕ → Type 0
Received v N A C out r out' = ReceiverCall (value_of v) N A C out (number_of r.answer) (value_of r.receiver) out'

-- the same of the receiver after it, or the refusal, which leaves the receiver
abbrev pub Tried : Receiver → List ℕ → List ℕ → List ℕ → List ℕ → Result Receiver Refusal → List ℕ → Type 0
Tried v N A C out (Ok v') out' = ReceiverCall (value_of v) N A C out 0 (value_of v') out'
Tried v N A C out (Err r) out' = ReceiverCall (value_of v) N A C out (number_of_refusal r) (value_of v) out'
