-- The records of a script: the receiver that each of them asks for. A record is a string of 64 bytes; the head of src/main.rt says what
-- stands where.
-- Assumes nothing.
use Rattle.std.specs.Prelude.{List, ℕ, ◌+◌, min, get_or}
use Rattle.script.specs.Records.{four, eight, flag, part}
use Rattle.receiver_rules.specs.Receiver.{Receiver, made_receiver}

-- make
abbrev pub made_by : List ℕ → Receiver
made_by r = made_receiver (four r 1) (part r 10 (10 + min (get_or r 9 0) 54)) (four r 5)

-- put
abbrev pub put_by : List ℕ → Receiver
put_by r =
    record {
      set = four r 1;
      key = part r 5 37;
      prefix = four r 37;
      window = record { begun = flag r 41; highest = eight r 42; marks = eight r 50 };
    }
