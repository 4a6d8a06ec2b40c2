-- The theorems of the receiver.
-- Assumes nothing.
use mathlib.Core.Path.{refl}
use mathlib.Core.List.{[]}
use lib.ListN.{length}
use Rattle.answers.specs.Rows.{numbers, is_in, own_numbers}
use Rattle.answers.proofs.RowLaws.{decides}
use Rattle.cba_rules.proofs.RefusalLaws.{key-accepts}
use Rattle.window_rules.specs.Theorems.{is_too_late}
use Rattle.receiver_rules.specs.Receiver.{make_rows, make_answer}
use Rattle.receiver_rules.specs.Runs.{run, accepted, ReceiverTheorems}
use Rattle.receiver_rules.proofs.ReceiverLaws.{made-fresh, made_blank, none_answers, receiver_decides, left, plain-call, new-call, fresh-call}
use Rattle.receiver_rules.proofs.Runs.{accepted-once, repeats-after, repeats-fresh, holds-accepted, same-making, listed_plain, listed-new, in_turn}

pub receiver_theorems : ReceiverTheorems
unfolding make_answer make_rows numbers is_in own_numbers run accepted is_too_late
receiver_theorems =
    record {
      making = λ set key. decides (make_rows set (length key)) refl;
      opens = receiver_decides;
      makes_where = λ set key. key-accepts set (length key);
      made = made-fresh;
      unmade = made_blank;
      on_unmade = none_answers;
      leaves = left;
      plain = plain-call;
      new = new-call;
      takes = fresh-call;
      once = accepted-once;
      history = repeats-fresh;
      further = repeats-after;
      holds = holds-accepted;
      keeps = λ v os. same-making os v;
      listed = listed_plain;
      listed-new = listed-new;
      takes_first = λ set key prefix o e p. listed-new set key prefix [] o e p refl;
      calls = in_turn;
    }
