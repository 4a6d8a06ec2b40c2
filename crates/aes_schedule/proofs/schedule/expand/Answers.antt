-- `aes_schedule::schedule::expand` meets its contract: after i turns the key's words and 2 i more are written, the last of them is
-- carried, and what stands before and after them is as it was.
-- Assumes nothing.
use mathlib.Core.Path.{refl, sym, ap₂, ◌∙◌}
use borrow.Author.Rules.{rules}
use Rattle.octets.specs.Xor.{xors}
use Rattle.fips197.proofs.ScheduleLaws.{key-words}
use Rattle.aes_schedule.proofs.WordLaws.{xor_bytes}
use Rattle.aes_schedule.proofs.ExpandLaws.{few, room_for_two, second, turned, ended, begun_turn, expand_none, expand_turn, expand_all}
use Rattle.aes_schedule.proofs.schedule.expand.Goals as goal

pub put-requires : goal.put-requires
put-requires c = let k = key-words _ c.requires.key_value in search rules

pub overflow_sub-nk : goal.overflow_sub-nk
overflow_sub-nk c = let k = key-words _ c.requires.key_value in search rules

pub word_at-x-requires : goal.word_at-x-requires
word_at-x-requires c = let k = key-words _ c.requires.key_value in search rules

pub loop-i-init : goal.loop-i-init
loop-i-init c = expand_none _ _ _ _ c.requires.key_value c.requires.at_in_bounds c.put.ensures _ c.requires.boxes c.requires.le_at c.ctx-1.given.1 c.word_at-x.ensures

pub next_word-a-requires : goal.next_word-a-requires
next_word-a-requires c =
    let more = begun_turn c.loop-i.invariant _ refl c.loop-i-test.true in
    record { boxes = c.loop-i.invariant.words.boxes; k_lt_nk = (c.loop-i.invariant.place.inside, few c.loop-i.invariant more); m_value = c.loop-i.invariant.so_many; m_in_bounds = search rules }

pub next_place-p-requires : goal.next_place-p-requires
next_place-p-requires c =
    let more = begun_turn c.loop-i.invariant _ refl c.loop-i-test.true in
    record { paired = c.loop-i.invariant.place; q_bound = few c.loop-i.invariant more }

pub loop-i-preserved : goal.loop-i-preserved
loop-i-preserved c =
    let more = begun_turn c.loop-i.invariant _ refl c.loop-i-test.true in
    let one = expand_turn c.loop-i.invariant.words _ _ _ more c.next_word-a.ensures c.split.ensures c.put-in-loop-i.ensures c.ctx-in-loop-i-1.given.1 in
    let two = expand_turn one _ _ _ (room_for_two c.loop-i.invariant more) (xor_bytes _ _ ∙ ap₂ xors c.word_at.ensures (sym (second c.loop-i.invariant _))) c.split-in-loop-i.ensures c.put-in-loop-i-2.ensures c.ctx-in-loop-i-2-1.given.1 in
    turned c.loop-i.invariant _ refl two c.next_place-p.ensures.0 c.next_place-p.ensures.1

pub returns : goal.returns
returns c = expand_all _ _ _ _ c.requires.key_value c.requires.at_in_bounds c.put.ensures c.loop-i.invariant.words (ended c.loop-i.invariant _ refl c.loop-i-test.false)
