-- `cba_sealing::forms::enc` meets its contract, by those of the functions that it calls.
-- Assumes nothing.
use Rattle.cba_sealing.proofs.forms.enc.Goals as goal

pub seal_short-requires : goal.seal_short-requires
seal_short-requires c = record { room = c.requires.seals.room; no_longer_than_first = rw c.first_bytes.ensures at c.if-message-first_bytes.true }

pub returns-then-message-first_bytes : goal.returns-then-message-first_bytes
returns-then-message-first_bytes c = c.seal_short.ensures

pub seal_long-requires : goal.seal_long-requires
seal_long-requires c = record { room = c.requires.seals.room; longer_than_first = rw c.first_bytes.ensures at c.if-message-first_bytes.false }

pub returns : goal.returns
returns c = c.seal_long.ensures
