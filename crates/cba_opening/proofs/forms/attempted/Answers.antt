-- `cba_opening::forms::attempted` meets its contract, by those of the functions that it calls.
-- Assumes nothing.
use Rattle.cba_opening.proofs.forms.attempted.Goals as goal

pub open_short-requires : goal.open_short-requires
open_short-requires c = record { least = c.requires.least; room = c.requires.room; no_longer_than_first = rw (c.first_bytes.ensures, c.tag_bytes.ensures) at c.if-ciphertext-first_bytes.true }

pub returns-then-ciphertext-first_bytes : goal.returns-then-ciphertext-first_bytes
returns-then-ciphertext-first_bytes c = c.open_short.ensures

pub open_long-requires : goal.open_long-requires
open_long-requires c = record { least = c.requires.least; room = c.requires.room; longer_than_first = rw (c.first_bytes.ensures, c.tag_bytes.ensures) at c.if-ciphertext-first_bytes.false }

pub returns : goal.returns
returns c = c.open_long.ensures
