-- `^` of two Words meets its contract.
-- Assumes nothing.
use Rattle.aes_schedule.proofs.WordLaws.{xor_words}
use Rattle.aes_schedule.proofs.words.WordsBitXor.bitxor.Goals as goal

pub returns : goal.returns
returns c = xor_words c.args.self c.args.k
