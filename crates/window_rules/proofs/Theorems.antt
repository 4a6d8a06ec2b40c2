-- The theorems of the window.
-- Assumes nothing.
use Rattle.window_rules.specs.Theorems.{WindowTheorems}
use Rattle.window_rules.proofs.WindowLaws.{none_yet, none-above-highest, marked-near, one_more, all_of}
use Rattle.window_rules.proofs.HighestLaws.{holds-all}

pub window-theorems : WindowTheorems
window-theorems = record { fresh = none_yet; above = none-above-highest; near = marked-near; one = one_more; all = all_of; holds = holds-all }
