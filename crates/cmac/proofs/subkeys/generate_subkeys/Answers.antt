-- `cmac::subkeys::generate_subkeys` meets its contract: L twice, and twice again.
-- Assumes nothing.
use mathlib.Core.Path.{ap, ◌∙◌}
use Rattle.cmac_rules.specs.Cmac.{double, L, K1, K2}
use Rattle.cmac.proofs.subkeys.generate_subkeys.Goals as goal

pub returns : goal.returns
unfolding L K1 K2
returns c =
    let k1 = c.double-k1.ensures ∙ ap double c.encrypt.ensures in
    (k1, c.double.ensures ∙ ap double k1)
