-- `ledger::known::Known::capacity_check` meets its contract.
-- Assumes nothing.
use Rattle.std.proofs.Common.{not, [], ◌∷◌, sym, ap, ◌∙◌}
use Rattle.answers.proofs.RowLaws.{accepts, refuses}
use Rattle.cba_rules.proofs.SetLaws.{set-fits}
use Rattle.plain.proofs.SetLaws.{is_known, its_values}
use Rattle.ledger_rules.specs.Ledger.{has_no_blocks}
use Rattle.ledger.specs.Values.{value_of}
use Rattle.ledger.proofs.CheckLaws.{spent-is}
use Rattle.ledger.proofs.known.Known.capacity_check.Goals as goal

pub fits-requires : goal.fits-requires
fits-requires c = rw (its_values c.args.self.now.ledger.now.set c.args.self.now.p c.args.self.now.is_known).2 (set-fits c.args.self.now.ledger.now.set (is_known c.args.self.now.ledger.now.set c.args.self.now.p c.args.self.now.is_known)).1

pub returns-then-not-fits : goal.returns-then-not-fits
returns-then-not-fits c = sym (refuses [] _ [] tt (spent-is (value_of c.args.self.now.ledger.now) _ _ _ c.fits.ensures (its_values c.args.self.now.ledger.now.set c.args.self.now.p c.args.self.now.is_known).2 ∙ ap not c.if-not-fits.true))

pub returns : goal.returns
returns c = sym (accepts (has_no_blocks _ ∷ []) (spent-is (value_of c.args.self.now.ledger.now) _ _ _ c.fits.ensures (its_values c.args.self.now.ledger.now.set c.args.self.now.p c.args.self.now.is_known).2 ∙ ap not c.if-not-fits.false, tt))
