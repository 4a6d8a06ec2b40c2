-- `plain::open::open_accepted` meets its contract: the first t bytes of the data's sum are T_A.
-- Assumes nothing.
use Rattle.cba_mode.specs.Data.{tag_of_data}
use Rattle.plain.proofs.open.open_accepted.Goals as goal

pub returns : goal.returns
unfolding tag_of_data
returns c =
    let e = c.data_hash-sum.ensures in
    rw (e, c.new-e.ensures) at c.dec.ensures
