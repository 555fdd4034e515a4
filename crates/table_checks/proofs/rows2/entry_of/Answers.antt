-- `rows2::entry_of` meets its contract.
use Rattle.table_checks.proofs.TwoStateLaws.{two-entry}
use Rattle.table_checks.proofs.rows2.entry_of.Goals as goal

pub returns : goal.returns
returns c = two-entry _ _ _ c.requires.0 c.requires.1 c.requires.2
