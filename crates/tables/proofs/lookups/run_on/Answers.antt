-- `run_on` meets its contract.
use Rattle.std.proofs.Common.{refl}
use Rattle.tables.specs.Climbs.{run_on}
use Rattle.tables.proofs.lookups.run_on.Goals as goal

pub returns : goal.returns
unfolding run_on
returns c = refl
