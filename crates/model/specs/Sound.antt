-- Sound inputs, as a statement: what Start's 18 asks.
--
-- Sound z x == "plan and rules pass 2 to 10 with that N, S and K and the tables, excess aside, are what Load writes from them"; the
--   test is `sound` (crate formats, Inputs). The plan need not be the one that was loaded
use Rattle.std.specs.Prelude.{◌≡◌}
use Rattle.formats.specs.Plan.{node_count}
use Rattle.formats.specs.Rules.{state_count, label_count}
use Rattle.formats.specs.Built.{AsBuilt}
use Rattle.formats.specs.Inputs.{Inputs, Sizes}

pub record Sound (z : Sizes) (x : Inputs) : Type 0 where
  pub as_built : AsBuilt x.plan x.rules x.node_table x.state_table
  pub n_is : node_count x.plan ≡ z.n
  pub s_is : state_count x.rules ≡ z.s
  pub k_is : label_count x.rules ≡ z.k
