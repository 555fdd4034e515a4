-- What the roots of a list of changes are found from.
--
-- RootsArgs n plan node_table == the plan's labels and the node table are whole
use Rattle.std.specs.Prelude.{ℕ, ◌+◌, ◌*◌, ◌≤◌, List, length}
use Rattle.formats.specs.Layout.{plan_head, node_columns}
use Rattle.formats.specs.Limits.{node_limit}

pub record RootsArgs (n : ℕ) (plan node_table : List ℕ) : Type 0 where
  pub most : n ≤ node_limit
  pub labels : plan_head + n ≤ length plan
  pub numbers : n * node_columns ≤ length node_table
