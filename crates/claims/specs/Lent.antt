-- What calls leave in the buffers that their caller passes in: Load's two tables, and the lists of laying over.
--
-- filled table entry == a buffer that held entry, once the table is written to its front: the rest is unchanged
-- Unwritten x node_table' state_table' == both buffers are unchanged
-- Written x node_table' state_table' == both hold the tables of the plan and the rules given, excess untouched
-- TablesAfterLoad x denied node_table' state_table' == the buffers after a Load given x, denied: whether it was refused
-- TablesAfterLoadCall x r node_table' state_table' == the same by the number r that an exported Load returns, 0: accepted
-- HandsBack l nodes' labels' count' == the first count' entries of the two buffers are the nodes and the labels of l
--
-- Plan and rules are passed in to be read only, and no other session call is given a buffer to write: the functions'
-- types say so.
use Rattle.std.specs.Prelude.{ℕ, ◌≡◌, Bool, true, false, List, ◌++◌, length, take, drop}
use Rattle.formats.specs.Built.{built_node_table, built_state_table}
use Rattle.formats.specs.Inputs.{Inputs}
use Rattle.changes.specs.Entries.{Entry, nodes_listed, labels_listed}

-- "The excess of a longer buffer is untouched."
abbrev pub filled : List ℕ → List ℕ → List ℕ
filled table entry = table ++ drop (length table) entry

abbrev pub Unwritten : Inputs → List ℕ → List ℕ → Type 0
Unwritten x node_table' state_table' = (node_table' ≡ x.node_table) × (state_table' ≡ x.state_table)

abbrev pub Written : Inputs → List ℕ → List ℕ → Type 0
Written x node_table' state_table' =
    (node_table' ≡ filled (built_node_table x.plan) x.node_table)
    × (state_table' ≡ filled (built_state_table x.plan x.rules) x.state_table)

-- "Everything lent beside the record holds what it held, save the tables an accepted Load writes as defined"
pub record TablesAfterLoad (x : Inputs) (denied : Bool) (node_table' state_table' : List ℕ) : Type 0 where
  pub unwritten : denied ≡ true → Unwritten x node_table' state_table'
  pub written : denied ≡ false → Written x node_table' state_table'

pub record TablesAfterLoadCall (x : Inputs) (r : ℕ) (node_table' state_table' : List ℕ) : Type 0 where
  pub unwritten : (r ≡ 0 → ⊥) → Unwritten x node_table' state_table'
  pub written : r ≡ 0 → Written x node_table' state_table'

-- "handed back by value in rising node number"
abbrev pub HandsBack : List Entry → List ℕ → List ℕ → ℕ → Type 0
HandsBack l nodes' labels' count' = (take count' nodes' ≡ nodes_listed l) × (take count' labels' ≡ labels_listed l)
