-- Tables as built: what "as built from the plan and rules lent" means, excess aside.
--
-- built_node_table p == the 16-bit numbers that a build writes for plan p
-- built_state_table p r, built_branch_table p r == the bytes that it writes for rule table, or branch table, r
-- NodeTableBuilt p node_table == p is a plan and the numbers are its own
-- AsBuilt p r node_table bytes == plan and rules pass 2 to 10 and both buffers begin with what the build writes; BranchBuilt the same
--   for a branch table
use Rattle.std.specs.Prelude.{ℕ, ◌≡◌, List, take}
use Rattle.trees.specs.Tables.{node_table_of, state_table_of, branch_table_of}
use Rattle.formats.specs.Plan.{node_count, plan_tree}
use Rattle.formats.specs.Rules.{state_count, rule_automaton, branch_automaton}
use Rattle.formats.specs.Checks.{first_no, plan_checks, rule_table_checks, branch_table_checks, node_table_length, state_table_length}

abbrev pub built_node_table : List ℕ → List ℕ
built_node_table p = node_table_of (plan_tree p)

abbrev pub built_state_table : List ℕ → List ℕ → List ℕ
built_state_table p r = state_table_of (rule_automaton r) (plan_tree p)

abbrev pub built_branch_table : List ℕ → List ℕ → List ℕ
built_branch_table p r = branch_table_of (branch_automaton r) (plan_tree p)

-- the part of a buffer that n nodes (and s states) use
abbrev pub node_table_part : ℕ → List ℕ → List ℕ
node_table_part n node_table = take (node_table_length n) node_table

abbrev pub state_table_part : ℕ → ℕ → List ℕ → List ℕ
state_table_part n s state_table = take (state_table_length n s) state_table

pub record NodeTableBuilt (p node_table : List ℕ) : Type 0 where
  pub plan : first_no (plan_checks p) ≡ 0
  pub links : node_table_part (node_count p) node_table ≡ built_node_table p

pub record AsBuilt (p r node_table state_table : List ℕ) : Type 0 where
  pub accepted : first_no (rule_table_checks p r) ≡ 0
  pub links : node_table_part (node_count p) node_table ≡ built_node_table p
  pub states : state_table_part (node_count p) (state_count r) state_table ≡ built_state_table p r

pub record BranchBuilt (p r node_table state_table : List ℕ) : Type 0 where
  pub accepted : first_no (branch_table_checks p r) ≡ 0
  pub links : node_table_part (node_count p) node_table ≡ built_node_table p
  pub states : state_table_part (node_count p) (state_count r) state_table ≡ built_branch_table p r
