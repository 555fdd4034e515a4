-- Inputs that pass their checks, as data.
--
-- PlanPasses p == plan p passes checks 2 to 5
-- Built z x == plan and rules of x pass 2 to 10 and name the sizes z, and the node table is the one that Load writes
use Rattle.std.specs.Prelude.{ℕ, ◌+◌, ◌≤◌, ◌≡◌, true, List, length}
use Rattle.trees.specs.Postorder.{is_postorder}
use Rattle.formats.specs.Layout.{plan_head}
use Rattle.formats.specs.Limits.{node_limit}
use Rattle.formats.specs.Bytes.{le32}
use Rattle.formats.specs.Plan.{node_count, plan_length, kinds_in}
use Rattle.formats.specs.Rules.{state_count, label_count}
use Rattle.formats.specs.Checks.{first_no, rule_table_checks}
use Rattle.formats.specs.Built.{built_node_table}
use Rattle.formats.specs.Inputs.{Inputs, Sizes, used_node_table}

pub record PlanPasses (p : List ℕ) : Type 0 where
  pub long : plan_head ≤ length p
  pub least : 1 ≤ node_count p
  pub most : node_count p ≤ node_limit
  pub labels_at : le32 p 4 ≡ plan_head
  pub kinds_at : le32 p 8 ≡ plan_head + node_count p
  pub exact : length p ≡ plan_length (node_count p)
  pub postorder : is_postorder (kinds_in p) ≡ true

pub record Built (z : Sizes) (x : Inputs) : Type 0 where
  pub passed : first_no (rule_table_checks x.plan x.rules) ≡ 0
  pub n_is : node_count x.plan ≡ z.n
  pub s_is : state_count x.rules ≡ z.s
  pub k_is : label_count x.rules ≡ z.k
  pub node_table : used_node_table z x ≡ built_node_table x.plan
