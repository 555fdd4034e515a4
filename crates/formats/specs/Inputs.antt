-- What a session call is given beside the record, and when two such inputs are the same. Document 01 says that the panel *lends* them.
--
-- Inputs == plan, rules, the node table (16-bit numbers) and the state table (bytes) of a call, as they were before it
-- inputs_of plan rules node_table state_table == these four
-- Sizes == N, S and K, as the record and the panel book of document 01 hold them; sizes_in x == those that the headers name
-- fits z x == check 17: long enough for N, S and K, plan and rules exactly
-- used_node_table z x, used_state_table z x == the tables without their excess
-- same_node_inputs z x y == plan, rules and node table are the same, excess aside; same_inputs z x y == the state table too
-- names_sizes z x == the headers name that N, S and K
-- node_table_built z x == plan and rules pass 2 to 10 with that N, S and K and the node table is what Load writes from them
-- state_table_built z x == the state table is too; sound z x == both
-- states_below z x == every byte of the state table in use is below S
--
-- Laws: proofs/InputsLaws.
use Rattle.std.specs.Prelude.{ℕ, Bool, ◌&&◌, List, leb, eqb, length, take}
use Rattle.list_laws.specs.Tests.{all_below, same_list}
use Rattle.formats.specs.Plan.{node_count, plan_length}
use Rattle.formats.specs.Rules.{state_count, label_count, rule_length}
use Rattle.formats.specs.Checks.{first_no, rule_table_checks, node_table_length, state_table_length}
use Rattle.formats.specs.Built.{built_node_table, built_state_table}

pub record Inputs : Type 0 where
  pub plan : List ℕ
  pub rules : List ℕ
  pub node_table : List ℕ
  pub state_table : List ℕ

abbrev pub inputs_of : List ℕ → List ℕ → List ℕ → List ℕ → Inputs
inputs_of plan rules node_table state_table =
    record { plan = plan; rules = rules; node_table = node_table; state_table = state_table }

pub record Sizes : Type 0 where
  pub n : ℕ
  pub s : ℕ
  pub k : ℕ

abbrev pub sizes_in : Inputs → Sizes
sizes_in x = record { n = node_count x.plan; s = state_count x.rules; k = label_count x.rules }

-- "lent plan, rules and tables at least as long as N, S and K need, plan and rules exactly? 17"
unfoldable pub fits : Sizes → Inputs → Bool
fits z x =
    eqb (length x.plan) (plan_length z.n)
    && (eqb (length x.rules) (rule_length z.s z.k)
    && (leb (node_table_length z.n) (length x.node_table) && leb (state_table_length z.n z.s) (length x.state_table)))

abbrev pub used_node_table : Sizes → Inputs → List ℕ
used_node_table z x = take (node_table_length z.n) x.node_table

abbrev pub used_state_table : Sizes → Inputs → List ℕ
used_state_table z x = take (state_table_length z.n z.s) x.state_table

unfoldable pub same_node_inputs : Sizes → Inputs → Inputs → Bool
same_node_inputs z x y =
    same_list x.plan y.plan && (same_list x.rules y.rules && same_list (used_node_table z x) (used_node_table z y))

-- "lent the same, excess aside"
unfoldable pub same_inputs : Sizes → Inputs → Inputs → Bool
same_inputs z x y = same_node_inputs z x y && same_list (used_state_table z x) (used_state_table z y)

unfoldable pub names_sizes : Sizes → Inputs → Bool
names_sizes z x =
    eqb (node_count x.plan) z.n && (eqb (state_count x.rules) z.s && eqb (label_count x.rules) z.k)

unfoldable pub node_table_built : Sizes → Inputs → Bool
node_table_built z x =
    eqb (first_no (rule_table_checks x.plan x.rules)) 0
    && (names_sizes z x && same_list (used_node_table z x) (built_node_table x.plan))

unfoldable pub state_table_built : Sizes → Inputs → Bool
state_table_built z x = same_list (used_state_table z x) (built_state_table x.plan x.rules)

-- "Sound means that plan and rules pass 2 to 10 with that N, S and K and the tables, excess aside, are what Load writes from them."
unfoldable pub sound : Sizes → Inputs → Bool
sound z x = node_table_built z x && state_table_built z x

unfoldable pub states_below : Sizes → Inputs → Bool
states_below z x = all_below z.s (used_state_table z x)
