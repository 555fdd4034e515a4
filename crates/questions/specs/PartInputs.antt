-- What the rule of a part reads of a call's inputs.
--
-- view_by z x == what the calls read of the inputs x, by the sizes z, excess aside
-- given_of z y x vs bs == plan and rules of the inputs y, the list's labels laid over the plan's, and the run states and maps in the
--   state table of the inputs x, by the sizes z. y is what a question's Start was given, x what an advance is given
-- reached_by p == what a call finds for part p
-- SettledInputs z y vs bs x == what an advance is given: plan, rules and node table as built and as at Start (y), states below S
use Rattle.std.specs.Prelude.{◌≡◌, ℕ, true, List}
use Rattle.trees.specs.Changes.{changed}
use Rattle.formats.specs.Plan.{plan_tree, labels_within}
use Rattle.formats.specs.Rules.{rule_automaton}
use Rattle.formats.specs.Checks.{first_no, list_checks}
use Rattle.formats.specs.Inputs.{Inputs, Sizes, used_node_table, used_state_table, fits, same_node_inputs, node_table_built, states_below}
use Rattle.tables.specs.declared.answers.Reached.{Reached}
use Rattle.tables.specs.Climbs.{View, view_of, reached}
use Rattle.tables.specs.StateCells.{state_cell, map_cell}
use Rattle.questions.specs.ready.Parts.{Given, Part}

unfoldable pub given_of : Sizes → Inputs → Inputs → List ℕ → List ℕ → Given
given_of z y x vs bs = record {
  tree = plan_tree y.plan;
  automaton = rule_automaton y.rules;
  labels = changed (labels_within y.plan) vs bs;
  run_state = state_cell z.s (used_state_table z x);
  map_state = map_cell z.s (used_state_table z x);
}

abbrev pub reached_by : Part → Reached
reached_by p = reached p.state p.links p.passed

-- what the calls read of the inputs: by the record's N, S and K, excess aside
abbrev pub view_by : Sizes → Inputs → View
view_by z x = view_of z.n z.s z.k x.plan x.rules (used_node_table z x) (used_state_table z x)

-- "Where plan and rules name the record's N, S and K and, like the 16-bit numbers, are as at Start and as built, but
-- run states and maps are any bytes below S"
pub record SettledInputs (z : Sizes) (y : Inputs) (vs bs : List ℕ) (x : Inputs) : Type 0 where
  pub built : node_table_built z y ≡ true
  pub same : same_node_inputs z y x ≡ true
  pub below : states_below z x ≡ true
  pub room : fits z x ≡ true
  pub listed : first_no (list_checks z.n z.k vs bs) ≡ 0
