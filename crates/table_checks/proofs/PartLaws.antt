-- Both tables of a plan and a rule table that pass their checks, with the parts that are handed on.
--     both-args-of    what the check of both tables needs
--     both-tells      what it returns is the test of both tables
use Prim.Native.Nat.{ℕ, ◌+◌, ◌-◌, ◌*◌}
use mathlib.Core.Path.{◌≡◌}
use mathlib.Core.Bool.{Bool}
use mathlib.Core.List.{List}
use lib.ListN.{length, take, drop}
use Rattle.formats.specs.Plan.{node_count, labels_within, kinds_in, plan_tree}
use Rattle.formats.specs.Rules.{state_count, label_count, leaf_states, inner_states, rule_marks}
use Rattle.formats.specs.Built.{built_node_table, built_state_table}
use Rattle.formats.proofs.PlanLaws.{length-kinds_in, labels-as-kinds, kinds-plan_tree, labels-plan_tree}
use Rattle.formats.specs.Passing.{PlanPasses}
use Rattle.formats.proofs.PlanLaws.{labels-part, kinds-part}
use Rattle.formats.proofs.RuleLaws.{leaves-part, inner-part}
use Rattle.formats.proofs.InputLaws.{build-passes, label_below}
use Rattle.tables.specs.node_tables.Cells.{NodeTableArgs}
use Rattle.tables.specs.Answers.{same_tables}
use Rattle.tables.specs.inner.Written.{BuildArgs}
use Rattle.tables.proofs.BuildLaws.{length-built_node_table, length-built_states, link-args, rule-runs}
use Rattle.table_checks.specs.inner.Tested.{MatchArgs, TablesTested}

module _ (p r node_table state_table : List ℕ) (n s k : ℕ) (B : BuildArgs p r n s k node_table state_table) where
  plan-passed : PlanPasses p
  plan-passed = (build-passes p r (length node_table) (length state_table) B.passed).0

  kinds-are : take (length p - (12 + n)) (drop (12 + n) p) ≡ kinds_in p
  kinds-are = kinds-part p n plan-passed B.nodes

  inner-are : (c : ℕ) → c ≡ s * k * s → take (20 + k + c - (20 + k)) (drop (20 + k) r) ≡ inner_states r
  inner-are c e = rw e (inner-part r s k B.states B.labels)

  args_in : MatchArgs (kinds_in p) (labels_within p) node_table (leaf_states r) (inner_states r) (state_count r) (label_count r)
      (length state_table)
  args_in =
      let A = build-passes p r (length node_table) (length state_table) B.passed in
      let L : NodeTableArgs (kinds_in p) (length node_table) = link-args p r node_table state_table B.passed in
      let z : length (kinds_in p) ≡ node_count p = length-kinds_in p A.0 in
      record {
        postorder = L.postorder;
        most = L.most;
        count = labels-as-kinds p A.0;
        below = label_below p r A.1.labels_least A.2;
        link_room = L.room;
        rules = rule-runs p r node_table state_table B.passed;
        some = A.1.states-least;
        room = rw z A.4;
      }

  tells-in : (x : Bool)
      → TablesTested (state_count r) (label_count r) (leaf_states r) (inner_states r) (kinds_in p) (labels_within p) node_table
      state_table x
      → x ≡ same_tables (built_node_table p) (built_state_table p r) node_table state_table
  unfolding same_tables
  tells-in x told =
      let z : length (kinds_in p) ≡ node_count p = length-kinds_in p plan-passed in
      rw (length-built_node_table p plan-passed, length-built_states p plan-passed r)
      (rw z at (told (rule_marks r) (plan_tree p) (kinds-plan_tree p plan-passed) (labels-plan_tree p plan-passed)))

  module _ (c : ℕ) (e : c ≡ s * k * s) where
    pub both-args-of : MatchArgs (take (length p - (12 + n)) (drop (12 + n) p)) (take (12 + n - 12) (drop 12 p))
        node_table
        (take (20 + k - 20) (drop 20 r)) (take (20 + k + c - (20 + k)) (drop (20 + k) r)) s k (length state_table)
    both-args-of =
        rw (kinds-are, labels-part p n B.nodes, leaves-part r k B.labels, inner-are c e, B.states, B.labels)
        args_in

    pub both-tells : (x : Bool)
        → TablesTested s k (take (20 + k - 20) (drop 20 r)) (take (20 + k + c - (20 + k)) (drop (20 + k) r))
        (take (length p - (12 + n)) (drop (12 + n) p)) (take (12 + n - 12) (drop 12 p)) node_table state_table x
        → x ≡ same_tables (built_node_table p) (built_state_table p r) node_table state_table
    both-tells x told =
        tells-in x
        (let leaves : take (20 + k - 20) (drop 20 r) ≡ leaf_states r = leaves-part r k B.labels in
        rw (kinds-are, labels-part p n B.nodes, leaves, inner-are c e, B.states, B.labels) at told)
