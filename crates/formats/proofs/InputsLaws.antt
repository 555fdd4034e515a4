-- Laws of inputs: what the tests of specs/Inputs say.
--     Built z x                           plan and rules pass 2 to 10 and name N, S and K, and the node table is as built
--     node-table-built, built-node-table  exactly where node_table_built says so
--     plan-of, rules-of, labels-of        what a built plan and its rules pass
--     Same z x y                          plan, rules and node table are the same
--     same-node-inputs, node-inputs-same  exactly where same_node_inputs says so; same-inputs-nodes: where same_inputs does
--     same-state-table                    and where same_inputs does, the state tables are the same
--     same-excess                         longer tables are the same inputs
use Prim.Native.Nat.{ℕ, zero, suc, ◌≤◌}
use mathlib.Core.Path.{◌≡◌, refl, ap}
use mathlib.Core.Bool.{Bool, true, ◌&&◌}
use mathlib.Core.List.{List, [], ◌∷◌, ◌++◌}
use native.Mathlib.Omega.{arith}
use lib.Dec.{eqb}
use lib.ListN.{length, take}
use borrow.Author.Tests.{eqb-true, eq-eqb}
use Rattle.list_laws.specs.Tests.{same_list, all_below}
use Rattle.formats.specs.Plan.{node_count, labels_within}
use Rattle.formats.specs.Rules.{state_count, label_count}
use Rattle.formats.specs.Checks.{first_no, rule_table_checks, node_table_length, state_table_length}
use Rattle.formats.specs.Built.{built_node_table}
use Rattle.list_laws.proofs.BoolLaws.{and_both, and_left, and_right}
use Rattle.list_laws.proofs.TestLaws.{same_list-true, same_list-is}
use Rattle.formats.specs.Passing.{PlanPasses}
use Rattle.formats.proofs.RuleLaws.{RulesPass}
use Rattle.formats.proofs.InputLaws.{rule-table-passes}
use Rattle.formats.specs.Inputs.{Inputs, Sizes, used_node_table, used_state_table, names_sizes, same_node_inputs, same_inputs}
use Rattle.formats.specs.Inputs.{node_table_built, inputs_of}
use Rattle.formats.specs.Passing.{Built}

module _ (z : Sizes) (x : Inputs) where
  abbrev passes : Bool
  passes = eqb (first_no (rule_table_checks x.plan x.rules)) 0

  abbrev table_built : Bool
  table_built = same_list (used_node_table z x) (built_node_table x.plan)

  abbrev sk : Bool
  sk = eqb (state_count x.rules) z.s && eqb (label_count x.rules) z.k

  pub node-table-built : node_table_built z x ≡ true → Built z x
  unfolding node_table_built names_sizes
  node-table-built e =
      let b : (names_sizes z x && table_built) ≡ true = and_right passes (names_sizes z x && table_built) e in
      let c : names_sizes z x ≡ true = and_left (names_sizes z x) table_built b in
      let d : sk ≡ true = and_right (eqb (node_count x.plan) z.n) sk c in
      record {
        passed = eqb-true (first_no (rule_table_checks x.plan x.rules)) 0
            (and_left passes (names_sizes z x && table_built) e);
        n_is = eqb-true (node_count x.plan) z.n (and_left (eqb (node_count x.plan) z.n) sk c);
        s_is = eqb-true (state_count x.rules) z.s
            (and_left (eqb (state_count x.rules) z.s) (eqb (label_count x.rules) z.k) d);
        k_is = eqb-true (label_count x.rules) z.k
            (and_right (eqb (state_count x.rules) z.s) (eqb (label_count x.rules) z.k) d);
        node_table = same_list-true (used_node_table z x) (built_node_table x.plan) (and_right (names_sizes z x) table_built b);
      }

  pub built-node-table : Built z x → node_table_built z x ≡ true
  unfolding node_table_built names_sizes
  built-node-table B =
      and_both passes (names_sizes z x && table_built)
      (eq-eqb (first_no (rule_table_checks x.plan x.rules)) 0 B.passed)
      (and_both (names_sizes z x) table_built
      (and_both (eqb (node_count x.plan) z.n) sk (eq-eqb (node_count x.plan) z.n B.n_is)
      (and_both (eqb (state_count x.rules) z.s) (eqb (label_count x.rules) z.k)
      (eq-eqb (state_count x.rules) z.s B.s_is)
      (eq-eqb (label_count x.rules) z.k B.k_is)))
      (same_list-is (used_node_table z x) (built_node_table x.plan) B.node_table))

module _ (z : Sizes) (x : Inputs) (B : Built z x) where
  pub plan-of : PlanPasses x.plan
  plan-of = (rule-table-passes x.plan x.rules B.passed).0

  pub rules-of : RulesPass x.rules
  rules-of = (rule-table-passes x.plan x.rules B.passed).1

  pub labels-of : all_below (label_count x.rules) (labels_within x.plan) ≡ true
  labels-of = (rule-table-passes x.plan x.rules B.passed).2

-- ---- inputs that are the same

pub record Same (z : Sizes) (x y : Inputs) : Type 0 where
  pub plan : x.plan ≡ y.plan
  pub rules : x.rules ≡ y.rules
  pub node_table : used_node_table z x ≡ used_node_table z y

module _ (z : Sizes) (x y : Inputs) where
  abbrev same_end : Bool
  same_end = same_list x.rules y.rules && same_list (used_node_table z x) (used_node_table z y)

  pub same-node-inputs : same_node_inputs z x y ≡ true → Same z x y
  unfolding same_node_inputs
  same-node-inputs e =
      let b : same_end ≡ true = and_right (same_list x.plan y.plan) same_end e in
      record {
        plan = same_list-true x.plan y.plan (and_left (same_list x.plan y.plan) same_end e);
        rules = same_list-true x.rules y.rules
            (and_left (same_list x.rules y.rules) (same_list (used_node_table z x) (used_node_table z y)) b);
        node_table = same_list-true (used_node_table z x) (used_node_table z y)
            (and_right (same_list x.rules y.rules) (same_list (used_node_table z x) (used_node_table z y)) b);
      }

  pub node-inputs-same : Same z x y → same_node_inputs z x y ≡ true
  unfolding same_node_inputs
  node-inputs-same S =
      and_both (same_list x.plan y.plan) same_end (same_list-is x.plan y.plan S.plan)
      (and_both (same_list x.rules y.rules) (same_list (used_node_table z x) (used_node_table z y))
      (same_list-is x.rules y.rules S.rules)
      (same_list-is (used_node_table z x) (used_node_table z y) S.node_table))

  pub same-inputs-nodes : same_inputs z x y ≡ true → same_node_inputs z x y ≡ true
  unfolding same_inputs
  same-inputs-nodes e = and_left (same_node_inputs z x y) (same_list (used_state_table z x) (used_state_table z y)) e

  pub same-state-table : same_inputs z x y ≡ true → used_state_table z x ≡ used_state_table z y
  unfolding same_inputs
  same-state-table e =
      same_list-true (used_state_table z x) (used_state_table z y)
      (and_right (same_node_inputs z x y) (same_list (used_state_table z x) (used_state_table z y)) e)

-- ---- longer tables

take-longer : (n : ℕ) (l r : List ℕ) → n ≤ length l → take n l ≡ take n (l ++ r)
take-longer zero l r h = refl
take-longer (suc n) [] r h = absurd (omega arith)
take-longer (suc n) (x ∷ l) r h = ap (λ (m : List ℕ). x ∷ m) (take-longer n l r (omega arith))

-- "lent the same, excess aside"
pub same-excess : (z : Sizes) (x : Inputs) (l r : List ℕ) → node_table_length z.n ≤ length x.node_table
    → state_table_length z.n z.s ≤ length x.state_table
    → same_inputs z x (inputs_of x.plan x.rules (x.node_table ++ l) (x.state_table ++ r)) ≡ true
unfolding same_inputs
same-excess z x l r h i =
    let y : Inputs = inputs_of x.plan x.rules (x.node_table ++ l) (x.state_table ++ r) in
    and_both (same_node_inputs z x y) (same_list (used_state_table z x) (used_state_table z y))
    (node-inputs-same z x y (record {
      plan = refl;
      rules = refl;
      node_table = take-longer (node_table_length z.n) x.node_table l h;
    }))
    (same_list-is (used_state_table z x) (used_state_table z y)
    (take-longer (state_table_length z.n z.s) x.state_table r i))
