-- The build of both tables: what its parts need where all checks pass, and what they leave together.
--     plan-headed, rules-headed  the headers are there
--     link-args, table-args    what the two writers need
--     both-written             what both leave
--     build-args .. both-written-of  the same of the parts that are handed on
--     build-refused, build-done  a build's two answers
--     built-lists              what an accepted build leaves
--     written-as-built, built-as-built  the buffers afterwards are as built, for any excess
use Prim.Native.Nat.{ℕ, zero, suc, ◌+◌, ◌-◌, ◌*◌, ◌≤◌}
use mathlib.Core.Path.{◌≡◌, refl, sym, ap, ◌∙◌}
use mathlib.Core.Bool.{true}
use mathlib.Core.List.{List, ◌++◌}
use native.Mathlib.Omega.{arith}
use lib.ListN.{length, take, drop}
use lib.Seq.{take_at}
use Rattle.trees.specs.Tree.{Tree, kinds_of, size}
use Rattle.trees.specs.Tables.{node_table_of}
use Rattle.trees.proofs.PostorderLaws.{size_of}
use Rattle.list_laws.specs.Tests.{all_below}
use Rattle.formats.specs.Plan.{node_count, labels_within, kinds_in, plan_tree}
use Rattle.formats.specs.Rules.{state_count, label_count, leaf_states, inner_states, rule_marks, rule_automaton}
use Rattle.formats.specs.Checks.{first_no, rule_table_checks, build_checks, node_table_length, state_table_length}
use Rattle.formats.specs.Built.{built_node_table, built_state_table, AsBuilt}
use Rattle.formats.proofs.PlanLaws.{length-kinds_in, labels-as-kinds, kinds-plan_tree}
use Rattle.formats.specs.Passing.{PlanPasses}
use Rattle.formats.proofs.PlanLaws.{labels-plan_tree, size-plan_tree, labels-part, kinds-part}
use Rattle.formats.proofs.RuleLaws.{RulesPass, length-leaf_states, length-inner_states, leaf-state-below}
use Rattle.formats.proofs.RuleLaws.{inner-state-below, leaves-part, inner-part}
use Rattle.formats.proofs.InputLaws.{rule-table-passes, label_below, build-passes, build-table}
use Rattle.tables.specs.node_tables.Cells.{NodeTableArgs}
use Rattle.tables.specs.node_tables.NodeCells.{NodeCells}
use Rattle.tables.proofs.node_tables.CellLaws.{length-node_table_of, link-cells}
use Rattle.std.specs.Prelude.{Result, Ok, IsErrAnd}
use Rattle.formats.proofs.RefusalLaws.{number-not-0, handed-on, number-tells}
use Rattle.formats.specs.declared.refusals.Refusal.{Refusal}
use Rattle.formats.specs.Refusals.{refusal_number, answer_number}
use Rattle.tables.specs.Answers.{written, BuildDone}
use Rattle.tables.specs.inner.States.{RuleRuns}
use Rattle.tables.specs.inner.Written.{TableArgs, StatesOver, Passed, BuildArgs, BothWritten}
use Rattle.tables.proofs.TableLoop.{length-state_table_of}

-- ---- the lengths of the tables

module _ (p : List ℕ) (h : PlanPasses p) where
  pub length-built_node_table : length (built_node_table p) ≡ node_table_length (node_count p)
  length-built_node_table = length-node_table_of (plan_tree p) ∙ ap (λ (n : ℕ). n * 4) (size-plan_tree p h)

  pub length-built_states : (r : List ℕ) → length (built_state_table p r) ≡ state_table_length (node_count p) (state_count r)
  length-built_states r =
      length-state_table_of (rule_automaton r) (plan_tree p) ∙ ap (λ (n : ℕ). n * (state_count r + 1)) (size-plan_tree p h)

-- ---- where all checks pass

abbrev Accepted : List ℕ → List ℕ → ℕ → ℕ → Type 0
Accepted p r m l =
    PlanPasses p × RulesPass r × (all_below (label_count r) (labels_within p) ≡ true) × (node_table_length (node_count p) ≤ m)
    × (state_table_length (node_count p) (state_count r) ≤ l)

module _ (p r node_table state_table : List ℕ) (ok : Passed p r node_table state_table) where
  accepted : Accepted p r (length node_table) (length state_table)
  accepted = build-passes p r (length node_table) (length state_table) ok

  pub plan-headed : 12 ≤ length p
  plan-headed = accepted.0.long

  pub rules-headed : 20 ≤ length r
  rules-headed = accepted.1.long

  pub link-args : NodeTableArgs (kinds_in p) (length node_table)
  link-args =
      let A : Accepted p r (length node_table) (length state_table) = accepted in
      let n : length (kinds_in p) ≡ node_count p = length-kinds_in p A.0 in
      record { postorder = A.0.postorder; most = rw n A.0.most; room = rw n A.3 }

  pub rule-runs : RuleRuns (state_count r) (label_count r) (leaf_states r) (inner_states r)
  rule-runs =
      let R : RulesPass r = accepted.1 in
      record {
        few = R.states_most;
        labels = R.labels_most;
        leaf_count = length-leaf_states r R;
        inner_count = length-inner_states r R;
        leaf_below = leaf-state-below r R;
        inner_below = inner-state-below r R;
      }

  -- after the table of links is written
  module _ (after : List ℕ) (same : length after ≡ length node_table)
      (L : (t : Tree) → kinds_of t ≡ kinds_in p → after ≡ node_table_of t ++ drop (node_table_length (length (kinds_in p))) node_table)
    where
      links-cells : (t : Tree) → kinds_of t ≡ kinds_in p → NodeCells t after
      links-cells t e =
          let z : length (kinds_in p) ≡ size t = size_of t (kinds_in p) e in
          let l : length (node_table_of t) ≡ node_table_length (length (kinds_in p)) = length-node_table_of t ∙ ap (λ (n : ℕ). n * 4)
          (sym z) in
          link-cells t (length (kinds_in p)) after z
          (rw (L t e) (take_at (node_table_of t) (drop (node_table_length (length (kinds_in p))) node_table)
          (node_table_length (length (kinds_in p))) l))

      pub table-args : TableArgs (kinds_in p) (labels_within p) after (leaf_states r) (inner_states r) (state_count r)
          (label_count r) (length state_table)
      table-args =
          let A : Accepted p r (length node_table) (length state_table) = accepted in
          let n : length (kinds_in p) ≡ node_count p = length-kinds_in p A.0 in
          record {
            run = record {
              postorder = A.0.postorder;
              count = labels-as-kinds p A.0;
              most = rw n A.0.most;
              below = label_below p r A.1.labels_least A.2;
              link_room = rw (n, same) A.3;
              sizes = λ t e. (links-cells t e).sizes;
              rules = rule-runs;
              room = rw n A.4;
            };
            links = links-cells;
            some = A.1.states-least;
          }

      pub both-written : (end : List ℕ)
          → StatesOver (state_count r) (label_count r) (leaf_states r) (inner_states r) (kinds_in p) (labels_within p) state_table end
          → BothWritten p r node_table state_table after end
      both-written end S =
          let P : PlanPasses p = accepted.0 in
          let n : length (kinds_in p) ≡ node_count p = length-kinds_in p P in
          record {
            links = rw (length-built_node_table p P) (rw n at (L (plan_tree p) (kinds-plan_tree p P)));
            states = rw (length-built_states p P r) (rw n at
                (S (rule_marks r) (plan_tree p) (kinds-plan_tree p P) (labels-plan_tree p P)));
          }

-- ---- the same of the parts that are handed on, with N, S and K as read
pub build-args : (p r node_table state_table : List ℕ) (n s k : ℕ) → Passed p r node_table state_table → n ≡ node_count p → s ≡ state_count r → k
    ≡ label_count r
    → BuildArgs p r n s k node_table state_table
build-args p r node_table state_table n s k ok x y z =
    let A : Accepted p r (length node_table) (length state_table) = accepted p r node_table state_table ok in
    record {
      passed = ok;
      nodes = x;
      states = y;
      labels = z;
      node_most = rw x A.0.most;
      state_most = rw y A.1.states_most;
      label_most = rw z A.1.labels_most;
      plan_exact = rw x A.0.exact;
      rules_exact = rw (y, z) A.1.exact;
    }

module _ (p r node_table state_table : List ℕ) (n s k : ℕ) (B : BuildArgs p r n s k node_table state_table) where
  plan-passed : PlanPasses p
  plan-passed = (accepted p r node_table state_table B.passed).0

  kinds-are : take (length p - (12 + n)) (drop (12 + n) p) ≡ kinds_in p
  kinds-are = kinds-part p n plan-passed B.nodes

  inner-are : (c : ℕ) → c ≡ s * k * s → take (20 + k + c - (20 + k)) (drop (20 + k) r) ≡ inner_states r
  inner-are c e = rw e (inner-part r s k B.states B.labels)

  pub link-args-of : NodeTableArgs (take (length p - (12 + n)) (drop (12 + n) p)) (length node_table)
  link-args-of = rw kinds-are (link-args p r node_table state_table B.passed)

  module _ (after : List ℕ) (same : length after ≡ length node_table)
      (L : (t : Tree) → kinds_of t ≡ take (length p - (12 + n)) (drop (12 + n) p)
      → after ≡ node_table_of t ++ drop (node_table_length (length (take (length p - (12 + n)) (drop (12 + n) p)))) node_table)
      (c : ℕ) (e : c ≡ s * k * s) where
    links-of : (t : Tree) → kinds_of t ≡ kinds_in p → after ≡ node_table_of t ++ drop (node_table_length (length (kinds_in p))) node_table
    links-of = rw kinds-are at L

    pub table-args-of : TableArgs (take (length p - (12 + n)) (drop (12 + n) p)) (take (12 + n - 12) (drop 12 p)) after
        (take (20 + k - 20) (drop 20 r)) (take (20 + k + c - (20 + k)) (drop (20 + k) r)) s k (length state_table)
    table-args-of =
        rw (kinds-are, labels-part p n B.nodes, leaves-part r k B.labels, inner-are c e, B.states, B.labels)
        (table-args p r node_table state_table B.passed after same links-of)

    pub both-written-of : (end : List ℕ)
        → StatesOver s k (take (20 + k - 20) (drop 20 r)) (take (20 + k + c - (20 + k)) (drop (20 + k) r))
        (take (length p - (12 + n)) (drop (12 + n) p)) (take (12 + n - 12) (drop 12 p)) state_table end
        → BothWritten p r node_table state_table after end
    both-written-of end S =
        both-written p r node_table state_table B.passed after same links-of end
        (rw (kinds-are, labels-part p n B.nodes, leaves-part r k B.labels, inner-are c e, B.states, B.labels) at
        S)

-- ---- the two answers of a build

module _ (links states node_table state_table : List ℕ) where
  -- a is what `?` hands on of a check's refusal r
  pub build-refused : (n : ℕ) (r : Refusal) (a : Result Unit Refusal) → IsErrAnd a (λ e. e ≡ r) → refusal_number r ≡ n
      → BuildDone n links states node_table state_table a node_table state_table
  unfolding written
  build-refused zero r a h e = absurd (number-not-0 r e)
  build-refused (suc n) r a h e =
      let m = handed-on r a h ∙ e in
      record { result = number-tells a (suc n) tt m; number = m; node_table_written = refl; state_table_written = refl }

  pub build-done : (n : ℕ) (node_table' state_table' : List ℕ) → n ≡ 0 → node_table' ≡ links ++ drop (length links) node_table
      → state_table' ≡ states ++ drop (length states) state_table → BuildDone n links states node_table state_table (Ok _) node_table' state_table'
  unfolding written
  build-done zero node_table' state_table' e l s = record { result = refl; number = refl; node_table_written = l; state_table_written = s }
  build-done (suc n) node_table' state_table' e l s = absurd (omega arith)

-- ---- as built

written-zero : (n : ℕ) → n ≡ 0 → (table entry : List ℕ) → written n table entry ≡ table ++ drop (length table) entry
unfolding written
written-zero zero h table entry = refl
written-zero (suc n) h table entry = absurd (omega arith)

-- what an accepted build leaves, for rule tables and branch tables
pub built-lists : (n : ℕ) (links states node_table state_table : List ℕ) (answer : Result Unit Refusal) (node_table' state_table' : List ℕ)
    → BuildDone n links states node_table state_table answer node_table' state_table' → answer_number answer ≡ 0
    → (n ≡ 0) × (node_table' ≡ links ++ drop (length links) node_table) × (state_table' ≡ states ++ drop (length states) state_table)
built-lists n links states node_table state_table answer node_table' state_table' D e =
    let z : n ≡ 0 = sym D.number ∙ e in
    (z, D.node_table_written ∙ written-zero n z links node_table, D.state_table_written ∙ written-zero n z states state_table)

module _ (p r : List ℕ) where
  pub written-as-built : first_no (rule_table_checks p r) ≡ 0 → (x y : List ℕ) → AsBuilt p r (built_node_table p ++ x)
      (built_state_table p r ++ y)
  written-as-built e x y =
      let P : PlanPasses p = (rule-table-passes p r e).0 in
      record {
        accepted = e;
        links = take_at (built_node_table p) x (node_table_length (node_count p)) (length-built_node_table p P);
        states = take_at (built_state_table p r) y (state_table_length (node_count p) (state_count r)) (length-built_states p P r);
      }

  -- an accepted build leaves any buffers as built
  pub built-as-built : (node_table state_table node_table' state_table' : List ℕ) (answer : Result Unit Refusal)
      → BuildDone (first_no (build_checks p r (length node_table) (length state_table))) (built_node_table p) (built_state_table p r) node_table state_table
      answer node_table' state_table'
      → answer_number answer ≡ 0 → AsBuilt p r node_table' state_table'
  built-as-built node_table state_table node_table' state_table' answer D e =
      let q = built-lists _ (built_node_table p) (built_state_table p r) node_table state_table answer node_table' state_table' D e in
      rw (q.1, q.2) (written-as-built (build-table p r (length node_table) (length state_table) q.0) (drop (length (built_node_table p)) node_table)
      (drop (length (built_state_table p r)) state_table))
