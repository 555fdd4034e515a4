-- Build, full check and fresh run: what an accepted call answers and writes.
--     build-writes, build-as-built   whatif_build: the tables of the definitions, and behind them what was there
--     build-cells                    which they are, node by node
--     check-exactly, check-no        whatif_check: yes exactly where the tables are what the build writes, no elsewhere
--     built-checked                  what the build leaves, the full check answers with yes
--     run-answers, run-each-node     whatif_fresh_run: source document 002's run of the changed plan
-- The numbers, and that a refused call alters nothing: Calls. The same of a branch table: Branches.
use Prim.Native.Nat.{ℕ, ◌+◌, ◌*◌, ◌<◌}
use mathlib.Core.Path.{◌≡◌, refl, sym, ap, ◌∙◌}
use mathlib.Core.Bool.{Bool}
use mathlib.Core.List.{List, ◌++◌}
use mathlib.Core.Logic.{◌↔◌}
use native.Mathlib.Omega.{arith}
use lib.ListN.{length, get_or, take, drop}
use Rattle.std.specs.Prelude.{Result}
use Rattle.trees.specs.Tree.{size, label_at}
use Rattle.trees.specs.Automaton.{run, state}
use Rattle.trees.specs.Numbering.{sub}
use Rattle.trees.specs.Tables.{state_map}
use Rattle.trees.proofs.RunLaws.{run_at}
use Rattle.trees.proofs.TableRows.{state_table_of-state, state_table_of-map}
use Rattle.formats.specs.Plan.{node_count, plan_tree}
use Rattle.formats.specs.Rules.{state_count, rule_automaton}
use Rattle.formats.specs.Built.{built_node_table, built_state_table, AsBuilt}
use Rattle.formats.specs.declared.refusals.Refusal.{Refusal}
use Rattle.formats.proofs.PlanLaws.{size-plan_tree}
use Rattle.formats.proofs.InputLaws.{rule-table-passes}
use Rattle.tables.specs.node_tables.NodeCells.{NodeCells}
use Rattle.tables.specs.StateCells.{state_cell, map_cell}
use Rattle.tables.proofs.node_tables.CellLaws.{link-cells}
use Rattle.tables.proofs.CheckTheorems.{no-check}
use Rattle.runs.specs.FreshRun.{changed_tree, root_state, root_accepted}
use Rattle.capi.specs.numbers.Numbers.{bit_of, yes_of}
use Rattle.capi.specs.table_calls.RunExported.{RunExported}
use Rattle.capi.proofs.numbers.BuildExportedLaws.{exported-lists}
use Rattle.capi.proofs.table_calls.Theorems as calls
use Rattle.claims.specs.CallAnswers.{BuildCall, CheckCall}

-- ---- the build

module _ (p r node_table state_table : List ℕ) (n : ℕ) (node_table' state_table' : List ℕ)
    (E : BuildCall p r node_table state_table n node_table' state_table') where
  -- "The lent buffers are 16-bit numbers, four for each node in node order (parent, jump, depth, size of its subtree),
  -- and bytes, S+1 for each node (its state in the run, then its map). The excess of a longer buffer is untouched."
  build-writes : n ≡ 0
      → (node_table' ≡ built_node_table p ++ drop (length (built_node_table p)) node_table)
      × (state_table' ≡ built_state_table p r ++ drop (length (built_state_table p r)) state_table)
  build-writes =
      exported-lists _ (built_node_table p) (built_state_table p r) node_table state_table n node_table' state_table' E

  -- so both buffers are "as built from the plan and rules lent", for any excess
  build-as-built : n ≡ 0 → AsBuilt p r node_table' state_table'
  build-as-built = calls.build-as-built p r node_table state_table n node_table' state_table' E

  -- the four numbers of each node, and its bytes: "The map gives, for each state assumed at the node, the state that
  -- follows at its jump, with the plan's labels and the run's states beside the path."
  build-cells : n ≡ 0 → NodeCells (plan_tree p) node_table'
      × ((v : ℕ) → v < node_count p
      → (state_cell (state_count r) state_table' v ≡ state (rule_automaton r) (sub (plan_tree p) v))
      × ((q : ℕ) → q < state_count r
      → map_cell (state_count r) state_table' v q ≡ state_map (rule_automaton r) (plan_tree p) v q))
  build-cells e =
      let B = build-as-built e in
      let z : size (plan_tree p) ≡ node_count p = size-plan_tree p (rule-table-passes p r B.accepted).0 in
      let states = ap (λ (m : ℕ). take (m * (state_count r + 1)) state_table') z ∙ B.states in (
        link-cells (plan_tree p) (node_count p) node_table' (sym z) B.links,
        λ v h. (
          state_table_of-state (rule_automaton r) (plan_tree p) state_table' states v (omega (arith, z)),
          λ q l. (let i : v * (state_count r + 1) + (1 + q) ≡ v * (state_count r + 1) + 1 + q = omega arith in
              ap (λ (j : ℕ). get_or state_table' j 0) i
              ∙ state_table_of-map (rule_automaton r) (plan_tree p) state_table' states v (omega (arith, z)) q l),
        ),
      )

-- ---- the full check

module _ (p r node_table state_table : List ℕ) (n yes₀ yes₁ : ℕ)
    (E : CheckCall p r node_table state_table n yes₀ yes₁) where
  -- "a full check of lent tables, whose yes holds exactly when they are what the build writes"
  check-exactly : ((n ≡ 0) × (yes₁ ≡ 1)) ↔ AsBuilt p r node_table state_table
  check-exactly = calls.check-exactly p r node_table state_table n yes₀ yes₁ E

  -- accepted on other tables, it answers 0 for no
  check-no : n ≡ 0 → (AsBuilt p r node_table state_table → ⊥) → yes₁ ≡ 0
  check-no z h =
      E.number.yes_answer
      ∙ ap (λ (a : Result Bool Refusal). yes_of a yes₀)
      (no-check p r node_table state_table E.answer E.done
      (sym (calls.check-number p r node_table state_table n yes₀ yes₁ E) ∙ z) h)

-- what an accepted build leaves passes the full check
built-checked : (p r x y : List ℕ) (x' y' : List ℕ) → BuildCall p r x y 0 x' y'
    → (n yes₀ yes₁ : ℕ) → CheckCall p r x' y' n yes₀ yes₁ → (n ≡ 0) × (yes₁ ≡ 1)
built-checked p r x y x' y' E n yes₀ yes₁ F =
    (check-exactly p r x' y' n yes₀ yes₁ F).1 (build-as-built p r x y 0 x' y' E refl)

-- ---- the fresh run

-- "a fresh run without tables (it tells state, yes or no)": "the root state, and its yes or no, of a fresh run (source
-- document 002's, on Start's plan with the listed labels changed)"
run-answers : (p r vs bs : List ℕ) (n state₀ yes₀ state₁ yes₁ : ℕ) → RunExported p r vs bs n state₀ yes₀ state₁ yes₁
    → n ≡ 0 → (state₁ ≡ root_state p r vs bs) × (yes₁ ≡ bit_of (root_accepted p r vs bs))
run-answers = calls.run-answers

-- that run labels each node with the state of its subtree
run-each-node : (p r vs bs : List ℕ) (v : ℕ) → v < size (changed_tree p vs bs)
    → label_at (run (rule_automaton r) (changed_tree p vs bs)) v ≡ state (rule_automaton r) (sub (changed_tree p vs bs) v)
run-each-node p r vs bs = run_at (rule_automaton r) (changed_tree p vs bs)
