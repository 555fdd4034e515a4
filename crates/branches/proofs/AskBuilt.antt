-- What tables as built say to a branch question.
--     size_is, fits-built                    17 passes
--     built-links                            the given numbers are the tree's
--     built-climb, built-passed              so a climb on them is the tree's, and passes over the difference of the depths
--     built-label, built-step, built-map     the given labels, steps and maps are the tree's and the automaton's
use Prim.Native.Nat.{ℕ, ◌+◌, ◌-◌, ◌*◌, ◌≤◌, ◌<◌}
use mathlib.Core.Path.{◌≡◌, sym, ap, ◌∙◌, subst}
use mathlib.Core.Bool.{true}
use mathlib.Core.List.{List}
use mathlib.Core.Option.{some}
use native.Mathlib.Omega.{arith}
use lib.ListN.{length, get_or, take, length-take}
use Rattle.trees.specs.Tree.{Tree, size, label_at}
use Rattle.trees.specs.Automaton.{WordAutomaton}
use Rattle.trees.specs.Numbering.{depth}
use Rattle.trees.specs.Climb.{forest_of, Move, climb}
use Rattle.trees.specs.Passed.{passed_by}
use Rattle.trees.specs.Tables.{node_table_of, branch_table_of, branch_map}
use Rattle.trees.proofs.TableRows.{branch_table-map}
use Rattle.trees.proofs.ClimbLaws.{Tells, same-climb}
use Rattle.trees.proofs.PassedLaws.{same-passed}
use Rattle.formats.specs.Plan.{node_count, labels_within, plan_tree}
use Rattle.formats.specs.Rules.{state_count, label_count, branch_automaton}
use Rattle.formats.specs.Built.{BranchBuilt}
use Rattle.formats.specs.Buffers.{headed_buffers_fit, branch_tables}
use Rattle.formats.proofs.PlanLaws.{labels-plan_tree, size-plan_tree}
use Rattle.formats.specs.Passing.{PlanPasses}
use Rattle.formats.proofs.BranchLaws.{BranchPasses, step_below}
use Rattle.list_laws.proofs.TestLaws.{all_below-all}
use Rattle.formats.proofs.InputLaws.{branch-table-passes}
use Rattle.formats.proofs.BufferLaws.{are-headed}
use Rattle.tables.specs.node_tables.Cells.{cell_forest}
use Rattle.tables.specs.node_tables.NodeCells.{NodeCells}
use Rattle.tables.proofs.node_tables.CellLaws.{length-node_table_of, link-cells}
use Rattle.tables.specs.StateCells.{map_cell}
use Rattle.branches.proofs.BranchInputs.{length-branch_table}

-- a buffer that begins with a list of n elements has n
begins : (n : ℕ) (b l : List ℕ) → take n b ≡ l → length l ≡ n → n ≤ length b
begins n b l e z =
    let q : length (take n b) ≡ n = ap length e ∙ z in
    omega (arith, length-take n b)

module _ (p r node_table state_table : List ℕ) (D : BranchBuilt p r node_table state_table) where
  abbrev tree : Tree
  tree = plan_tree p

  abbrev automaton : WordAutomaton
  automaton = branch_automaton r

  pub plan-passes : PlanPasses p
  plan-passes = (branch-table-passes p r D.accepted).0

  pub table-passes : BranchPasses r
  table-passes = (branch-table-passes p r D.accepted).1

  pub size_is : size (plan_tree p) ≡ node_count p
  size_is = size-plan_tree p plan-passes

  -- ---- 17

  links-room : node_count p * 4 ≤ length node_table
  links-room =
      begins (node_count p * 4) node_table (node_table_of tree) D.links (length-node_table_of tree ∙ ap (λ (n : ℕ). n * 4) size_is)

  states-room : node_count p * (state_count r + 1) ≤ length state_table
  states-room =
      begins (node_count p * (state_count r + 1)) state_table (branch_table_of automaton tree) D.states
      (length-branch_table automaton tree ∙ ap (λ (n : ℕ). n * (state_count r + 1)) size_is)

  pub fits-built : headed_buffers_fit branch_tables p r (length node_table) (length state_table) ≡ true
  fits-built = are-headed branch_tables p r (length node_table) (length state_table) (record {
    headers = record {
      plan-long = plan-passes.long;
      table-long = table-passes.long;
      in-limits = record {
        nodes = plan-passes.least;
        most = plan-passes.most;
        states = table-passes.states-least;
        few = table-passes.states_most;
        labels = table-passes.labels_least;
        labels_most = table-passes.labels_most;
      };
    };
    plan_exact = plan-passes.exact;
    table-exact = table-passes.exact;
    node_table_room = links-room;
    state_table_room = states-room;
  })

  -- ---- the links

  pub built-links : NodeCells (plan_tree p) node_table
  built-links = link-cells tree (node_count p) node_table (sym size_is) D.links

  tells : Tells (cell_forest (node_count p) node_table) tree
  tells v h = (built-links.parents v h, built-links.jumps v h, built-links.depths v h)

  pub built-climb : (w to : ℕ) → w < size (plan_tree p)
      → climb (cell_forest (node_count p) node_table) w to ≡ climb (forest_of (plan_tree p)) w to
  built-climb w to h = same-climb (cell_forest (node_count p) node_table) tree (sym size_is) tells w to h

  pub built-passed : (w to : ℕ) (ms : List Move) → w < size (plan_tree p) → to ≤ depth (plan_tree p) w
      → climb (cell_forest (node_count p) node_table) w to ≡ some ms
      → passed_by (cell_forest (node_count p) node_table) w ms ≡ depth (plan_tree p) w - to
  built-passed w to ms h i e = same-passed (cell_forest (node_count p) node_table) tree (sym size_is) tells w to ms h i e

  -- ---- labels, steps and maps

  pub built-label : (v : ℕ) → get_or (labels_within p) v 0 ≡ label_at (plan_tree p) v
  built-label v = ap (λ (l : List ℕ). get_or l v 0) (sym (labels-plan_tree p plan-passes))

  pub label_below : (v : ℕ) → get_or (labels_within p) v 0 < label_count r
  label_below v =
      all_below-all (label_count r) (labels_within p) (branch-table-passes p r D.accepted).2 table-passes.labels_least v

  pub built-step : (q a : ℕ) → (branch_automaton r).step q a < state_count r
  built-step q a = step_below r table-passes (q * label_count r + a)

  pub built-map : (v q : ℕ) → v < size (plan_tree p) → q < state_count r
      → map_cell (state_count r) state_table v q ≡ branch_map (branch_automaton r) (plan_tree p) v q
  built-map v q h l =
      let e : v * (state_count r + 1) + (1 + q) ≡ v * (state_count r + 1) + 1 + q = omega arith in
      ap (λ (i : ℕ). get_or state_table i 0) e
      ∙ branch_table-map automaton tree state_table
      (subst (λ (n : ℕ). take (n * (state_count r + 1)) state_table ≡ branch_table_of automaton tree) (sym size_is) D.states)
      v h q l
