-- What an accepted branch question answers.
--
-- BranchAnswered reading p r u l n state yes links passed == on tables as built: the word automaton's state on the
--   reading's word, its mark, the links of the tree's own climb and the nodes it passes over
-- BranchAnsweredOn p r node_table u l state yes links passed == on any tables: what still holds of that
-- branch_table_a == a branch table of 2 states and 2 labels: whether label 1 occurs an even number of times
use Rattle.std.specs.Prelude.{ℕ, ◌-◌, ◌<◌, ◌≤◌, ◌≡◌, List, [], ◌∷◌, length}
use Rattle.std.proofs.Math.Option.{some}
use Rattle.trees.specs.Automaton.{word_run}
use Rattle.trees.specs.Numbering.{depth}
use Rattle.trees.specs.Climb.{Move, forest_of, climb}
use Rattle.trees.specs.Passed.{passed_by}
use Rattle.formats.specs.Plan.{node_count, plan_tree}
use Rattle.formats.specs.Rules.{state_count, branch_automaton}
use Rattle.tables.specs.node_tables.Cells.{depth_cell, cell_forest}
use Rattle.branches.specs.declared.answers.Reading.{Reading}
use Rattle.branches.specs.Promise.{word_of}
use Rattle.questions.specs.ready.Parts.{climb_moves}
use Rattle.capi.specs.numbers.Numbers.{bit_of}

pub record BranchAnswered (reading : Reading) (p r : List ℕ) (u l n state yes links passed : ℕ) : Type 0 where
  pub accepted : n ≡ 0
  pub state_is : state ≡ word_run (branch_automaton r) 0 (word_of reading (plan_tree p) u l)
  pub yes_is : yes ≡ bit_of ((branch_automaton r).accepting state)
  -- the climb from the lower node to the upper's depth ends, and its moves are the links
  pub climbed : climb (forest_of (plan_tree p)) l (depth (plan_tree p) u) ≡ some (climb_moves (plan_tree p) l u)
  pub links_are : links ≡ length (climb_moves (plan_tree p) l u)
  pub passed_are : passed ≡ depth (plan_tree p) l - depth (plan_tree p) u

pub record BranchAnsweredOn (p r node_table : List ℕ) (u l state yes links passed : ℕ) : Type 0 where
  pub state_below : state < state_count r
  pub yes_is : yes ≡ bit_of ((branch_automaton r).accepting state)
  -- the climb by the parents, jumps and depths of the table that was passed in
  pub moves : List Move
  pub climbed : climb (cell_forest (node_count p) node_table) l (depth_cell node_table u) ≡ some moves
  pub links_are : links ≡ length moves
  pub links_most : links ≤ depth_cell node_table l - depth_cell node_table u
  pub passed_are : passed ≡ passed_by (cell_forest (node_count p) node_table) l moves
  pub links_passed : links ≤ passed

-- S 2, K 2, steps 0 1 1 0, marks 1 0
unfoldable pub branch_table_a : List ℕ
branch_table_a =
    2 ∷ 0 ∷ 0 ∷ 0 ∷ 2 ∷ 0 ∷ 0 ∷ 0 ∷ 16 ∷ 0 ∷ 0 ∷ 0 ∷ 20 ∷ 0 ∷ 0 ∷ 0
    ∷ 0 ∷ 1 ∷ 1 ∷ 0 ∷ 1 ∷ 0 ∷ []
