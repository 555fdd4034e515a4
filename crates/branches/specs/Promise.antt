-- What a branch question promises, on every input and on tables as built.
--
-- word_of reading t u l == the word of a reading; word_answer reading p r u l == the word automaton's answer on it
-- AnswerKept p r node_table u l answer == what holds of an answer for any inputs (BranchKept; nothing is said of a
--   refusal)
-- BranchUsable p r node_table state_table == plan, branch table and node table as built, and every map byte below S
-- links_told answer, passed_told answer == the links of an answer, and the nodes passed over; 0 of a refusal
-- AskDone reading .. == the promise of a branch question
use Rattle.std.specs.Prelude.{ℕ, ◌-◌, ◌<◌, ◌≤◌, ◌*◌, ◌≡◌, true, false, List, ◌↔◌, length, Result, Ok, Err}
use Rattle.std.proofs.Math.Option.{some}
use Rattle.trees.specs.Tree.{Tree, height}
use Rattle.trees.specs.Automaton.{word_run}
use Rattle.trees.specs.Numbering.{depth, word, lower_word, AtOrBelow}
use Rattle.trees.specs.Climb.{Move, climb, move_count, digits}
use Rattle.trees.specs.Passed.{passed_by}
use Rattle.formats.specs.Plan.{node_count, plan_tree}
use Rattle.formats.specs.Rules.{state_count, branch_automaton}
use Rattle.formats.specs.Checks.{first_no, branch_table_checks}
use Rattle.formats.specs.Built.{node_table_part, built_node_table, BranchBuilt}
use Rattle.formats.specs.Buffers.{headed_buffers_fit, branch_tables}
use Rattle.formats.specs.Refusals.{answer_number}
use Rattle.formats.specs.declared.refusals.Refusal.{Refusal}
use Rattle.formats.specs.declared.refusals.Refusal.TheVariants.{NotBelow}
use Rattle.tables.specs.node_tables.Cells.{depth_cell, cell_forest, is_in_subtree_on}
use Rattle.tables.specs.StateCells.{map_cell}
use Rattle.branches.specs.declared.answers.Reading.{Reading}
use Rattle.branches.specs.declared.answers.Reading.TheVariants.{WithUpper, BelowUpper}
use Rattle.branches.specs.declared.answers.Branched.{Branched}
use Rattle.branches.specs.Question.{branched, ask_number, ask_answer}
use Rattle.branches.specs.OutOfRange.{BranchOutOfRange}

-- "The plain call now reads the word from below the upper node .. The old reading stays under a name of its own"
abbrev pub word_of : Reading → Tree → ℕ → ℕ → List ℕ
word_of WithUpper t u l = word t u l
word_of BelowUpper t u l = lower_word t u l

-- "a branch answer is the word automaton's on the labels from the upper node down to the lower"; "Demand 2 holds for each on its own
-- word"; its links are the moves of the climb, and it passes over "the depth of its start less the depth of its end" (02, S-7)
unfoldable pub word_answer : Reading → List ℕ → List ℕ → ℕ → ℕ → Result Branched Refusal
word_answer reading p r u l =
    Ok (branched (branch_automaton r) (word_run (branch_automaton r) 0 (word_of reading (plan_tree p) u l))
    (move_count (depth (plan_tree p) l) (depth (plan_tree p) u)) (depth (plan_tree p) l - depth (plan_tree p) u))

-- ---- on tables not as built

pub record BranchKept (p r node_table : List ℕ) (u l : ℕ) (b : Branched) : Type 0 where
  pub state_below : b.state < state_count r
  pub mark : b.marked ≡ (branch_automaton r).accepting b.state
  -- "the links of the climb from the lower node to the upper's depth", as the given node table has them
  pub moves : List Move
  pub climbed : climb (cell_forest (node_count p) node_table) l (depth_cell node_table u) ≡ some moves
  pub links_are : b.links ≡ length moves
  pub links_most : b.links ≤ depth_cell node_table l - depth_cell node_table u
  -- "the depth of its start less the depth of its end", by the given depths
  pub passed_is : b.passed ≡ passed_by (cell_forest (node_count p) node_table) l moves
  pub links_passed : b.links ≤ b.passed

abbrev pub AnswerKept : List ℕ → List ℕ → List ℕ → ℕ → ℕ → Result Branched Refusal → Type 0
AnswerKept p r node_table u l (Ok b) = BranchKept p r node_table u l b
AnswerKept p r node_table u l (Err e) = Unit {0}

pub record BranchUsable (p r node_table state_table : List ℕ) : Type 0 where
  pub accepted : first_no (branch_table_checks p r) ≡ 0
  pub links : node_table_part (node_count p) node_table ≡ built_node_table p
  pub below : (v q : ℕ) → v < node_count p → q < state_count r → map_cell (state_count r) state_table v q < state_count r

-- ---- the promise

abbrev pub links_told : Result Branched Refusal → ℕ
links_told (Ok b) = b.links
links_told (Err e) = 0

abbrev pub passed_told : Result Branched Refusal → ℕ
passed_told (Ok b) = b.passed
passed_told (Err e) = 0

pub record AskDone (reading : Reading) (p r node_table state_table : List ℕ) (u l : ℕ) (answer : Result Branched Refusal) : Type 0 where
  -- on every input: the first failing check of 17, 13, 16 and 18, or the named result
  pub result : answer ≡ ask_answer reading p r node_table state_table u l
  pub number : answer_number answer ≡ ask_number reading p r node_table state_table u l
  -- an answer's state is below S, yes is its mark, its links are the climb's and no more than the difference of the
  -- given depths, and the nodes passed over are the climb's, no fewer than the links
  pub properties : AnswerKept p r node_table u l answer
  -- where 17 and 13 pass, 16 exactly when the given size says so
  pub not_below : headed_buffers_fit branch_tables p r (length node_table) (length state_table) ≡ true → u < node_count p → l < node_count p
      → (answer_number answer ≡ 16) ↔ (is_in_subtree_on node_table u l ≡ false)
  -- 18 only where a value leads outside the plan, the states or the labels, or a link does not rise
  pub out_of_range : answer_number answer ≡ 18 → BranchOutOfRange p r node_table state_table
  -- never 18 where the numbers are as built and the bytes below S
  pub usable : BranchUsable p r node_table state_table → answer_number answer ≡ 18 → ⊥
  -- on tables as built and two nodes of the plan: the word automaton's answer where the lower node is at or below the upper ..
  pub built : BranchBuilt p r node_table state_table → u < node_count p → l < node_count p → AtOrBelow (plan_tree p) u l
      → answer ≡ word_answer reading p r u l
  -- .. and 16 where it is not: 18 never
  pub apart : BranchBuilt p r node_table state_table → u < node_count p → l < node_count p → (AtOrBelow (plan_tree p) u l → ⊥) → answer ≡ Err NotBelow
  -- the links returned on tables as built are few
  pub few : BranchBuilt p r node_table state_table → links_told answer ≤ 3 * digits (height (plan_tree p))
  -- and the nodes passed over are no more than the plan is high
  pub passed_most : BranchBuilt p r node_table state_table → passed_told answer ≤ height (plan_tree p)
