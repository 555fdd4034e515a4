-- What a branch question by colours promises, on every input and on tables as built.
--
-- BranchColoursBuilt p r node_table numbers bytes == node table and tables of colours are as built from plan and branch
--   table
-- BranchColoursUsable p r node_table numbers bytes == plan, branch table, node table and the colours' numbers as built;
--   of the copies only that their states are below S and that one of each is state 0
-- word_descent reading B t u l == the descent of a reading by the tree's own colours
-- word_drops reading B t u l == its drops: the places on the path where the colour falls
-- DescentAnswer reading p r u l answer == the answer is the word automaton's, with the drops and links of that
--   descent: at most S - 1 drops, and at most 45 links for each
-- word_start reading t u == the copy in which a reading's word begins, by the tree
-- OnCopies reading p r bytes u l answer == what is told is the byte at l of the colour that the descent by the tree's own
--   colours ends with, on the copies given
-- ColourAskDone reading .. == the promise of a branch question by colours
use Rattle.std.specs.Prelude.{ℕ, suc, ◌+◌, ◌-◌, ◌*◌, ◌≤◌, ◌<◌, ◌≡◌, true, false, List, ◌↔◌, length, get_or, take, Result, Ok, Err}
use Rattle.std.proofs.Math.Option.{Option, none, some}
use Rattle.trees.specs.Tree.{Tree}
use Rattle.trees.specs.Automaton.{WordAutomaton, word_run}
use Rattle.trees.specs.Numbering.{depth, AtOrBelow}
use Rattle.formats.specs.Plan.{node_count, plan_tree}
use Rattle.formats.specs.Rules.{state_count, branch_automaton}
use Rattle.formats.specs.Checks.{first_no, branch_table_checks}
use Rattle.formats.specs.Built.{node_table_part, built_node_table}
use Rattle.formats.specs.Refusals.{answer_number, told}
use Rattle.formats.specs.declared.refusals.Refusal.{Refusal}
use Rattle.tables.specs.node_tables.Cells.{is_in_subtree_on}
use Rattle.branches.specs.declared.answers.Reading.{Reading}
use Rattle.branches.specs.declared.answers.Reading.TheVariants.{WithUpper, BelowUpper}
use Rattle.branches.specs.Promise.{word_of}
use Rattle.colours.specs.Colouring.{place_of}
use Rattle.colours.specs.Copies.{drops_down}
use Rattle.colours.specs.Descents.{Place, Descent, drops, links, descend, colour_table_of}
use Rattle.colours.specs.Words.{word_step, above_of, colour_above, colour_here, with_upper, below_upper}
use Rattle.colour_tables.specs.ColourCells.{copy_row}
use Rattle.colour_tables.specs.Layout.{colour_numbers_length}
use Rattle.colour_tables.specs.branch.Build.{built_colour_numbers, BranchColoured}
use Rattle.colour_questions.specs.declared.branch.answers.ColourAsked.{ColourAsked}
use Rattle.colour_questions.specs.branch.Question.{colour_buffers_fit, colour_in, asked, colour_number, colour_ask_answer}
use Rattle.colour_questions.specs.branch.OutOfRange.{BranchColoursOutOfRange}

pub record BranchColoursBuilt (p r node_table numbers bytes : List ℕ) : Type 0 where
  pub coloured : BranchColoured p r numbers bytes
  pub links : node_table_part (node_count p) node_table ≡ built_node_table p

pub record BranchColoursUsable (p r node_table numbers bytes : List ℕ) : Type 0 where
  pub accepted : first_no (branch_table_checks p r) ≡ 0
  pub links : node_table_part (node_count p) node_table ≡ built_node_table p
  pub numbers_are : take (colour_numbers_length (node_count p) (state_count r)) numbers ≡ built_colour_numbers p r
  pub below : (v c : ℕ) → v < node_count p → c < state_count r → get_or bytes (v * state_count r + c) 0 < state_count r
  pub starts : (z : ℕ) → z < node_count p → place_of 0 (copy_row (state_count r) bytes z) < state_count r

abbrev pub word_descent : Reading → WordAutomaton → Tree → ℕ → ℕ → Option Descent
word_descent WithUpper B t u l = with_upper B t u l
word_descent BelowUpper B t u l = below_upper B t u l

-- "its drops, the places on the path where the colour falls": with the upper node's label the path is one place longer
abbrev pub word_drops : Reading → WordAutomaton → Tree → ℕ → ℕ → ℕ
word_drops WithUpper B t u l =
    drops_down B.states (word_step B t) t l (suc (depth t l - depth t u)) (colour_above B t u)
word_drops BelowUpper B t u l =
    drops_down B.states (word_step B t) t l (depth t l - depth t u) (colour_here B t u)

-- "On tables as built from what is lent, a branch answer by colours is that of the climb, for either reading of the
-- word, and its drops, the places on the path where the colour falls, are at most S-1."
pub record DescentAnswer (reading : Reading) (p r : List ℕ) (u l : ℕ) (answer : Result ColourAsked Refusal) : Type 0 where
  pub way : Descent
  pub found : word_descent reading (branch_automaton r) (plan_tree p) u l ≡ some way
  pub is : answer
      ≡ Ok (asked (word_run (branch_automaton r) 0 (word_of reading (plan_tree p) u l))
      ((branch_automaton r).accepting (word_run (branch_automaton r) 0 (word_of reading (plan_tree p) u l)))
      (drops way) (links way))
  pub drops_are : drops way ≡ word_drops reading (branch_automaton r) (plan_tree p) u l
  pub falls : drops way ≤ state_count r - 1
  pub few : links way ≤ drops way * 45

-- the copy in which a reading's word begins, by the tree
abbrev pub word_start : Reading → Tree → ℕ → Place
word_start WithUpper t u = above_of t u
word_start BelowUpper t u = some u

-- on any copies below S with state 0 in each: what the descent by the tree's own colours gives there
pub record OnCopies (reading : Reading) (p r bytes : List ℕ) (u l : ℕ) (answer : ℕ × Option ColourAsked) : Type 0 where
  pub colour : ℕ
  pub starts : colour_in (state_count r) bytes (word_start reading (plan_tree p) u) ≡ some colour
  pub way : Descent
  pub found : descend (colour_table_of (state_count r) (word_step (branch_automaton r) (plan_tree p)) (plan_tree p)) colour
      (word_start reading (plan_tree p) u) l colour ≡ some way
  pub is : answer
      ≡ (
        0,
        some (asked (get_or bytes (l * state_count r + way.colour) 0)
            ((branch_automaton r).accepting (get_or bytes (l * state_count r + way.colour) 0)) (drops way) (links way)),
      )

abbrev pub state_kept : List ℕ → Result ColourAsked Refusal → Type 0
state_kept r (Ok a) = (a.state < state_count r) × (a.marked ≡ (branch_automaton r).accepting a.state)
state_kept r (Err e) = Unit {0}

pub record ColourAskDone (reading : Reading) (p r node_table numbers bytes : List ℕ) (u l : ℕ)
    (answer : Result ColourAsked Refusal) : Type 0 where
  -- on every input: the first failing check of 17, 13, 16 and 18, or the named result
  pub result : told answer ≡ colour_ask_answer reading p r node_table numbers bytes u l
  pub number : answer_number answer ≡ colour_number reading p r node_table numbers bytes u l
  -- an answer's state is below S, and yes is its mark
  pub properties : state_kept r answer
  -- where 17 and 13 pass, 16 exactly when the given size says so
  pub not_below : colour_buffers_fit p r (length node_table) (length numbers) (length bytes) ≡ true → u < node_count p
      → l < node_count p
      → (answer_number answer ≡ 16) ↔ (is_in_subtree_on node_table u l ≡ false)
  -- 18 only where a value leads outside the plan or the states, does not rise or leads to no fall
  pub out_of_range : answer_number answer ≡ 18 → BranchColoursOutOfRange p r node_table numbers bytes
  -- never 18 where the numbers are as built, the states below S and state 0 in each copy
  pub usable : BranchColoursUsable p r node_table numbers bytes → answer_number answer ≡ 18 → ⊥
  -- on tables as built and two nodes of the plan: the word automaton's answer where the lower node is at or below the
  -- upper ..
  pub built : BranchColoursBuilt p r node_table numbers bytes → u < node_count p → l < node_count p
      → AtOrBelow (plan_tree p) u l
      → DescentAnswer reading p r u l answer
  -- .. and 16 where it is not: 18 never
  pub apart : BranchColoursBuilt p r node_table numbers bytes → u < node_count p → l < node_count p
      → (AtOrBelow (plan_tree p) u l → ⊥)
      → told answer ≡ (16, none)
