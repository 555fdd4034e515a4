-- The build of the tables of colours for a branch table: its checks, and what it writes.
--
-- colours_fit n s numbers bytes == buffers of these lengths have room for n nodes and s colours
-- branch_colour_checks p r numbers bytes == 2 to 10, then 11; the last two are the lengths of the buffers
-- built_colour_numbers p r, built_copies p r == the numbers and the bytes that the build writes
-- BranchColoured p r numbers bytes == plan and branch table pass 2 to 10 and both buffers begin with what the build
--   writes
--
-- "a short one gives 11 in the build". The colours of a branch table are its states' own: S of them.
use Rattle.std.specs.Prelude.{ℕ, ◌≡◌, Bool, ◌&&◌, List, [], ◌∷◌, ◌++◌, leb, take}
use Rattle.formats.specs.Plan.{node_count, plan_tree}
use Rattle.formats.specs.Rules.{state_count, branch_automaton}
use Rattle.formats.specs.Checks.{Check, check, first_no, branch_table_checks}
use Rattle.colours.specs.Words.{word_step}
use Rattle.colour_tables.specs.Layout.{colour_numbers_of, copies_of, colour_numbers_length, copies_length}

abbrev pub colours_fit : ℕ → ℕ → ℕ → ℕ → Bool
colours_fit n s numbers bytes = leb (colour_numbers_length n s) numbers && leb (copies_length n s) bytes

unfoldable pub branch_colour_checks : List ℕ → List ℕ → ℕ → ℕ → List Check
branch_colour_checks p r numbers bytes =
    branch_table_checks p r ++ (check 11 (colours_fit (node_count p) (state_count r) numbers bytes) ∷ [])

abbrev pub built_colour_numbers : List ℕ → List ℕ → List ℕ
built_colour_numbers p r = colour_numbers_of (state_count r) (word_step (branch_automaton r) (plan_tree p)) (plan_tree p)

abbrev pub built_copies : List ℕ → List ℕ → List ℕ
built_copies p r = copies_of (state_count r) (word_step (branch_automaton r) (plan_tree p)) (plan_tree p)

pub record BranchColoured (p r numbers bytes : List ℕ) : Type 0 where
  pub accepted : first_no (branch_table_checks p r) ≡ 0
  pub numbers_are : take (colour_numbers_length (node_count p) (state_count r)) numbers ≡ built_colour_numbers p r
  pub bytes_are : take (copies_length (node_count p) (state_count r)) bytes ≡ built_copies p r
