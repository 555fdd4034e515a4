-- The build of the tables of colours for a rule table: its checks, and what it writes.
--
-- set_numbers_length n s, set_bytes_length n s == how many numbers and bytes n nodes and s states need: a colour for each
--   of 2 to the power s sets of states; the bytes begin with the state table of a Load, and the copies follow
-- set_colours_fit n s numbers bytes == buffers of these lengths have room for n nodes and s states
-- set_states_fit s == check 27 as a test
-- rule_colour_checks p r numbers bytes == 2 to 9, 27, 10, then 11; the last two are the lengths of the buffers
-- built_set_numbers p r, built_set_bytes p r == the numbers and the bytes that the build writes
-- RuleColoured p r numbers bytes == plan and rule table pass 2 to 10, S is at most 4, and both buffers begin with what
--   the build writes
--
-- "For rule tables with S up to 4 the same goes top down over sets of states". "A rule table with S above 4 gives 27,
-- after 9 in the build".
use Rattle.std.specs.Prelude.{ℕ, ◌+◌, ◌^◌, ◌≡◌, Bool, true, ◌&&◌, List, [], ◌∷◌, ◌++◌, leb, take}
use Rattle.formats.specs.Plan.{node_count, plan_tree}
use Rattle.formats.specs.Rules.{state_count, label_count, rule_automaton}
use Rattle.formats.specs.Checks.{Check, check, first_no, plan_checks, rule_checks, label_check, rule_table_checks}
use Rattle.formats.specs.Checks.{state_table_length}
use Rattle.formats.specs.Built.{built_state_table}
use Rattle.colours.specs.StateSets.{set_step}
use Rattle.colour_tables.specs.Layout.{colour_numbers_of, copies_of, colour_numbers_length, copies_length}

abbrev pub set_numbers_length : ℕ → ℕ → ℕ
set_numbers_length n s = colour_numbers_length n (2 ^ s)

abbrev pub set_bytes_length : ℕ → ℕ → ℕ
set_bytes_length n s = state_table_length n s + copies_length n (2 ^ s)

abbrev pub set_colours_fit : ℕ → ℕ → ℕ → ℕ → Bool
set_colours_fit n s numbers bytes = leb (set_numbers_length n s) numbers && leb (set_bytes_length n s) bytes

abbrev pub set_states_fit : ℕ → Bool
set_states_fit s = leb s 4

unfoldable pub rule_colour_checks : List ℕ → List ℕ → ℕ → ℕ → List Check
rule_colour_checks p r numbers bytes =
    plan_checks p
    ++ (rule_checks r
    ++ (check 27 (set_states_fit (state_count r))
    ∷ label_check p (label_count r)
    ∷ check 11 (set_colours_fit (node_count p) (state_count r) numbers bytes)
    ∷ []))

-- the colours' numbers, then the states that the steps of sets depend on and each node's sets in the order of their
-- colours
abbrev pub built_set_numbers : List ℕ → List ℕ → List ℕ
built_set_numbers p r =
    colour_numbers_of (2 ^ state_count r) (set_step (rule_automaton r) (plan_tree p)) (plan_tree p)

abbrev pub built_set_copies : List ℕ → List ℕ → List ℕ
built_set_copies p r = copies_of (2 ^ state_count r) (set_step (rule_automaton r) (plan_tree p)) (plan_tree p)

abbrev pub built_set_bytes : List ℕ → List ℕ → List ℕ
built_set_bytes p r = built_state_table p r ++ built_set_copies p r

pub record RuleColoured (p r numbers bytes : List ℕ) : Type 0 where
  pub accepted : first_no (rule_table_checks p r) ≡ 0
  pub few : set_states_fit (state_count r) ≡ true
  pub numbers_are : take (set_numbers_length (node_count p) (state_count r)) numbers ≡ built_set_numbers p r
  pub bytes_are : take (set_bytes_length (node_count p) (state_count r)) bytes ≡ built_set_bytes p r
