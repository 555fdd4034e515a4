-- A control for document 02's S-7: a branch question whose climb passes over more nodes than it has links, on tables as
-- built. Computed.
--     gap-branch   from node 3 at depth 6 to the root: 2 links, 6 nodes passed over, in both readings
use Prim.Native.Nat.{ℕ}
use mathlib.Core.Path.{◌≡◌, refl}
use mathlib.Core.List.{List, [], ◌∷◌}
use Rattle.std.specs.Prelude.{Ok}
use Rattle.list_laws.specs.Rows.{tabulate, rows}
use Rattle.list_laws.specs.Tests.{all_below}
use Rattle.trees.specs.Numbering.{split, sub, parent, depth, ancestor, labels_down, word, is_in_subtree}
use Rattle.trees.specs.Postorder.{tree_of}
use Rattle.trees.specs.Jumps.{jump_within, jump}
use Rattle.trees.specs.Climb.{next_move, climb_in, climb}
use Rattle.trees.specs.Tables.{node_table_of, branch_state, branch_map, branch_table_of}
use Rattle.formats.specs.Rules.{branch_automaton}
use Rattle.formats.specs.Checks.{first_no}
use Rattle.formats.specs.Built.{built_node_table, built_branch_table}
use Rattle.formats.specs.Buffers.{limits_fit, buffers_fit, headers_fit, headed_buffers_fit}
use Rattle.tables.specs.Climbs.{below}
use Rattle.tables.specs.Replays.{state_move, replay_on}
use Rattle.branches.specs.declared.answers.Reading.TheVariants.{WithUpper, BelowUpper}
use Rattle.branches.specs.Question.{first_state, branched, branch_on, ask_checks, ask_number, branch_answer}
use Rattle.branches.specs.Question.{ask_answer}

-- N 13, labels 0 0 0 0 1 1 1 1 0 1 1 1 0, kinds 0 0 0 0 1 1 0 1 0 1 0 1 1
unfoldable pub gap_plan : List ℕ
gap_plan =
    13 ∷ 0 ∷ 0 ∷ 0 ∷ 12 ∷ 0 ∷ 0 ∷ 0 ∷ 25 ∷ 0 ∷ 0 ∷ 0 ∷ 0 ∷ 0 ∷ 0 ∷ 0 ∷ 1 ∷ 1 ∷ 1 ∷ 1 ∷ 0 ∷ 1 ∷ 1 ∷ 1 ∷ 0
    ∷ 0 ∷ 0 ∷ 0 ∷ 0 ∷ 1 ∷ 1 ∷ 0 ∷ 1 ∷ 0 ∷ 1 ∷ 0 ∷ 1 ∷ 1 ∷ []

-- S 2, K 2: state 0 goes to 1 by label 1, else states stay; state 1 is marked
unfoldable pub gap_table : List ℕ
gap_table = 2 ∷ 0 ∷ 0 ∷ 0 ∷ 2 ∷ 0 ∷ 0 ∷ 0 ∷ 16 ∷ 0 ∷ 0 ∷ 0 ∷ 20 ∷ 0 ∷ 0 ∷ 0 ∷ 0 ∷ 1 ∷ 1 ∷ 1 ∷ 0 ∷ 1 ∷ []

pub gap-branch :
    (ask_answer BelowUpper gap_plan gap_table (built_node_table gap_plan) (built_branch_table gap_plan gap_table) 12 3
    ≡ Ok (branched (branch_automaton gap_table) 1 2 6))
    × (ask_answer WithUpper gap_plan gap_table (built_node_table gap_plan) (built_branch_table gap_plan gap_table) 12 3
    ≡ Ok (branched (branch_automaton gap_table) 1 2 6))
unfolding gap_plan gap_table split sub parent depth ancestor labels_down word is_in_subtree tree_of jump_within jump next_move
    climb_in climb tabulate rows all_below node_table_of branch_state branch_map branch_table_of first_no limits_fit buffers_fit
    headers_fit headed_buffers_fit below state_move replay_on first_state branch_on ask_checks ask_number branch_answer ask_answer
gap-branch = (refl, refl)
