-- The control of questions/ready's PassedSample on tables as built: what `part` gives for its two parts. Computed.
--     gap-first, gap-root   node 3, a leaf; the root, by a climb of 3 links that passes over 5 nodes
use Rattle.std.proofs.Common.{◌≡◌, ℕ, List, [], ◌∷◌, refl}
use mathlib.Core.Option.{some}
use Rattle.list_laws.specs.Rows.{tabulate, rows}
use Rattle.trees.specs.Numbering.{split, sub, parent, depth, is_in_subtree}
use Rattle.trees.specs.Postorder.{tree_of}
use Rattle.trees.specs.Changes.{changed}
use Rattle.trees.specs.Jumps.{jump_within, jump}
use Rattle.trees.specs.Climb.{next_move, climb_in, climb, walk}
use Rattle.trees.specs.Tables.{node_table_of, step_up, state_map, state_table_of}
use Rattle.formats.specs.Built.{built_node_table, built_state_table}
use Rattle.formats.specs.Buffers.{limits_fit, buffers_fit}
use Rattle.tables.specs.Climbs.{below, run_on, rule_on, sibling_on, parent_on, move_on, reached, climb_on}
use Rattle.questions.specs.Part.{last_found, label_on, climb_from, run_reached, own_reached, join_on, inner_on, leaf_on}
use Rattle.questions.specs.Part.{fork_on, part_on}
use Rattle.questions.specs.PartAnswers.{asked_fits, part_fits, part_given}

-- N 13, labels 0 0 0 0 1 1 1 1 0 1 1 1 0, kinds 0 0 0 0 1 1 0 1 0 1 0 1 1
unfoldable pub gap_plan : List ℕ
gap_plan =
    13 ∷ 0 ∷ 0 ∷ 0 ∷ 12 ∷ 0 ∷ 0 ∷ 0 ∷ 25 ∷ 0 ∷ 0 ∷ 0 ∷ 0 ∷ 0 ∷ 0 ∷ 0 ∷ 1 ∷ 1 ∷ 1 ∷ 1 ∷ 0 ∷ 1 ∷ 1 ∷ 1 ∷ 0
    ∷ 0 ∷ 0 ∷ 0 ∷ 0 ∷ 1 ∷ 1 ∷ 0 ∷ 1 ∷ 0 ∷ 1 ∷ 0 ∷ 1 ∷ 1 ∷ []

-- "Table A: S 2, K 2, leaf states 0 1, inner 0 1 0 0 1 1 0 1, marks 0 1"
unfoldable pub table_a : List ℕ
table_a =
    2 ∷ 0 ∷ 0 ∷ 0 ∷ 2 ∷ 0 ∷ 0 ∷ 0 ∷ 20 ∷ 0 ∷ 0 ∷ 0 ∷ 22 ∷ 0 ∷ 0 ∷ 0 ∷ 30 ∷ 0 ∷ 0 ∷ 0
    ∷ 0 ∷ 1 ∷ 0 ∷ 1 ∷ 0 ∷ 0 ∷ 1 ∷ 1 ∷ 0 ∷ 1 ∷ 0 ∷ 1 ∷ []

unfoldable pub computing : ℕ
unfolding split sub parent depth is_in_subtree tree_of changed jump_within jump next_move climb_in climb walk tabulate rows
    node_table_of step_up state_map state_table_of limits_fit buffers_fit below run_on rule_on sibling_on parent_on move_on climb_on
    last_found label_on climb_from run_reached own_reached join_on inner_on leaf_on fork_on part_on asked_fits part_fits part_given
computing = 0

-- the list 1→0, 3→1, of which 02's S-5 leaves node 3
pub gap-first :
    part_given 13 2 2 gap_plan table_a (built_node_table gap_plan) (built_state_table gap_plan table_a) (3 ∷ 12 ∷ []) []
    (1 ∷ 3 ∷ []) (0 ∷ 1 ∷ [])
    ≡ some (reached 1 0 0)
unfolding gap_plan table_a computing
gap-first = refl

pub gap-root :
    part_given 13 2 2 gap_plan table_a (built_node_table gap_plan) (built_state_table gap_plan table_a) (3 ∷ 12 ∷ []) (1 ∷ [])
    (1 ∷ 3 ∷ []) (0 ∷ 1 ∷ [])
    ≡ some (reached 0 3 5)
unfolding gap_plan table_a computing
gap-root = refl
