-- A control for document 02's S-7, computed: in 01's sample the nodes passed over equal the links in every line, here
-- they do not.
--     gap_plan         N 13, kinds 0 0 0 0 1 1 0 1 0 1 0 1 1, labels 0 0 0 0 1 1 1 1 0 1 1 1 0
--     gap-question    the list 1→0, 3→1, of which 02's S-5 leaves node 3: 2 parts, 3 links, 5 nodes passed over
--     gap_parts       the same by table A, part by part: the root's climb goes from depth 6 to 3, 2 and 1
use Rattle.std.proofs.Common.{◌≡◌, [], ◌∷◌, refl}
use Rattle.list_laws.specs.Tests.{holds}
use Rattle.trees.specs.Tree.{Tree, labels_of}
use Rattle.trees.specs.Automaton.{Automaton, state}
use Rattle.trees.specs.Numbering.{split, sub, parent, depth, is_in_subtree}
use Rattle.trees.specs.Postorder.{tree_of}
use Rattle.trees.specs.Changes.{changed}
use Rattle.trees.specs.Jumps.{jump_within, jump}
use Rattle.trees.specs.Climb.{next_move, climb_in, climb, walk}
use Rattle.trees.specs.Tables.{step_up, state_map}
use Rattle.formats.specs.Rules.{tree_automaton}
use Rattle.questions.specs.ready.Members.{some_within, some_below, forks_at, has_member, keep, ready_list, roots}
use Rattle.questions.specs.ready.Parts.{Given, any_below, last_below, move_state, climb_moves, climbed_links, inner_links}
use Rattle.questions.specs.ready.Parts.{part_links, sum_of, question_links, climbed_passed, inner_passed, part_passed}
use Rattle.questions.specs.ready.Parts.{question_passed, part, state_of, climbed_state, inner_state, part_state, part_of}
use Rattle.questions.specs.ready.Parts.{parts_from, parts_of}

unfoldable pub gap_plan : Tree
unfolding tree_of
gap_plan =
    tree_of (0 ∷ 0 ∷ 0 ∷ 0 ∷ 1 ∷ 1 ∷ 0 ∷ 1 ∷ 0 ∷ 1 ∷ 0 ∷ 1 ∷ 1 ∷ [])
    (0 ∷ 0 ∷ 0 ∷ 0 ∷ 1 ∷ 1 ∷ 1 ∷ 1 ∷ 0 ∷ 1 ∷ 1 ∷ 1 ∷ 0 ∷ [])

-- "Table A: S 2, K 2, leaf states 0 1, inner 0 1 0 0 1 1 0 1, marks 0 1"
abbrev pub table_a : Automaton
table_a = tree_automaton 2 2 (0 ∷ 1 ∷ []) (0 ∷ 1 ∷ 0 ∷ 0 ∷ 1 ∷ 1 ∷ 0 ∷ 1 ∷ []) (0 ∷ 1 ∷ [])

unfoldable pub gap_given : Given
gap_given = record {
  tree = gap_plan;
  automaton = table_a;
  labels = changed (labels_of gap_plan) (1 ∷ 3 ∷ []) (0 ∷ 1 ∷ []);
  run_state = λ v. state table_a (sub gap_plan v);
  map_state = state_map table_a gap_plan;
}

pub gap-question :
    (roots gap_plan (3 ∷ []) ≡ 3 ∷ 12 ∷ [])
    × (question_links gap_plan (3 ∷ 12 ∷ []) ≡ 3)
    × (question_passed gap_plan (3 ∷ 12 ∷ []) ≡ 5)
unfolding gap_plan split sub parent depth jump_within jump next_move climb_in climb is_in_subtree holds some_within some_below forks_at
    has_member keep ready_list roots any_below last_below climb_moves climbed_links inner_links part_links sum_of question_links
    climbed_passed inner_passed part_passed question_passed
gap-question = (refl, refl, refl)

pub gap_parts : parts_of gap_given (3 ∷ 12 ∷ []) ≡ part 3 1 0 0 ∷ part 12 0 3 5 ∷ []
unfolding gap_plan gap_given split sub parent depth jump_within jump next_move climb_in climb walk step_up state_map changed
    is_in_subtree any_below last_below move_state climb_moves climbed_links inner_links part_links climbed_passed inner_passed
    part_passed state_of climbed_state inner_state part_state part_of parts_from parts_of
gap_parts = refl
