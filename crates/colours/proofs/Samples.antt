-- Computed samples of the definitions.
--     recolour-sample   colours take states in turn
--     tight             a branch whose colour falls S - 1 times: the bound is met
use Prim.Native.Nat.{◌+◌, ◌*◌}
use mathlib.Core.Path.{◌≡◌, refl}
use mathlib.Core.Bool.{true}
use mathlib.Core.List.{[], ◌∷◌}
use mathlib.Core.Option.{some}
use lib.ListN.{get_or}
use Rattle.list_laws.specs.Tests.{holds}
use Rattle.trees.specs.Tree.{Tree, leaf, node}
use Rattle.trees.specs.Automaton.{WordAutomaton, word_run}
use Rattle.trees.specs.Numbering.{split, sub, parent, depth, ancestor, labels_down, word}
use Rattle.list_laws.specs.Rows.{tabulate}
use Rattle.trees.specs.Climb.{next_move, climb_in, climb}
use Rattle.trees.specs.Ascents.{jump_within, jump_by}
use Rattle.colours.specs.marks.Marks.{marks_in, marks_above, nearest_in, marked_up}
use Rattle.colours.specs.Colouring.{free_from, lowest_free, takes, recolour_from, recolour, place_of, lands}
use Rattle.colours.specs.Copies.{top_copy, copy_in, copy, copy_above, lands_at}
use Rattle.colours.specs.Descents.{fell_at, fell_by, next_from, descent, descend}
use Rattle.colours.specs.Words.{above_of, colour_above, with_upper}

-- states 0, 1, 2 lead to 2, 2, 0: the second colour finds 2 taken and takes 0; the third finds 0 taken and takes 1
recolour-sample : recolour (λ q. get_or (2 ∷ 2 ∷ 0 ∷ []) q 0) (0 ∷ 1 ∷ 2 ∷ []) ≡ 2 ∷ 0 ∷ 1 ∷ []
unfolding recolour recolour_from takes lowest_free free_from holds
recolour-sample = refl

-- labels: 0 rotates the states, 1 takes 0 to 2, 2 takes 2 to 1
abbrev B : WordAutomaton
B = record {
  states = 3;
  step = λ q a. get_or (2 ∷ 2 ∷ 0 ∷ 0 ∷ 1 ∷ 1 ∷ 1 ∷ 2 ∷ 1 ∷ []) (q * 3 + a) 0;
  accepting = λ q. true;
}

-- the path 6, 4, 2, 0 has the labels 0, 0, 1, 2
abbrev chain : Tree
chain = node (node (node (leaf 2) 1 (leaf 0)) 0 (leaf 0)) 0 (leaf 0)

tight : (with_upper B chain 2 0 ≡ some (descent 0 (1 ∷ 0 ∷ []))) × (word_run B 0 (word chain 2 0) ≡ 1)
unfolding with_upper colour_above above_of descend next_from fell_by fell_at climb climb_in next_move jump_by jump_within marks_above
    marks_in marked_up nearest_in top_copy copy_in copy copy_above lands_at lands place_of recolour recolour_from takes
    lowest_free free_from holds split sub parent depth ancestor labels_down word tabulate
tight = (refl, refl)
