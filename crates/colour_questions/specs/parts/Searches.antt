-- The searches of a rule question by the tree's own colours.
--
-- found_searches o == the searches of trials that found a state; none where none was found
-- climb_searches A t u ms c == those of the trials of target states at child c, from the highest member below c with its
--   state in the run over the changed tree u
-- side_searches A t u ms c d == the same where no member is below c's sibling d; none elsewhere
-- part_searches A t u ms v == those of the part of root v
-- gathered f vs == f of each node, one after the other
-- question_searches A t u ms == those of all parts, in rising node number: a question's drops are their number, its links
--   their sum
--
-- They do not depend on any table passed in.
use Rattle.std.specs.Prelude.{ℕ, cond, List, [], ◌∷◌, ◌++◌, eqb}
use Rattle.std.proofs.Math.Option.{Option, none, some}
use Rattle.trees.specs.Tree.{Tree, kind_at}
use Rattle.trees.specs.Automaton.{Automaton, state}
use Rattle.trees.specs.Numbering.{sub}
use Rattle.questions.specs.ready.Ready.{left_child, right_child}
use Rattle.questions.specs.ready.Parts.{any_below, highest_below}
use Rattle.colours.specs.StateSets.{Tried, try_targets}

abbrev pub found_searches : Option Tried → List ℕ
found_searches none = []
found_searches (some r) = r.searches

-- "the state its climb gives is found by trying target states in rising order up to it"
unfoldable pub climb_searches : Automaton → Tree → Tree → List ℕ → ℕ → List ℕ
climb_searches A t u ms c = found_searches (try_targets A t c (highest_below ms t c) (state A (sub u (highest_below ms t c))))

-- "where a part has members below one child only"
unfoldable pub side_searches : Automaton → Tree → Tree → List ℕ → ℕ → ℕ → List ℕ
side_searches A t u ms c d = cond (any_below ms t c) (cond (any_below ms t d) [] (climb_searches A t u ms c)) []

unfoldable pub part_searches : Automaton → Tree → Tree → List ℕ → ℕ → List ℕ
part_searches A t u ms v =
    cond (eqb (kind_at t v) 0) []
    (side_searches A t u ms (left_child t v) (right_child v) ++ side_searches A t u ms (right_child v) (left_child t v))

unfoldable pub gathered : (ℕ → List ℕ) → List ℕ → List ℕ
gathered f [] = []
gathered f (v ∷ vs) = f v ++ gathered f vs

unfoldable pub question_searches : Automaton → Tree → Tree → List ℕ → List ℕ
question_searches A t u ms = gathered (part_searches A t u ms) ms
