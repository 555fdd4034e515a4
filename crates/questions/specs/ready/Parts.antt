-- The parts of a question, worked out one after the other, on given bytes.
--
-- Given == what an advance reads: the tree, the automaton, the changed labels, and for each node a run state and a map
--   (the given bytes; on tables as built those of the run)
-- highest_below ms t c == the highest of the members ms below c, c included: the greatest in number; c where there is none
-- any_below ms t c == whether one of ms is below c, c included
-- move_state G m q == what one move of a climb makes of state q
-- climb_moves t h c == the moves of the climb from node h to the depth of c
-- part_links t ms v == the links of the part of root v: the moves of its climb, if it has one; question_links t ms == those of all parts
-- part_passed t ms v == the nodes passed over by the climb of that part, if it has one; question_passed t ms == by those of all parts
-- Part == a root, its state, the links of its climb and the nodes passed over
-- state_of ps v == the state of the part of root v among ps; 0 where there is none
-- part_state G ms ps v, part_of G ms ps v == the state of the part of root v, and the part, where ms are the roots and ps the parts before
-- parts_of G ms == all parts, in rising node number
-- nodes_of ps, states_of ps == the roots and the states of parts
-- last_state ps q, all_links ps == the state of the last part, which is the plan's root (q where there is none); the links of all
-- all_passed ps == the nodes passed over by all
use Rattle.std.specs.Prelude.{ℕ, ◌+◌, ◌-◌, Bool, false, cond, ◌||◌, List, [], ◌∷◌, ◌++◌, length, ◌==◌, slice_index}
use Rattle.std.proofs.Math.Option.{Option, none, some}
use Rattle.trees.specs.Tree.{Tree, size, kind_at, label_at}
use Rattle.trees.specs.Automaton.{Automaton}
use Rattle.trees.specs.Numbering.{sub, parent, depth, is_in_subtree}
use Rattle.trees.specs.Climb.{Move, via_jump, to_parent, forest_of, climb}
use Rattle.questions.specs.ready.Ready.{left_child, right_child}

pub record Given : Type 0 where
  pub tree : Tree
  pub automaton : Automaton
  pub labels : List ℕ
  pub run_state : ℕ → ℕ
  pub map_state : ℕ → ℕ → ℕ

unfoldable pub any_below : List ℕ → Tree → ℕ → Bool
any_below [] t c = false
any_below (v ∷ ms) t c = is_in_subtree c (size (sub t c)) v || any_below ms t c

-- ms rises, so the last that is below c is the greatest
unfoldable pub last_below : List ℕ → Tree → ℕ → ℕ → ℕ
last_below [] t c d = d
last_below (v ∷ ms) t c d = last_below ms t c (cond (is_in_subtree c (size (sub t c)) v) v d)

abbrev pub highest_below : List ℕ → Tree → ℕ → ℕ
highest_below ms t c = last_below ms t c c

-- "In a climb a jump applies the map, and a move to the parent applies the parent's label and the other child's run state."
unfoldable pub move_state : Given → Move → ℕ → ℕ
move_state G (via_jump v) q = G.map_state v q
move_state G (to_parent v) q =
    cond (v + 1 == parent G.tree v)
    (G.automaton.δ (G.run_state (v - size (sub G.tree v))) (label_at G.tree (parent G.tree v)) q)
    (G.automaton.δ q (label_at G.tree (parent G.tree v)) (G.run_state (parent G.tree v - 1)))

abbrev pub move_states : Given → List Move → ℕ → ℕ
move_states G [] q = q
move_states G (m ∷ ms) q = move_states G ms (move_state G m q)

abbrev pub moves_of : Option (List Move) → List Move
moves_of none = []
moves_of (some ms) = ms

unfoldable pub climb_moves : Tree → ℕ → ℕ → List Move
climb_moves t h c = moves_of (climb (forest_of t) h (depth t c))

-- the moves of the climb from the highest member below child c to c's depth
unfoldable pub climbed_links : Tree → List ℕ → ℕ → ℕ
climbed_links t ms c = length (climb_moves t (highest_below ms t c) c)

-- "Only those climbs count as links." (members below one child only)
unfoldable pub inner_links : Tree → List ℕ → ℕ → ℕ → ℕ
inner_links t ms l r =
    cond (any_below ms t l) (cond (any_below ms t r) 0 (climbed_links t ms l)) (cond (any_below ms t r) (climbed_links t ms r) 0)

unfoldable pub part_links : Tree → List ℕ → ℕ → ℕ
part_links t ms v = cond (kind_at t v == 0) 0 (inner_links t ms (left_child t v) (right_child v))

unfoldable pub sum_of : (ℕ → ℕ) → List ℕ → ℕ
sum_of f [] = 0
sum_of f (v ∷ vs) = f v + sum_of f vs

unfoldable pub question_links : Tree → List ℕ → ℕ
question_links t ms = sum_of (part_links t ms) ms

-- "the depth of its start less the depth of its end" (document 02, S-7): the climb from the highest member below child c to c's depth
unfoldable pub climbed_passed : Tree → List ℕ → ℕ → ℕ
climbed_passed t ms c = depth t (highest_below ms t c) - depth t c

unfoldable pub inner_passed : Tree → List ℕ → ℕ → ℕ → ℕ
inner_passed t ms l r =
    cond (any_below ms t l) (cond (any_below ms t r) 0 (climbed_passed t ms l)) (cond (any_below ms t r) (climbed_passed t ms r) 0)

unfoldable pub part_passed : Tree → List ℕ → ℕ → ℕ
part_passed t ms v = cond (kind_at t v == 0) 0 (inner_passed t ms (left_child t v) (right_child v))

-- "Question and branch answers carry the total over their climbs"
unfoldable pub question_passed : Tree → List ℕ → ℕ
question_passed t ms = sum_of (part_passed t ms) ms

pub record Part : Type 0 where
  pub node : ℕ
  pub state : ℕ
  pub links : ℕ
  pub passed : ℕ

abbrev pub part : ℕ → ℕ → ℕ → ℕ → Part
part v q n p = record { node = v; state = q; links = n; passed = p }

abbrev pub nodes_of : List Part → List ℕ
nodes_of [] = []
nodes_of (p ∷ ps) = p.node ∷ nodes_of ps

abbrev pub states_of : List Part → List ℕ
states_of [] = []
states_of (p ∷ ps) = p.state ∷ states_of ps

unfoldable pub state_of : List Part → ℕ → ℕ
state_of [] v = 0
state_of (p ∷ ps) v = cond (p.node == v) p.state (state_of ps v)

-- the state at child c of a member, by the climb from the highest member below c
unfoldable pub climbed_state : Given → List ℕ → List Part → ℕ → ℕ
climbed_state G ms ps c =
    move_states G (climb_moves G.tree (highest_below ms G.tree c) c) (state_of ps (highest_below ms G.tree c))

-- "A member with no member below takes its children's states from the run. With members below both children it takes theirs. With
-- members below one child only, let w be the highest of them: climb from w to depth(v)+1 and use the other child's run state. In every
-- case v's own label, as changed, is then applied."
unfoldable pub inner_state : Given → List ℕ → List Part → ℕ → ℕ → ℕ → ℕ
inner_state G ms ps v l r =
    cond (any_below ms G.tree l)
    (cond (any_below ms G.tree r)
    (G.automaton.δ (state_of ps l) (slice_index G.labels v) (state_of ps r))
    (G.automaton.δ (climbed_state G ms ps l) (slice_index G.labels v) (G.run_state r)))
    (cond (any_below ms G.tree r)
    (G.automaton.δ (G.run_state l) (slice_index G.labels v) (climbed_state G ms ps r))
    (G.automaton.δ (G.run_state l) (slice_index G.labels v) (G.run_state r)))

-- "A leaf takes its leaf state."
unfoldable pub part_state : Given → List ℕ → List Part → ℕ → ℕ
part_state G ms ps v =
    cond (kind_at G.tree v == 0)
    (G.automaton.ι (slice_index G.labels v))
    (inner_state G ms ps v (left_child G.tree v) (right_child v))

unfoldable pub part_of : Given → List ℕ → List Part → ℕ → Part
part_of G ms ps v = part v (part_state G ms ps v) (part_links G.tree ms v) (part_passed G.tree ms v)

-- "parts are handled in rising node number, one for each advance"
unfoldable pub parts_from : Given → List ℕ → List Part → List ℕ → List Part
parts_from G ms ps [] = ps
parts_from G ms ps (v ∷ vs) = parts_from G ms (ps ++ (part_of G ms ps v ∷ [])) vs

unfoldable pub parts_of : Given → List ℕ → List Part
parts_of G ms = parts_from G ms [] ms

-- the state of the plan's root, and the links and the nodes passed over of all climbs
unfoldable pub last_state : List Part → ℕ → ℕ
last_state [] q = q
last_state (p ∷ ps) q = last_state ps p.state

unfoldable pub all_links : List Part → ℕ
all_links [] = 0
all_links (p ∷ ps) = p.links + all_links ps

unfoldable pub all_passed : List Part → ℕ
all_passed [] = 0
all_passed (p ∷ ps) = p.passed + all_passed ps
