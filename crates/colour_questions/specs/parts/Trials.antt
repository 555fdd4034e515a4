-- The parts of a rule question by colours, on given run states.
--
-- tried_state G ms ps c == the state at child c that follows from the state of the highest member below it, with the plan's
--   labels and the run's states beside the path: what the trials find, for any given run states
-- part_by_trials G ms ps v == the state of the part of root v, where the other children's states are the given run states
-- part_trials G ms ps v == the searches of its trials
-- tried_parts G ms ps vs, trials_from G ms ps vs == the parts of the roots vs after ps, and the searches of all of them
use Rattle.std.specs.Prelude.{ℕ, ◌-◌, cond, List, [], ◌∷◌, ◌++◌, eqb, get_or}
use Rattle.trees.specs.Tree.{kind_at}
use Rattle.trees.specs.Numbering.{depth}
use Rattle.trees.specs.Climb.{walk}
use Rattle.trees.specs.Tables.{step_up}
use Rattle.questions.specs.ready.Ready.{left_child, right_child}
use Rattle.questions.specs.ready.Parts.{Given, Part, part, any_below, highest_below, state_of}
use Rattle.colour_questions.specs.parts.Sides.{side_tried}
use Rattle.colour_questions.specs.parts.Searches.{found_searches}

unfoldable pub tried_state : Given → List ℕ → List Part → ℕ → ℕ
tried_state G ms ps c =
    walk (step_up G.automaton G.tree) G.tree (highest_below ms G.tree c)
    (depth G.tree (highest_below ms G.tree c) - depth G.tree c) (state_of ps (highest_below ms G.tree c))

unfoldable pub inner_by_trials : Given → List ℕ → List Part → ℕ → ℕ → ℕ → ℕ
inner_by_trials G ms ps v l r =
    cond (any_below ms G.tree l)
    (cond (any_below ms G.tree r)
    (G.automaton.δ (state_of ps l) (get_or G.labels v 0) (state_of ps r))
    (G.automaton.δ (tried_state G ms ps l) (get_or G.labels v 0) (G.run_state r)))
    (cond (any_below ms G.tree r)
    (G.automaton.δ (G.run_state l) (get_or G.labels v 0) (tried_state G ms ps r))
    (G.automaton.δ (G.run_state l) (get_or G.labels v 0) (G.run_state r)))

unfoldable pub part_by_trials : Given → List ℕ → List Part → ℕ → ℕ
part_by_trials G ms ps v =
    cond (eqb (kind_at G.tree v) 0)
    (G.automaton.ι (get_or G.labels v 0))
    (inner_by_trials G ms ps v (left_child G.tree v) (right_child v))

unfoldable pub side_trials : Given → List ℕ → List Part → ℕ → List ℕ
side_trials G ms ps c = found_searches (side_tried G ms ps c)

unfoldable pub part_trials : Given → List ℕ → List Part → ℕ → List ℕ
part_trials G ms ps v =
    cond (eqb (kind_at G.tree v) 0) []
    (cond (any_below ms G.tree (left_child G.tree v)) (cond (any_below ms G.tree (right_child v)) []
    (side_trials G ms ps (left_child G.tree v))) []
    ++ cond (any_below ms G.tree (right_child v)) (cond (any_below ms G.tree (left_child G.tree v)) []
    (side_trials G ms ps (right_child v))) [])

abbrev pub tried_part : Given → List ℕ → List Part → ℕ → Part
tried_part G ms ps v = part v (part_by_trials G ms ps v) 0 0

unfoldable pub tried_parts : Given → List ℕ → List Part → List ℕ → List Part
tried_parts G ms ps [] = ps
tried_parts G ms ps (v ∷ vs) = tried_parts G ms (ps ++ (tried_part G ms ps v ∷ [])) vs

unfoldable pub trials_from : Given → List ℕ → List Part → List ℕ → List ℕ
trials_from G ms ps [] = []
trials_from G ms ps (v ∷ vs) = part_trials G ms ps v ++ trials_from G ms (ps ++ (tried_part G ms ps v ∷ [])) vs
