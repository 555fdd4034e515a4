-- The tables that Load writes, as whole lists.
--
-- node_table_of t == the 16-bit numbers of a tree: parent, jump, depth and size of the subtree, for each node in node order
-- state_table A t == the bytes for a rule table: the state in the run, then the map, for each node
-- branch_table_of B t == the bytes for a branch table: the state on the word from the root, then the map, for each node
-- step_up A t v q == the state at the parent of v if the state at v is q, the rest as in the run
--
-- A map is defined by walking parents one at a time. That the build's composition of maps gives the same is a theorem
-- (proofs/MapLaws).
use Rattle.std.specs.Prelude.{ℕ, zero, suc, ◌+◌, ◌-◌, Bool, cond, List, [], ◌∷◌, ◌++◌, eqb}
use Rattle.list_laws.specs.Rows.{tabulate, rows}
use Rattle.trees.specs.Tree.{Tree, leaf, node, size}
use Rattle.trees.specs.Automaton.{Automaton, state, WordAutomaton, word_run}
use Rattle.trees.specs.Numbering.{sub, parent, depth, labels_down}
use Rattle.trees.specs.Jumps.{jump}
use Rattle.trees.specs.Climb.{walk}

-- "16-bit numbers, four for each node in node order (parent, jump, depth, size of its subtree)"
abbrev pub node_row : Tree → ℕ → List ℕ
node_row t v = parent t v ∷ jump t v ∷ depth t v ∷ size (sub t v) ∷ []

unfoldable pub node_table_of : Tree → List ℕ
node_table_of t = rows (size t) (node_row t)

-- the state of a tree whose right child (right), or else left child, has the state q in place of the run's
abbrev pub with_child : Automaton → Bool → ℕ → Tree → ℕ
with_child A right q (leaf a) = q
with_child A right q (node l a r) = cond right (A.δ (state A l) a q) (A.δ q a (state A r))

-- a node is its parent's right child exactly where its number is one less
unfoldable pub step_up : Automaton → Tree → ℕ → ℕ → ℕ
step_up A t v q = with_child A (eqb (v + 1) (parent t v)) q (sub t (parent t v))

-- how far up node v's jump leads
abbrev pub jump_length : Tree → ℕ → ℕ
jump_length t v = depth t v - depth t (jump t v)

-- "The map gives, for each state assumed at the node, the state that follows at its jump, with the plan's labels and the run's
-- states beside the path. The root's map is the identity."
unfoldable pub state_map : Automaton → Tree → ℕ → ℕ → ℕ
state_map A t v q = walk (step_up A t) t v (jump_length t v) q

-- "bytes, S+1 for each node (its state in the run, then its map)"
abbrev pub state_row : Automaton → Tree → ℕ → List ℕ
state_row A t v = state A (sub t v) ∷ tabulate A.states (state_map A t v)

unfoldable pub state_table_of : Automaton → Tree → List ℕ
state_table_of A t = rows (size t) (state_row A t)

-- "For a branch table the state byte is the state after the node's label on the word from the root"
unfoldable pub branch_state : WordAutomaton → Tree → ℕ → ℕ
branch_state B t v = word_run B 0 (labels_down t v (depth t v + 1))

-- "and the map goes from the state after the jump's label to the state after the node's."
unfoldable pub branch_map : WordAutomaton → Tree → ℕ → ℕ → ℕ
branch_map B t v q = word_run B q (labels_down t v (jump_length t v))

abbrev pub branch_row : WordAutomaton → Tree → ℕ → List ℕ
branch_row B t v = branch_state B t v ∷ tabulate B.states (branch_map B t v)

unfoldable pub branch_table_of : WordAutomaton → Tree → List ℕ
branch_table_of B t = rows (size t) (branch_row B t)
