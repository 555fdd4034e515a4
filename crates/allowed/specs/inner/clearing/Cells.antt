-- What the buffer of the clearing states holds between the passes: a 16-bit number a node.
--
-- right_first t v == the first node of the right child's subtree, of inner node v; the left child is the node before it
-- first_cell t u == the first node of node u's subtree
-- pair_cell A t v == of inner node v: the states of its left child, of its right child, and its own
-- first_node_in ks b u == the first node of node u's subtree, as the buffer b has it: a leaf is its own
-- state_in ks ls lv b u == the state of node u in the run, as the buffer has it: a leaf's by its label
-- FirstArgs, StateArgs == what these need
--
-- The number of an inner node is the first node of its subtree. The first node of a right child's subtree is a leaf, of
-- one inner node only: so that leaf's number is the inner node's pair of states, and later the set of its left child.
use Rattle.std.specs.Prelude.{ℕ, ◌+◌, ◌-◌, ◌*◌, ◌/◌, ◌<◌, ◌≡◌, cond, List, eqb, length, get_or}
use Rattle.trees.specs.Tree.{Tree, size}
use Rattle.trees.specs.Automaton.{Automaton, state}
use Rattle.trees.specs.Numbering.{sub}
use Rattle.allowed.specs.inner.Inputs.{left_child}

abbrev pub right_first : Tree → ℕ → ℕ
right_first t v = v - size (sub t (v - 1))

abbrev pub first_cell : Tree → ℕ → ℕ
first_cell t u = u + 1 - size (sub t u)

abbrev pub pair_cell : Automaton → Tree → ℕ → ℕ
pair_cell A t v = state A (sub t (left_child t v)) + 16 * state A (sub t (v - 1)) + 256 * state A (sub t v)

unfoldable pub first_node_in : List ℕ → List ℕ → ℕ → ℕ
first_node_in ks b u = cond (eqb (get_or ks u 0) 0) u (get_or b u 0)

unfoldable pub state_in : List ℕ → List ℕ → List ℕ → List ℕ → ℕ → ℕ
state_in ks ls lv b u =
    cond (eqb (get_or ks u 0) 0) (get_or lv (get_or ls u 0) 0) (get_or b (first_node_in ks b (u - 1)) 0 / 256)

pub record FirstArgs (ks b : List ℕ) (u : ℕ) : Type 0 where
  pub kind_in : u < length ks
  pub cell_in : u < length b

pub record StateArgs (ks ls lv b : List ℕ) (u : ℕ) : Type 0 where
  pub kind_in : u < length ks
  pub label_in : u < length ls
  pub leaf_in : get_or ls u 0 < length lv
  pub pos : (get_or ks u 0 ≡ 0 → ⊥) → 0 < u
  pub first : (get_or ks u 0 ≡ 0 → ⊥) → FirstArgs ks b (u - 1)
  pub inside : (get_or ks u 0 ≡ 0 → ⊥) → first_node_in ks b (u - 1) < length b
