-- The pass down for the masks: each node's set of clearing states goes to its children, and its labels are written, in
-- falling node number.
--
-- inner_labels, leaf_labels == the labels of an inner node over states p and q, and of a leaf, that lead into the set c
-- leaf_down b lv k v, inner_down b inn s k v a == the numbers after the iteration of a leaf, and of an inner node, v
-- LeafDownArgs, InnerDownArgs == what these need; node_down, NodeDownArgs == the same of a node of either kind
-- full_cell A t v == size, state and set of clearing states of node v
-- DownDone A k t i before after == the nodes from i on have their allowed labels; those below i whose parent is i or a
--   later node, and the root, have size, state and set; the others have size and state; beyond the nodes all is as it was
-- DownWritten ks ls lv inn mk s k i before after == that, for the tree with kinds ks and labels ls
-- DownArgs == what the pass needs: numbers as the pass up and the root's set leave them, for some marks
use Rattle.std.specs.Prelude.{ℕ, ◌+◌, ◌-◌, ◌*◌, ◌≤◌, ◌<◌, ◌≡◌, cond, List, eqb, length, get_or, set}
use Rattle.trees.specs.Tree.{Tree, kinds_of, labels_of, size}
use Rattle.trees.specs.Automaton.{Automaton, state}
use Rattle.trees.specs.Numbering.{sub, parent}
use Rattle.formats.specs.Rules.{tree_automaton}
use Rattle.allowed.specs.Allowed.{allowed_set}
use Rattle.allowed.specs.Clearing.{clearing_set}
use Rattle.state_sets.specs.inner.Gather.{gathered_from, GatherArgs}
use Rattle.allowed.specs.inner.masks.Cells.{packed_cell, size_in, state_in, set_in}
use Rattle.allowed.specs.inner.masks.Up.{left_within, run_cell}
use Rattle.allowed.specs.inner.Inputs.{PassArgs}
use Rattle.allowed.specs.inner.Sets.{right_set, left_set, SetArgs}

abbrev pub inner_labels : List ℕ → ℕ → ℕ → ℕ → ℕ → ℕ → ℕ
inner_labels inn s k p q c = gathered_from inn (p * k * s + q) s c k

abbrev pub leaf_labels : List ℕ → ℕ → ℕ → ℕ
leaf_labels lv k c = gathered_from lv 0 1 c k

unfoldable pub leaf_down : List ℕ → List ℕ → ℕ → ℕ → List ℕ
leaf_down b lv k v = set b v (leaf_labels lv k (set_in (get_or b v 0)))

abbrev pub left_state : List ℕ → ℕ → ℕ
left_state b v = state_in (get_or b (left_within b v) 0)

abbrev pub right_state : List ℕ → ℕ → ℕ
right_state b v = state_in (get_or b (v - 1) 0)

unfoldable pub inner_down : List ℕ → List ℕ → ℕ → ℕ → ℕ → ℕ → List ℕ
inner_down b inn s k v a =
    set (set (set b (v - 1) (get_or b (v - 1) 0 + 1048576 * right_set inn s k (left_state b v) a (set_in (get_or b v 0))))
    (left_within b v) (get_or b (left_within b v) 0 + 1048576 * left_set inn s k a (right_state b v) (set_in (get_or b v 0))))
    v (inner_labels inn s k (left_state b v) (right_state b v) (set_in (get_or b v 0)))

pub record LeafDownArgs (b lv : List ℕ) (k v : ℕ) : Type 0 where
  pub inside : v < length b
  pub labels : GatherArgs lv 0 1 k

pub record InnerDownArgs (b inn : List ℕ) (s k v a : ℕ) : Type 0 where
  pub pos : 0 < v
  pub inside : v < length b
  pub left_in : size_in (get_or b (v - 1) 0) < v
  pub right_low : get_or b (v - 1) 0 < 1048576
  pub left_low : get_or b (left_within b v) 0 < 1048576
  pub sets : SetArgs inn s k (left_state b v) a (right_state b v)

unfoldable pub node_down : List ℕ → List ℕ → List ℕ → List ℕ → ℕ → ℕ → List ℕ → ℕ → List ℕ
node_down ks ls lv inn s k b v = cond (eqb (get_or ks v 0) 0) (leaf_down b lv k v) (inner_down b inn s k v (get_or ls v 0))

pub record NodeDownArgs (ks ls lv inn : List ℕ) (s k : ℕ) (b : List ℕ) (v : ℕ) : Type 0 where
  pub kind_in : v < length ks
  pub label_in : v < length ls
  pub leaf : LeafDownArgs b lv k v
  pub inner : (get_or ks v 0 ≡ 0 → ⊥) → InnerDownArgs b inn s k v (get_or ls v 0)

abbrev pub full_cell : Automaton → Tree → ℕ → ℕ
full_cell A t v = packed_cell (size (sub t v)) (state A (sub t v)) (clearing_set A t v)

pub record DownDone (A : Automaton) (k : ℕ) (t : Tree) (i : ℕ) (before after : List ℕ) : Type 0 where
  pub done : (v : ℕ) → i ≤ v → v < size t → get_or after v 0 ≡ allowed_set A k t v
  pub given : (v : ℕ) → v < i → (v + 1 < size t → i ≤ parent t v) → get_or after v 0 ≡ full_cell A t v
  pub plain : (v : ℕ) → v < i → v + 1 < size t → parent t v < i → get_or after v 0 ≡ run_cell A t v
  pub kept : (j : ℕ) → size t ≤ j → get_or after j 0 ≡ get_or before j 0

abbrev pub DownWritten : List ℕ → List ℕ → List ℕ → List ℕ → List ℕ → ℕ → ℕ → ℕ → List ℕ → List ℕ → Type 0
DownWritten ks ls lv inn mk s k i before after =
    (t : Tree) → kinds_of t ≡ ks → labels_of t ≡ ls → DownDone (tree_automaton s k lv inn mk) k t i before after

pub record DownArgs (ks ls lv inn : List ℕ) (s k : ℕ) (b : List ℕ) : Type 0 where
  pub runs : PassArgs ks ls lv inn s k
  pub room : length ks ≤ length b
  pub marks : List ℕ
  pub first : List ℕ
  pub ready : DownWritten ks ls lv inn marks s k (length ks) first b
