-- The pass down for the clearing states, in falling node number: the set of the node at hand is carried along, and that
-- of a left child waits in the number of the first node of its sibling's subtree.
--
-- leaf_down, leaf_next == the buffer after the iteration of leaf v with the set c, and the set of the node before it
-- pair_at ks b v == the pair of inner node v; inner_down, inner_next == the same of an inner node of label a
-- node_down, node_next == the same of a node of either kind; InnerDownArgs, NodeDownArgs == what these need
-- DownDone A t i c before after == the nodes from i on have their sets, and c is that of the node before i; the sets of
--   left children below i whose parents are i or later wait; of the inner nodes below i the first node and the pair are
--   there; beyond the nodes all is as it was
-- DownWritten ks ls lv inn mk s k i c before after == that, for the tree with kinds ks and labels ls
-- DownArgs == what the pass needs: a buffer as the pass up leaves it, and the root's set c, for some leaf states and marks
-- SetsDone, SetsWritten == where it ends: every node has its set
use Rattle.std.specs.Prelude.{ℕ, ◌-◌, ◌/◌, ◌%◌, ◌≤◌, ◌<◌, ◌≡◌, cond, List, eqb, length, get_or, set}
use Rattle.trees.specs.Tree.{Tree, kinds_of, labels_of, size, kind_at}
use Rattle.trees.specs.Automaton.{Automaton}
use Rattle.formats.specs.Rules.{tree_automaton}
use Rattle.allowed.specs.Clearing.{clearing_set}
use Rattle.allowed.specs.inner.Inputs.{left_child, PassArgs}
use Rattle.allowed.specs.inner.Sets.{right_set, left_set, SetArgs}
use Rattle.allowed.specs.inner.clearing.Cells.{right_first, first_cell, pair_cell, first_node_in, FirstArgs}

abbrev pub leaf_down : List ℕ → ℕ → ℕ → List ℕ
leaf_down b v c = set b v c

abbrev pub leaf_next : List ℕ → ℕ → ℕ
leaf_next b v = get_or b v 0

abbrev pub pair_at : List ℕ → List ℕ → ℕ → ℕ
pair_at ks b v = get_or b (first_node_in ks b (v - 1)) 0

unfoldable pub inner_down : List ℕ → List ℕ → ℕ → ℕ → List ℕ → ℕ → ℕ → ℕ → List ℕ
inner_down ks inn s k b v a c =
    set (set b (first_node_in ks b (v - 1)) (left_set inn s k a (pair_at ks b v / 16 % 16) c)) v c

unfoldable pub inner_next : List ℕ → List ℕ → ℕ → ℕ → List ℕ → ℕ → ℕ → ℕ → ℕ
inner_next ks inn s k b v a c = right_set inn s k (pair_at ks b v % 16) a c

unfoldable pub node_down : List ℕ → List ℕ → List ℕ → ℕ → ℕ → List ℕ → ℕ → ℕ → List ℕ
node_down ks ls inn s k b v c = cond (eqb (get_or ks v 0) 0) (leaf_down b v c) (inner_down ks inn s k b v (get_or ls v 0) c)

unfoldable pub node_next : List ℕ → List ℕ → List ℕ → ℕ → ℕ → List ℕ → ℕ → ℕ → ℕ
node_next ks ls inn s k b v c = cond (eqb (get_or ks v 0) 0) (leaf_next b v) (inner_next ks inn s k b v (get_or ls v 0) c)

pub record InnerDownArgs (ks inn : List ℕ) (s k : ℕ) (b : List ℕ) (v a c : ℕ) : Type 0 where
  pub pos : 0 < v
  pub inside : v < length b
  pub low : c < 65536
  pub right : FirstArgs ks b (v - 1)
  pub first_in : first_node_in ks b (v - 1) < length b
  pub sets : SetArgs inn s k (pair_at ks b v % 16) a (pair_at ks b v / 16 % 16)

pub record NodeDownArgs (ks ls inn : List ℕ) (s k : ℕ) (b : List ℕ) (v c : ℕ) : Type 0 where
  pub kind_in : v < length ks
  pub label_in : v < length ls
  pub inside : v < length b
  pub low : c < 65536
  pub inner : (get_or ks v 0 ≡ 0 → ⊥) → InnerDownArgs ks inn s k b v (get_or ls v 0) c

pub record DownDone (A : Automaton) (t : Tree) (i c : ℕ) (before after : List ℕ) : Type 0 where
  pub done : (v : ℕ) → i ≤ v → v < size t → get_or after v 0 ≡ clearing_set A t v
  pub current : 0 < i → c ≡ clearing_set A t (i - 1)
  pub waiting : (v : ℕ) → i ≤ v → v < size t → (kind_at t v ≡ 0 → ⊥) → right_first t v < i
      → get_or after (right_first t v) 0 ≡ clearing_set A t (left_child t v)
  pub firsts : (u : ℕ) → u < i → u < size t → (kind_at t u ≡ 0 → ⊥) → get_or after u 0 ≡ first_cell t u
  pub pairs : (v : ℕ) → v < i → v < size t → (kind_at t v ≡ 0 → ⊥) → get_or after (right_first t v) 0 ≡ pair_cell A t v
  pub kept : (j : ℕ) → size t ≤ j → get_or after j 0 ≡ get_or before j 0

abbrev pub DownWritten : List ℕ → List ℕ → List ℕ → List ℕ → List ℕ → ℕ → ℕ → ℕ → ℕ → List ℕ → List ℕ → Type 0
DownWritten ks ls lv inn mk s k i c before after =
    (t : Tree) → kinds_of t ≡ ks → labels_of t ≡ ls → DownDone (tree_automaton s k lv inn mk) t i c before after

pub record DownArgs (ks ls inn : List ℕ) (s k c : ℕ) (b : List ℕ) : Type 0 where
  pub leaves : List ℕ
  pub marks : List ℕ
  pub first : List ℕ
  pub runs : PassArgs ks ls leaves inn s k
  pub room : length ks ≤ length b
  pub ready : DownWritten ks ls leaves inn marks s k (length ks) c first b

pub record SetsDone (A : Automaton) (t : Tree) (before after : List ℕ) : Type 0 where
  pub sets : (v : ℕ) → v < size t → get_or after v 0 ≡ clearing_set A t v
  pub kept : (j : ℕ) → size t ≤ j → get_or after j 0 ≡ get_or before j 0

abbrev pub SetsWritten : List ℕ → List ℕ → List ℕ → List ℕ → List ℕ → ℕ → ℕ → List ℕ → List ℕ → Type 0
SetsWritten ks ls lv inn mk s k before after =
    (t : Tree) → kinds_of t ≡ ks → labels_of t ≡ ls → SetsDone (tree_automaton s k lv inn mk) t before after
