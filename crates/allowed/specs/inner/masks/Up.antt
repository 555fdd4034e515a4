-- The pass up for the masks: each node's size and state, in rising node number.
--
-- left_within b v == the left child of inner node v, by the size of its right child, v - 1
-- inner_cell b inn s k v a == what an inner node v of label a gets, from its children's; node_cell == what node v gets
-- InnerCellArgs, NodeCellArgs == what these need
-- run_cell A t v == size and state of node v in the tree t
-- UpDone A t i before after == the numbers of the nodes below i are these, and those from i on are as they were
-- UpWritten ks ls lv inn s k i before after == that, for the tree with kinds ks and labels ls, for any marks
use Rattle.std.specs.Prelude.{ℕ, ◌+◌, ◌-◌, ◌*◌, ◌≤◌, ◌<◌, ◌≡◌, cond, List, eqb, length, get_or}
use Rattle.trees.specs.Tree.{Tree, kinds_of, labels_of, size}
use Rattle.trees.specs.Automaton.{Automaton, state}
use Rattle.trees.specs.Numbering.{sub}
use Rattle.formats.specs.Rules.{tree_automaton}
use Rattle.formats.specs.inner.InnerChecks.{RuleArgs}
use Rattle.allowed.specs.inner.masks.Cells.{packed_cell, size_in, state_in}

abbrev pub left_within : List ℕ → ℕ → ℕ
left_within b v = v - 1 - size_in (get_or b (v - 1) 0)

unfoldable pub inner_cell : List ℕ → List ℕ → ℕ → ℕ → ℕ → ℕ → ℕ
inner_cell b inn s k v a =
    packed_cell (size_in (get_or b (left_within b v) 0) + size_in (get_or b (v - 1) 0) + 1)
    (get_or inn ((state_in (get_or b (left_within b v) 0) * k + a) * s + state_in (get_or b (v - 1) 0)) 0) 0

unfoldable pub node_cell : List ℕ → List ℕ → List ℕ → List ℕ → ℕ → ℕ → List ℕ → ℕ → ℕ
node_cell ks ls lv inn s k b v =
    cond (eqb (get_or ks v 0) 0) (packed_cell 1 (get_or lv (get_or ls v 0) 0) 0) (inner_cell b inn s k v (get_or ls v 0))

pub record InnerCellArgs (b inn : List ℕ) (s k v a : ℕ) : Type 0 where
  pub pos : 0 < v
  pub inside : v ≤ length b
  pub left_in : size_in (get_or b (v - 1) 0) < v
  pub fits : size_in (get_or b (left_within b v) 0) + size_in (get_or b (v - 1) 0) + 1 < 65536
  pub rule : RuleArgs inn s k (state_in (get_or b (left_within b v) 0)) a (state_in (get_or b (v - 1) 0))
  pub below : (j : ℕ) → get_or inn j 0 < 16

pub record NodeCellArgs (ks ls lv inn : List ℕ) (s k : ℕ) (b : List ℕ) (v : ℕ) : Type 0 where
  pub kind_in : v < length ks
  pub label_in : v < length ls
  pub leaf_in : get_or ls v 0 < length lv
  pub leaf_below : (j : ℕ) → get_or lv j 0 < 16
  pub inner : (get_or ks v 0 ≡ 0 → ⊥) → InnerCellArgs b inn s k v (get_or ls v 0)

abbrev pub run_cell : Automaton → Tree → ℕ → ℕ
run_cell A t v = packed_cell (size (sub t v)) (state A (sub t v)) 0

pub record UpDone (A : Automaton) (t : Tree) (i : ℕ) (before after : List ℕ) : Type 0 where
  pub cells : (v : ℕ) → v < i → get_or after v 0 ≡ run_cell A t v
  pub kept : (j : ℕ) → i ≤ j → get_or after j 0 ≡ get_or before j 0

abbrev pub UpWritten : List ℕ → List ℕ → List ℕ → List ℕ → ℕ → ℕ → ℕ → List ℕ → List ℕ → Type 0
UpWritten ks ls lv inn s k i before after =
    (mk : List ℕ) (t : Tree) → kinds_of t ≡ ks → labels_of t ≡ ls → UpDone (tree_automaton s k lv inn mk) t i before after
