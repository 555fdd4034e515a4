-- The pass up for the clearing states: where each subtree begins, and the states of each pair of children.
--
-- pair_in ks ls lv inn s k b f v == the pair of inner node v whose right child's subtree begins at f, from the buffer b
-- inner_up ks ls lv inn s k b v == the buffer after the iteration of inner node v; node_up == of node v, of either kind
-- PairArgs, InnerUpArgs, NodeUpArgs == what these need
-- UpDone A t i before after == of the inner nodes below i the first node and the pair are in the buffer; beyond the
--   nodes all is as it was
-- UpWritten ks ls lv inn s k i before after == that, for the tree with kinds ks and labels ls, for any marks
use Rattle.std.specs.Prelude.{ℕ, ◌+◌, ◌-◌, ◌*◌, ◌≤◌, ◌<◌, ◌≡◌, cond, List, eqb, length, get_or, set}
use Rattle.trees.specs.Tree.{Tree, kinds_of, labels_of, size, kind_at}
use Rattle.trees.specs.Automaton.{Automaton}
use Rattle.formats.specs.Rules.{tree_automaton}
use Rattle.formats.specs.inner.InnerChecks.{RuleArgs}
use Rattle.allowed.specs.inner.clearing.Cells.{right_first, first_cell, pair_cell, first_node_in, state_in, FirstArgs, StateArgs}

unfoldable pub pair_in : List ℕ → List ℕ → List ℕ → List ℕ → ℕ → ℕ → List ℕ → ℕ → ℕ → ℕ
pair_in ks ls lv inn s k b f v =
    state_in ks ls lv b (f - 1) + 16 * state_in ks ls lv b (v - 1)
    + 256 * get_or inn ((state_in ks ls lv b (f - 1) * k + get_or ls v 0) * s + state_in ks ls lv b (v - 1)) 0

unfoldable pub inner_up : List ℕ → List ℕ → List ℕ → List ℕ → ℕ → ℕ → List ℕ → ℕ → List ℕ
inner_up ks ls lv inn s k b v =
    set (set b (first_node_in ks b (v - 1)) (pair_in ks ls lv inn s k b (first_node_in ks b (v - 1)) v)) v
    (first_node_in ks b (first_node_in ks b (v - 1) - 1))

unfoldable pub node_up : List ℕ → List ℕ → List ℕ → List ℕ → ℕ → ℕ → List ℕ → ℕ → List ℕ
node_up ks ls lv inn s k b v = cond (eqb (get_or ks v 0) 0) b (inner_up ks ls lv inn s k b v)

pub record PairArgs (ks ls lv inn : List ℕ) (s k : ℕ) (b : List ℕ) (f v : ℕ) : Type 0 where
  pub first_pos : 0 < f
  pub pos : 0 < v
  pub label_in : v < length ls
  pub left : StateArgs ks ls lv b (f - 1)
  pub right : StateArgs ks ls lv b (v - 1)
  pub left_low : state_in ks ls lv b (f - 1) < 16
  pub right_low : state_in ks ls lv b (v - 1) < 16
  pub rule : RuleArgs inn s k (state_in ks ls lv b (f - 1)) (get_or ls v 0) (state_in ks ls lv b (v - 1))
  pub below : (j : ℕ) → get_or inn j 0 < 16

pub record InnerUpArgs (ks ls lv inn : List ℕ) (s k : ℕ) (b : List ℕ) (v : ℕ) : Type 0 where
  pub pos : 0 < v
  pub inside : v < length b
  pub right : FirstArgs ks b (v - 1)
  pub first_in : first_node_in ks b (v - 1) < length b
  pub left : FirstArgs ks b (first_node_in ks b (v - 1) - 1)
  pub left_low : first_node_in ks b (first_node_in ks b (v - 1) - 1) < 65536
  pub pair : PairArgs ks ls lv inn s k b (first_node_in ks b (v - 1)) v

pub record NodeUpArgs (ks ls lv inn : List ℕ) (s k : ℕ) (b : List ℕ) (v : ℕ) : Type 0 where
  pub kind_in : v < length ks
  pub inner : (get_or ks v 0 ≡ 0 → ⊥) → InnerUpArgs ks ls lv inn s k b v

pub record UpDone (A : Automaton) (t : Tree) (i : ℕ) (before after : List ℕ) : Type 0 where
  pub firsts : (u : ℕ) → u < i → u < size t → (kind_at t u ≡ 0 → ⊥) → get_or after u 0 ≡ first_cell t u
  pub pairs : (v : ℕ) → v < i → v < size t → (kind_at t v ≡ 0 → ⊥) → get_or after (right_first t v) 0 ≡ pair_cell A t v
  pub kept : (j : ℕ) → size t ≤ j → get_or after j 0 ≡ get_or before j 0

abbrev pub UpWritten : List ℕ → List ℕ → List ℕ → List ℕ → ℕ → ℕ → ℕ → List ℕ → List ℕ → Type 0
UpWritten ks ls lv inn s k i before after =
    (mk : List ℕ) (t : Tree) → kinds_of t ≡ ks → labels_of t ≡ ls → UpDone (tree_automaton s k lv inn mk) t i before after
