-- The pass up: each node's size and costs, in rising node number.
--
-- node_size, node_costs == the size and the costs that node v gets, by its kind, from the rows of its children
-- LeafTurnArgs, InnerTurnArgs, NodeTurnArgs == what a turn needs
-- CostsUp P t s i before after == the rows of the nodes below i are the tree's sizes and costs, and those from i on are
--   as they were
-- Up ks ls lv inn may s k i before after == that, for the tree with kinds ks and labels ls, whatever states are wanted
--   at the root
-- UpGiven == what the pass needs; m is the length of the work space
use Rattle.std.specs.Prelude.{ℕ, ◌+◌, ◌-◌, ◌*◌, ◌≤◌, ◌<◌, ◌≡◌, Bool, cond, List, eqb, length, get_or}
use Rattle.trees.specs.Tree.{Tree, kinds_of, labels_of, size}
use Rattle.trees.specs.Numbering.{sub}
use Rattle.state_sets.specs.StateSets.{member}
use Rattle.allowed.specs.inner.Inputs.{PassArgs}
use Rattle.fewest.specs.Least.{no_way_out}
use Rattle.fewest.specs.inner.Cost.{Problem}
use Rattle.fewest.specs.inner.Rows.{leaf_costs, inner_costs}
use Rattle.fewest.specs.Relabelling.{stock_of}
use Rattle.fewest.specs.inner.Problems.{problem_for, cost_at}
use Rattle.fewest.specs.inner.passes.Cells.{size_cell, cost_cell, left_within, inner_size, StockArgs}

unfoldable pub node_size : List ℕ → ℕ → List ℕ → ℕ → ℕ
node_size ks s b v = cond (eqb (get_or ks v 0) 0) 1 (inner_size s b v)

unfoldable pub node_costs : List ℕ → List ℕ → List ℕ → List ℕ → List ℕ → ℕ → ℕ → List ℕ → ℕ → ℕ → ℕ
node_costs ks ls lv inn may s k b v j =
    cond (eqb (get_or ks v 0) 0) (leaf_costs lv k (get_or ls v 0) (member (stock_of may v)) j)
    (inner_costs inn s k (get_or ls v 0) (member (stock_of may v)) (cost_cell s b (left_within s b v)) (cost_cell s b (v - 1)) j)

pub record LeafTurnArgs (b lv : List ℕ) (s k v : ℕ) : Type 0 where
  pub few : s ≤ 16
  pub labels : k ≤ 64
  pub room : v * (s + 1) + (s + 1) ≤ length b
  pub leaf_count : length lv ≡ k
  pub leaf_below : (j : ℕ) → get_or lv j 0 < s

pub record InnerTurnArgs (b inn : List ℕ) (s k v : ℕ) : Type 0 where
  pub few : s ≤ 16
  pub labels : k ≤ 64
  pub inner_count : length inn ≡ s * k * s
  pub inner_below : (j : ℕ) → get_or inn j 0 < s
  pub pos : 0 < v
  pub left_in : size_cell s b (v - 1) < v
  pub room : v * (s + 1) + (s + 1) ≤ length b
  pub right_room : (v - 1) * (s + 1) + (s + 1) ≤ length b
  pub left_room : left_within s b v * (s + 1) + (s + 1) ≤ length b
  pub fits : inner_size s b v < 65536
  pub left_low : (j : ℕ) → j < s → cost_cell s b (left_within s b v) j ≤ no_way_out
  pub right_low : (j : ℕ) → j < s → cost_cell s b (v - 1) j ≤ no_way_out

pub record NodeTurnArgs (ks ls lv inn may : List ℕ) (s k : ℕ) (b : List ℕ) (v : ℕ) : Type 0 where
  pub kind_in : v < length ks
  pub label_in : v < length ls
  pub label_below : get_or ls v 0 < 64
  pub stock : StockArgs may v
  pub leaf : LeafTurnArgs b lv s k v
  pub inner : (get_or ks v 0 ≡ 0 → ⊥) → InnerTurnArgs b inn s k v

pub record CostsUp (P : Problem) (t : Tree) (s i : ℕ) (before after : List ℕ) : Type 0 where
  pub sizes : (v : ℕ) → v < i → size_cell s after v ≡ size (sub t v)
  pub costs : (v j : ℕ) → v < i → j < s → cost_cell s after v j ≡ cost_at P t v j
  pub kept : (j : ℕ) → i * (s + 1) ≤ j → get_or after j 0 ≡ get_or before j 0

abbrev pub Up : List ℕ → List ℕ → List ℕ → List ℕ → List ℕ → ℕ → ℕ → ℕ → List ℕ → List ℕ → Type 0
Up ks ls lv inn may s k i before after =
    (acc : ℕ → Bool) (t : Tree) → kinds_of t ≡ ks → labels_of t ≡ ls
    → CostsUp (problem_for s k lv inn (stock_of may) acc) t s i before after

pub record UpGiven (ks ls lv inn may : List ℕ) (s k m : ℕ) : Type 0 where
  pub runs : PassArgs ks ls lv inn s k
  pub stocks : (length may ≡ 0 → ⊥) → length may ≡ length ks
  pub room : length ks * (s + 1) ≤ m
