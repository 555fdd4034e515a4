-- The pass down: each node's state goes to its children as theirs, and its label is told, in falling node number. The
-- first number of a node's row, its size after the pass up, becomes its state when its parent has its turn, and its
-- label at its own turn: a node's size is last read by its parent. The costs stay.
--
-- own_cost s b v == the cost of node v's state
-- ChoiceAt b inn s k v a may p q l == p, q and l are the first way into node v's state
-- placed s b v p q l == the rows after v's children are told the states p and q, and v its label l
-- LeafDown, InnerDown, NodeDown == what the turn of a leaf, of an inner node and of a node leaves; ..Args == what it
--   needs
-- Told P t g s i before after == of the relabelling `witness` of t that ends in state g: the nodes from i on have their
--   labels; those below i whose parent is i or a later node, and the root, their states; the others their sizes; costs
--   are t's; beyond the nodes all is as it was
-- Down ks ls lv inn may s k i entry after == from the rows at entry the turns of the nodes from i on lead to those
--   after
-- DownGiven == what the pass needs: rows as the pass up and the root's state leave them
use Rattle.std.specs.Prelude.{ℕ, ◌+◌, ◌-◌, ◌*◌, ◌≤◌, ◌<◌, ◌≡◌, Bool, true, List, eqb, length, get_or, set}
use Rattle.trees.specs.Tree.{Tree, kinds_of, labels_of, size, label_at}
use Rattle.trees.specs.Automaton.{state}
use Rattle.trees.specs.Numbering.{sub, parent}
use Rattle.state_sets.specs.StateSets.{member}
use Rattle.fewest.specs.Least.{no_way_out}
use Rattle.fewest.specs.inner.Cost.{Problem, cost, witness}
use Rattle.fewest.specs.inner.Rows.{leaf_cost, LeafArgs}
use Rattle.fewest.specs.Relabelling.{stock_of}
use Rattle.fewest.specs.inner.Problems.{problem_for, cost_at}
use Rattle.fewest.specs.inner.passes.Cells.{size_cell, cost_cell, left_within, StockArgs}
use Rattle.allowed.specs.inner.Inputs.{PassArgs}
use Rattle.fewest.specs.inner.down.Search.{any_of, First, left_hit, Chosen}

abbrev pub own_cost : ℕ → List ℕ → ℕ → ℕ
own_cost s b v = cost_cell s b v (size_cell s b v)

abbrev pub ChoiceAt : List ℕ → List ℕ → ℕ → ℕ → ℕ → ℕ → (ℕ → Bool) → ℕ → ℕ → ℕ → Type 0
ChoiceAt b inn s k v a may p q l =
    Chosen b inn s k (left_within s b v * (s + 1) + 1) ((v - 1) * (s + 1) + 1) a may (size_cell s b v) (own_cost s b v) p q l

unfoldable pub placed : ℕ → List ℕ → ℕ → ℕ → ℕ → ℕ → List ℕ
placed s b v p q l = set (set (set b ((v - 1) * (s + 1)) q) (left_within s b v * (s + 1)) p) (v * (s + 1)) l

pub record LeafDown (b lv : List ℕ) (s k v a : ℕ) (may : ℕ → Bool) (after : List ℕ) : Type 0 where
  pub label : ℕ
  pub first : First k (λ x. eqb (leaf_cost lv a may (size_cell s b v) x) (own_cost s b v)) label
  pub is : after ≡ set b (v * (s + 1)) label

pub record InnerDown (b inn : List ℕ) (s k v a : ℕ) (may : ℕ → Bool) (after : List ℕ) : Type 0 where
  pub left : ℕ
  pub right : ℕ
  pub label : ℕ
  pub chosen : ChoiceAt b inn s k v a may left right label
  pub is : after ≡ placed s b v left right label

pub record NodeDown (ks ls lv inn may : List ℕ) (s k : ℕ) (b : List ℕ) (v : ℕ) (after : List ℕ) : Type 0 where
  pub leaf : get_or ks v 0 ≡ 0 → LeafDown b lv s k v (get_or ls v 0) (member (stock_of may v)) after
  pub inner : (get_or ks v 0 ≡ 0 → ⊥) → InnerDown b inn s k v (get_or ls v 0) (member (stock_of may v)) after

pub record LeafDownArgs (b lv : List ℕ) (s k v : ℕ) : Type 0 where
  pub leaf : LeafArgs lv s k
  pub few : s ≤ 16
  pub labels : k ≤ 64
  pub room : v * (s + 1) + (s + 1) ≤ length b
  pub state_in : size_cell s b v < s

pub record InnerDownArgs (b inn : List ℕ) (s k v a : ℕ) (may : ℕ → Bool) : Type 0 where
  pub few : s ≤ 16
  pub labels : k ≤ 64
  pub inner_count : length inn ≡ s * k * s
  pub inner_below : (j : ℕ) → get_or inn j 0 < s
  pub pos : 0 < v
  pub left_in : size_cell s b (v - 1) < v
  pub room : v * (s + 1) + (s + 1) ≤ length b
  pub right_room : (v - 1) * (s + 1) + (s + 1) ≤ length b
  pub left_room : left_within s b v * (s + 1) + (s + 1) ≤ length b
  pub left_low : (j : ℕ) → j < s → cost_cell s b (left_within s b v) j ≤ no_way_out
  pub right_low : (j : ℕ) → j < s → cost_cell s b (v - 1) j ≤ no_way_out
  pub state_in : size_cell s b v < s
  pub under : own_cost s b v < no_way_out
  pub found : any_of s (left_hit b inn s k (left_within s b v * (s + 1) + 1) ((v - 1) * (s + 1) + 1) a may (size_cell s b v) (own_cost s b v))
      ≡ true

pub record PlaceArgs (b : List ℕ) (s v p q l : ℕ) : Type 0 where
  pub few : s ≤ 16
  pub pos : 0 < v
  pub left_in : size_cell s b (v - 1) < v
  pub room : v * (s + 1) + (s + 1) ≤ length b
  pub right_room : (v - 1) * (s + 1) + (s + 1) ≤ length b
  pub left_room : left_within s b v * (s + 1) + (s + 1) ≤ length b
  pub left_low : p < 65536
  pub right_low : q < 65536
  pub label_low : l < 65536

pub record NodeDownArgs (ks ls lv inn may : List ℕ) (s k : ℕ) (b : List ℕ) (v : ℕ) : Type 0 where
  pub kind_in : v < length ks
  pub label_in : v < length ls
  pub label_below : get_or ls v 0 < 64
  pub stock : StockArgs may v
  pub leaf : LeafDownArgs b lv s k v
  pub inner : (get_or ks v 0 ≡ 0 → ⊥) → InnerDownArgs b inn s k v (get_or ls v 0) (member (stock_of may v))

pub record Told (P : Problem) (t : Tree) (g s i : ℕ) (before after : List ℕ) : Type 0 where
  pub costs : (v j : ℕ) → v < size t → j < s → cost_cell s after v j ≡ cost_at P t v j
  pub done : (v : ℕ) → i ≤ v → v < size t → size_cell s after v ≡ label_at (witness P t 0 g) v
  pub told : (v : ℕ) → v < i → (v + 1 < size t → i ≤ parent t v) → size_cell s after v ≡ state P.automaton (sub (witness P t 0 g) v)
  pub plain : (v : ℕ) → v < i → v + 1 < size t → parent t v < i → size_cell s after v ≡ size (sub t v)
  pub kept : (j : ℕ) → size t * (s + 1) ≤ j → get_or after j 0 ≡ get_or before j 0

abbrev pub Down : List ℕ → List ℕ → List ℕ → List ℕ → List ℕ → ℕ → ℕ → ℕ → List ℕ → List ℕ → Type 0
Down ks ls lv inn may s k i entry after =
    (acc : ℕ → Bool) (t : Tree) (g : ℕ) (before : List ℕ) → kinds_of t ≡ ks → labels_of t ≡ ls
    → cost (problem_for s k lv inn (stock_of may) acc) t 0 g < no_way_out
    → Told (problem_for s k lv inn (stock_of may) acc) t g s (length ks) before entry
    → Told (problem_for s k lv inn (stock_of may) acc) t g s i before after

pub record DownGiven (ks ls lv inn may : List ℕ) (s k : ℕ) (b : List ℕ) : Type 0 where
  pub runs : PassArgs ks ls lv inn s k
  pub stocks : (length may ≡ 0 → ⊥) → length may ≡ length ks
  pub room : length ks * (s + 1) ≤ length b
  pub acc : ℕ → Bool
  pub target : ℕ
  pub first : List ℕ
  pub low : (t : Tree) → kinds_of t ≡ ks → labels_of t ≡ ls → cost (problem_for s k lv inn (stock_of may) acc) t 0 target < no_way_out
  pub ready : (t : Tree) → kinds_of t ≡ ks → labels_of t ≡ ls
      → Told (problem_for s k lv inn (stock_of may) acc) t target s (length ks) first b
