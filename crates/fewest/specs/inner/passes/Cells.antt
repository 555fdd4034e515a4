-- The cells of the work space: S + 1 numbers for each node in node order, its size and then its costs.
--
-- size_cell s b v, cost_cell s b v j == the first of node v's row, and its cost of state j
-- left_within s b v == the left child of inner node v, by the size of its right child, v - 1
-- inner_size s b v == the size of inner node v, by those of its children
-- RowDone s v z c before after == node v's row has size z and costs c; all else is as it was
-- PutArgs, StockArgs == what put_row and stock need
use Rattle.std.specs.Prelude.{ℕ, ◌+◌, ◌-◌, ◌*◌, ◌≤◌, ◌<◌, ◌≡◌, List, length, get_or}

abbrev pub size_cell : ℕ → List ℕ → ℕ → ℕ
size_cell s b v = get_or b (v * (s + 1)) 0

abbrev pub cost_cell : ℕ → List ℕ → ℕ → ℕ → ℕ
cost_cell s b v j = get_or b (v * (s + 1) + 1 + j) 0

abbrev pub left_within : ℕ → List ℕ → ℕ → ℕ
left_within s b v = v - 1 - size_cell s b (v - 1)

abbrev pub inner_size : ℕ → List ℕ → ℕ → ℕ
inner_size s b v = size_cell s b (left_within s b v) + size_cell s b (v - 1) + 1

pub record RowDone (s v z : ℕ) (c : ℕ → ℕ) (before after : List ℕ) : Type 0 where
  pub long : length after ≡ length before
  pub size : size_cell s after v ≡ z
  pub costs : (j : ℕ) → j < s → cost_cell s after v j ≡ c j
  pub kept : (j : ℕ) → (v * (s + 1) ≤ j → j < v * (s + 1) + (s + 1) → ⊥) → get_or after j 0 ≡ get_or before j 0

pub record PutArgs (b : List ℕ) (s v : ℕ) (row : List ℕ) : Type 0 where
  pub few : s ≤ 16
  pub room : v * (s + 1) + (s + 1) ≤ length b
  pub wide : s ≤ length row

abbrev pub StockArgs : List ℕ → ℕ → Type 0
StockArgs may v = (length may ≡ 0 → ⊥) → v < length may
