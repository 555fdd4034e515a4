-- The states at a node's parent, as the code has them.
--
-- StatesAboveTo s f above == four bytes, of which the first s are f's values
-- FromArgs inner s base stride == the places base + q * stride are inside
-- UpArgs ls b inn st s k v == node v is below the root: parent, label, sibling and rule are inside their lists
--
-- near_value (crate tables, Maps) is the state at the parent, by labels ls, node table b, inner states inn and state
-- table st.
use Rattle.std.specs.Prelude.{ℕ, ◌+◌, ◌*◌, ◌≤◌, ◌<◌, ◌≡◌, List, length, get_or}
use Rattle.tables.specs.node_tables.Cells.{parent_cell, size_cell}
use Rattle.tables.specs.StateCells.{state_cell}

pub record StatesAboveTo (s : ℕ) (f : ℕ → ℕ) (above : List ℕ) : Type 0 where
  pub long : length above ≡ 4
  pub cells : (q : ℕ) → q < s → get_or above q 0 ≡ f q

pub record FromArgs (inner : List ℕ) (s base stride : ℕ) : Type 0 where
  pub few : s ≤ 4
  pub inside : (q : ℕ) → q < s → base + q * stride < length inner

pub record UpArgs (ls b inn st : List ℕ) (s k v : ℕ) : Type 0 where
  pub few : s ≤ 4
  pub labels : k ≤ 64
  pub most : length ls ≤ 65535
  pub place : v * 4 + 4 ≤ length b
  pub above : v < parent_cell b v
  pub inside : parent_cell b v < length ls
  pub label : get_or ls (parent_cell b v) 0 < k
  pub size_in : v + 1 ≡ parent_cell b v → size_cell b v ≤ v
  pub room : parent_cell b v * (s + 1) ≤ length st
  pub state_below : (u : ℕ) → u < parent_cell b v → state_cell s st u < s
  pub inner_room : s * k * s ≤ length inn
