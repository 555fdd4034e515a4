-- One node's map in a table of states: what writes it leaves, and what it needs.
--
-- RowTo s f v i before after == the first i bytes of node v's map are f's, and no other byte is changed
-- Rowed s f v before after == node v's map is f's, and no other byte is changed
-- far_cell s b p j table base stride q == what the maps of p and then j make of the table's entry at base + q * stride
-- NearArgs, FarArgs, SameArgs == what the three writers of a row need: indices inside their lists, values below s
use Rattle.std.specs.Prelude.{ℕ, ◌+◌, ◌*◌, ◌≤◌, ◌<◌, ◌≡◌, List, length, get_or}
use Rattle.tables.specs.StateCells.{map_cell}

pub record RowTo (s : ℕ) (f : ℕ → ℕ) (v i : ℕ) (before after : List ℕ) : Type 0 where
  pub cells : (q : ℕ) → q < i → map_cell s after v q ≡ f q
  pub kept : (j : ℕ) → ((q : ℕ) → q < i → j ≡ v * (s + 1) + (1 + q) → ⊥) → get_or after j 0 ≡ get_or before j 0

abbrev pub Rowed : ℕ → (ℕ → ℕ) → ℕ → List ℕ → List ℕ → Type 0
Rowed s f v before after = RowTo s f v s before after

abbrev pub far_cell : ℕ → List ℕ → ℕ → ℕ → List ℕ → ℕ → ℕ → ℕ → ℕ
far_cell s b p j table base stride q = map_cell s b j (map_cell s b p (get_or table (base + q * stride) 0))

-- a row of node v in a buffer of m bytes
abbrev pub RowIn : ℕ → ℕ → ℕ → Type 0
RowIn m s v = v * (s + 1) + (s + 1) ≤ m

pub record NearArgs (m s v l base stride : ℕ) : Type 0 where
  pub room : RowIn m s v
  pub inside : (q : ℕ) → q < s → base + q * stride < l

pub record FarArgs (b : List ℕ) (s v p j : ℕ) (table : List ℕ) (base stride : ℕ) : Type 0 where
  pub room : RowIn (length b) s v
  pub near_room : RowIn (length b) s p
  pub far_room : RowIn (length b) s j
  pub near_other : p ≡ v → ⊥
  pub far_other : j ≡ v → ⊥
  pub inside : (q : ℕ) → q < s → base + q * stride < length table
  pub here_below : (q : ℕ) → q < s → get_or table (base + q * stride) 0 < s
  pub near_below : (q : ℕ) → q < s → map_cell s b p q < s

pub record SameArgs (m s v : ℕ) : Type 0 where
  pub room : RowIn m s v
  pub few : s ≤ 256
