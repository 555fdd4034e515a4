-- The maps of a whole table of states, for any maps f: what a loop from the last node down to the first leaves.
--
-- NoMap s n j == index j is outside the maps of n nodes
-- MapsWritten s n f i before after == the nodes i, .. n - 1 have the maps f, and no byte outside the maps is changed
use Rattle.std.specs.Prelude.{ℕ, ◌+◌, ◌*◌, ◌≤◌, ◌<◌, ◌≡◌, List, get_or}
use Rattle.tables.specs.StateCells.{map_cell}

abbrev pub NoMap : ℕ → ℕ → ℕ → Type 0
NoMap s n j = (v q : ℕ) → v < n → q < s → j ≡ v * (s + 1) + (1 + q) → ⊥

pub record MapsWritten (s n : ℕ) (f : ℕ → ℕ → ℕ) (i : ℕ) (before after : List ℕ) : Type 0 where
  pub maps : (v q : ℕ) → i ≤ v → v < n → q < s → map_cell s after v q ≡ f v q
  pub kept : (j : ℕ) → NoMap s n j → get_or after j 0 ≡ get_or before j 0
