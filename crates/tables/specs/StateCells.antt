-- The cells of a table of states: S + 1 bytes for each node in node order, its state and then its map.
--
-- state_cell s b v == the state byte of node v in table b of s states; 0 past its end
-- map_cell s b v q == what node v's map says of state q
use Rattle.std.specs.Prelude.{ℕ, ◌+◌, ◌*◌, List, get_or}

abbrev pub state_cell : ℕ → List ℕ → ℕ → ℕ
state_cell s b v = get_or b (v * (s + 1)) 0

abbrev pub map_cell : ℕ → List ℕ → ℕ → ℕ → ℕ
map_cell s b v q = get_or b (v * (s + 1) + (1 + q)) 0
