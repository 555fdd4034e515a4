-- A node's size, state and set of states in one number.
--
-- packed_cell z q c == size z, state q, set c: z + 65,536 q + 1,048,576 c
-- size_in x, state_in x, set_in x == the three of the number x
-- CellArgs z q c == z and c are below 65,536 and q is below 16
--
use Rattle.std.specs.Prelude.{ℕ, ◌+◌, ◌*◌, ◌/◌, ◌%◌, ◌<◌}

abbrev pub packed_cell : ℕ → ℕ → ℕ → ℕ
packed_cell z q c = z + 65536 * q + 1048576 * c

abbrev pub size_in : ℕ → ℕ
size_in x = x % 65536

abbrev pub state_in : ℕ → ℕ
state_in x = x / 65536 % 16

abbrev pub set_in : ℕ → ℕ
set_in x = x / 1048576 % 65536

pub record CellArgs (z q c : ℕ) : Type 0 where
  pub size : z < 65536
  pub state : q < 16
  pub set : c < 65536
