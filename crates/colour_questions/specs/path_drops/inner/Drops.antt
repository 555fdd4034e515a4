-- The next drop on given numbers, as the code gives it.
--
-- dropping_of o == the answer for the next drop o
-- NextDone n table c to l r == r is the next drop by colour c's table; a drop's node is one of the n and its links are
--   few
-- DropDone n nums c z l r == the same by the numbers of all colours, from the copy z
use Rattle.std.specs.Prelude.{ℕ, ◌≤◌, ◌<◌, ◌≡◌, List}
use Rattle.tables.specs.node_tables.Cells.{size_cell, cell_forest}
use Rattle.colours.specs.Descents.{Place, Next, done, lost, fell, next_from, next_drop}
use Rattle.colour_tables.specs.ColourCells.{cell_table}
use Rattle.colour_questions.specs.declared.path_drops.drops.Dropping.{Dropping}
use Rattle.colour_questions.specs.declared.path_drops.drops.Dropping.TheVariants.{Done, Lost, Fell}

unfoldable pub dropping_of : Next → Dropping
dropping_of done = Done
dropping_of lost = Lost
dropping_of (fell x d k) = Fell x d k

pub record NextDone (n : ℕ) (table : List ℕ) (c to l : ℕ) (r : Dropping) : Type 0 where
  pub result : r ≡ dropping_of (next_from (cell_forest n table) (size_cell table) c to l)
  pub few : (x d k : ℕ) → r ≡ Fell x d k → (x < n) × (k ≤ 65535)

pub record DropDone (n : ℕ) (nums : List ℕ) (c : ℕ) (z : Place) (l : ℕ) (r : Dropping) : Type 0 where
  pub result : r ≡ dropping_of (next_drop (cell_table n nums) c z l)
  pub few : (x d k : ℕ) → r ≡ Fell x d k → (x < n) × (k ≤ 65535)
