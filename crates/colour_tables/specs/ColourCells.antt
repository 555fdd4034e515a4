-- The cells of the colours' numbers: one table after the other, each with four 16-bit numbers for each node; and the
-- rows of their copies.
--
-- colour_part n c nums == colour c's table of n nodes among the numbers, after those of the lower colours
-- cell_table n nums == what the numbers say of each colour: parent, jump and depth of a node among the nodes where the
--   colour falls, and as its fourth number the colour that it lands on
-- copy_row m copies v == the states of node v's copy, m of them, in the order of their colours
--
-- The lowest colour never falls: its table is the plan's own node table, and no question reads it.
use Rattle.std.specs.Prelude.{ℕ, ◌*◌, List, take, drop}
use Rattle.tables.specs.node_tables.Cells.{size_cell, cell_forest}
use Rattle.colours.specs.Descents.{ColourTable}

abbrev pub colour_part : ℕ → ℕ → List ℕ → List ℕ
colour_part n c nums = take (n * 4) (drop (c * (n * 4)) nums)

abbrev pub copy_row : ℕ → List ℕ → ℕ → List ℕ
copy_row m copies v = take m (drop (v * m) copies)

abbrev pub cell_table : ℕ → List ℕ → ColourTable
cell_table n nums = record {
  forest = λ c. cell_forest n (colour_part n c nums);
  lands = λ c v. size_cell (colour_part n c nums) v;
}
