-- The tables of colours as whole lists: what the builds write.
--
-- colour_row n step t c v == node v's four numbers in colour c's table: parent, jump and depth among the nodes where the
--   colour falls, and the colour it lands on
-- colour_table n step t c == colour c's table; that of the lowest colour, which never falls, is the plan's own node
--   table
-- colour_numbers_of n step t == the numbers: the tables of the n colours, one after the other
-- copies_of n step t == the bytes: for each node its n states, in the order of their colours
-- colour_numbers_length m n, copies_length m n == how many these are, of m nodes and n colours
--
-- n states and any steps: words and sets of states are instances.
use Rattle.std.specs.Prelude.{ℕ, zero, suc, ◌*◌, List, [], ◌∷◌}
use Rattle.list_laws.specs.Rows.{rows}
use Rattle.trees.specs.Tree.{Tree, size}
use Rattle.trees.specs.Tables.{node_table_of}
use Rattle.trees.specs.Ascents.{jump_by}
use Rattle.colours.specs.marks.Marks.{marks_above, marked_up}
use Rattle.colours.specs.Copies.{copy, lands_at, falls_at}

abbrev pub colour_row : ℕ → (ℕ → ℕ → ℕ) → Tree → ℕ → ℕ → List ℕ
colour_row n step t c v =
    marked_up t (falls_at n step t c) v
    ∷ jump_by (marked_up t (falls_at n step t c)) (marks_above t (falls_at n step t c)) v
    ∷ marks_above t (falls_at n step t c) v
    ∷ lands_at n step t c v
    ∷ []

unfoldable pub colour_table : ℕ → (ℕ → ℕ → ℕ) → Tree → ℕ → List ℕ
colour_table n step t zero = node_table_of t
colour_table n step t (suc c) = rows (size t) (colour_row n step t (suc c))

unfoldable pub colour_numbers_of : ℕ → (ℕ → ℕ → ℕ) → Tree → List ℕ
colour_numbers_of n step t = rows n (colour_table n step t)

unfoldable pub copies_of : ℕ → (ℕ → ℕ → ℕ) → Tree → List ℕ
copies_of n step t = rows (size t) (copy n step t)

abbrev pub colour_numbers_length : ℕ → ℕ → ℕ
colour_numbers_length m n = n * (m * 4)

abbrev pub copies_length : ℕ → ℕ → ℕ
copies_length m n = m * n
