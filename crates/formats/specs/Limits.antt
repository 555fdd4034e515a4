-- The limits of document 01.
--
-- "N 1 to 65,535; S 1 to 16; K 1 to 64; m, the changes in a list, 0 to 64."
--
-- part_limit == the most parts of a question: 4 m - 2 for m changes, 1 or more
-- within low high n == whether low ≤ n ≤ high
use Rattle.std.specs.Prelude.{ℕ, Bool, ◌&&◌, leb}

abbrev pub node_limit : ℕ
node_limit = 65535

abbrev pub state_limit : ℕ
state_limit = 16

abbrev pub label_limit : ℕ
label_limit = 64

abbrev pub change_limit : ℕ
change_limit = 64

abbrev pub part_limit : ℕ
part_limit = 254

abbrev pub within : ℕ → ℕ → ℕ → Bool
within low high n = leb low n && leb n high
