-- Where things are in the buffers (docs/LAYOUT.md): the lengths of the headers, and the columns of the node table.
--
-- plan_head, rules_head, branch_head == the bytes of the header of a plan, a rule table and a branch table
-- node_columns == the numbers of a node in the node table: parent, jump, depth, size
-- jump_column, depth_column, size_column == which of them is which; the parent is the first
use Rattle.std.specs.Prelude.{ℕ}

abbrev pub plan_head : ℕ
plan_head = 12

abbrev pub rules_head : ℕ
rules_head = 20

abbrev pub branch_head : ℕ
branch_head = 16

abbrev pub node_columns : ℕ
node_columns = 4

abbrev pub jump_column : ℕ
jump_column = 1

abbrev pub depth_column : ℕ
depth_column = 2

abbrev pub size_column : ℕ
size_column = 3
