-- The list of changes that is shown.
--
-- shown_nodes P t, shown_labels P t == the changes from t to the relabelling that is shown, in rising node number; none
--   where they are more than 64
-- over xs d == the buffer d with xs at its front; behind them what was there
use Rattle.std.specs.Prelude.{ℕ, cond, List, [], ◌++◌, leb, length, drop}
use Rattle.trees.specs.Tree.{Tree, labels_of}
use Rattle.formats.specs.Limits.{change_limit}
use Rattle.fewest.specs.Relabelling.{changed_nodes, changed_labels}
use Rattle.fewest.specs.Fewest.{fewest, cleared_tree}
use Rattle.fewest.specs.inner.Cost.{Problem}

unfoldable pub shown_nodes : Problem → Tree → List ℕ
shown_nodes P t = cond (leb (fewest P t) change_limit) (changed_nodes 0 (labels_of t) (labels_of (cleared_tree P t))) []

unfoldable pub shown_labels : Problem → Tree → List ℕ
shown_labels P t = cond (leb (fewest P t) change_limit) (changed_labels (labels_of t) (labels_of (cleared_tree P t))) []

abbrev pub over : List ℕ → List ℕ → List ℕ
over xs d = xs ++ drop (length xs) d
