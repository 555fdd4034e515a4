-- A plan as bytes, and its tree.
--
-- node_count p == N of the header
-- plan_length n == the length of a plan of n nodes
-- labels_within p, kinds_in p == the run of labels and the run of kinds
-- plan_tree p == the tree of a plan; leaf 0 where the kinds are no tree's
-- plan_bytes t == the plan of a tree
use Rattle.std.specs.Prelude.{ℕ, ◌+◌, ◌*◌, List, ◌++◌, take, drop}
use Rattle.trees.specs.Tree.{Tree, size, kinds_of, labels_of}
use Rattle.trees.specs.Postorder.{tree_of}
use Rattle.formats.specs.Layout.{plan_head}
use Rattle.formats.specs.Bytes.{le32, le32_bytes}

-- "A header of three 32-bit numbers: node count N, offset of the labels (always 12), offset of the kinds (always 12+N)."
abbrev pub node_count : List ℕ → ℕ
node_count p = le32 p 0

-- "Length 12+2N exactly."
abbrev pub plan_length : ℕ → ℕ
plan_length n = plan_head + 2 * n

-- "Then N label bytes and N kind bytes, 0 leaf, 1 inner."
abbrev pub labels_within : List ℕ → List ℕ
labels_within p = take (node_count p) (drop plan_head p)

abbrev pub kinds_in : List ℕ → List ℕ
kinds_in p = take (node_count p) (drop (plan_head + node_count p) p)

-- "Nodes stand in post-order and are numbered from 0. An inner node takes the two trees last completed, the earlier as left child."
abbrev pub plan_tree : List ℕ → Tree
plan_tree p = tree_of (kinds_in p) (labels_within p)

unfoldable pub plan_bytes : Tree → List ℕ
plan_bytes t = le32_bytes (size t) ++ (le32_bytes plan_head ++ (le32_bytes (plan_head + size t) ++ (labels_of t ++ kinds_of t)))
