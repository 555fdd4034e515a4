-- A plan as lines, each a leaf or an inner node over two earlier lines (document 02, S-13).
--
-- pair_limit == the most lines: as many as two rule tables have pairs of states
-- Line == a leaf's label, or an inner node's label with the numbers of its left and its right line; lines are numbered from 0
-- GoodLine k n x == label below k, and line numbers below n: "earlier lines" where n lines come before
-- GoodLines k n xs == so for each line of xs, where n lines come before
-- line_tree ts x == the tree of line x, where ts are the trees of the lines before; a line that is not there counts as leaf 0
-- trees_from ts xs == ts, then the tree of each line of xs
-- lines_tree xs == the tree of the last line; leaf 0 where there is none
--
-- "a separating plan as at most 256 lines, each a leaf's label or a label with two earlier lines as left and right; the last line is
-- the root." Left and right may be the same line, and a line need not be used. The tree's height is below the number of lines, but
-- it may have far more nodes than lines (up to 2 to the power 256): it need not be a plan that Load takes.
use Rattle.std.specs.Prelude.{ℕ, suc, ◌-◌, ◌<◌, List, [], ◌∷◌, ◌++◌, length, get_or}
use Rattle.trees.specs.Tree.{Tree, leaf, node}

abbrev pub pair_limit : ℕ
pair_limit = 256

pub data Line : Type 0 where
  leaf_line : ℕ → Line
  inner_line : ℕ → ℕ → ℕ → Line

abbrev pub GoodLine : ℕ → ℕ → Line → Type 0
GoodLine k n (leaf_line a) = a < k
GoodLine k n (inner_line a i j) = (a < k) × ((i < n) × (j < n))

abbrev pub GoodLines : ℕ → ℕ → List Line → Type 0
GoodLines k n [] = Unit {0}
GoodLines k n (x ∷ xs) = GoodLine k n x × GoodLines k (suc n) xs

abbrev pub line_tree : List Tree → Line → Tree
line_tree ts (leaf_line a) = leaf a
line_tree ts (inner_line a i j) = node (get_or ts i (leaf 0)) a (get_or ts j (leaf 0))

abbrev pub trees_from : List Tree → List Line → List Tree
trees_from ts [] = ts
trees_from ts (x ∷ xs) = trees_from (ts ++ (line_tree ts x ∷ [])) xs

-- "the last line is the root"
unfoldable pub lines_tree : List Line → Tree
lines_tree xs = get_or (trees_from [] xs) (length xs - 1) (leaf 0)
