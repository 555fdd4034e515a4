-- The planner's trees, as lists of siblings, and their image among our trees (document 02, S-2).
--
-- Siblings == a list of siblings: empty, or the first one's label, its children's list and the rest. A planner's tree
--   is a list of one
-- count f == how many nodes; width f == how many siblings
-- pre_labels f, pre_counts f == the labels and the child counts of the nodes, top first (pre-order)
-- image f == our tree
-- unimage t == the list of siblings whose image t would be, its leaves' labels aside
-- items f v == our tree's nodes in post-order: none for a leaf, some u for planner node u, where f's nodes are numbered
--   from v
-- item_label g x, item_kind x == label and kind of such an item, where g gives the labels of planner nodes
-- places f lo == for each planner node in pre-order its place in our plan, where the image begins at place lo
--
-- "A list of siblings becomes an inner node with the first one's label, its children's list at the left and the rest at
-- the right; an empty list becomes a leaf with label 63. So n nodes become 2n+1."
use Rattle.std.specs.Prelude.{ℕ, zero, suc, ◌+◌, ◌-◌, List, [], ◌∷◌, ◌++◌}
use Rattle.std.proofs.Math.Option.{Option, none, some}
use Rattle.trees.specs.Tree.{Tree, leaf, node, size}

pub data Siblings : Type 0 where
  empty : Siblings
  sibling : ℕ → Siblings → Siblings → Siblings

abbrev pub count : Siblings → ℕ
count empty = 0
count (sibling a c r) = count c + count r + 1

abbrev pub width : Siblings → ℕ
width empty = 0
width (sibling a c r) = suc (width r)

abbrev pub pre_labels : Siblings → List ℕ
pre_labels empty = []
pre_labels (sibling a c r) = a ∷ (pre_labels c ++ pre_labels r)

abbrev pub pre_counts : Siblings → List ℕ
pre_counts empty = []
pre_counts (sibling a c r) = width c ∷ (pre_counts c ++ pre_counts r)

abbrev pub empty_label : ℕ
empty_label = 63

abbrev pub image : Siblings → Tree
image empty = leaf empty_label
image (sibling a c r) = node (image c) a (image r)

abbrev pub unimage : Tree → Siblings
unimage (leaf a) = empty
unimage (node l a r) = sibling a (unimage l) (unimage r)

abbrev pub items : Siblings → ℕ → List (Option ℕ)
items empty v = none ∷ []
items (sibling a c r) v = items c (v + 1) ++ (items r (v + 1 + count c) ++ (some v ∷ []))

abbrev pub item_label : (ℕ → ℕ) → Option ℕ → ℕ
item_label g none = empty_label
item_label g (some u) = g u

abbrev pub item_kind : Option ℕ → ℕ
item_kind none = 0
item_kind (some u) = 1

-- "a table of 16-bit numbers tells each planner node's place in our plan"
abbrev pub places : Siblings → ℕ → List ℕ
places empty lo = []
places (sibling a c r) lo = (lo + size (image c) + size (image r)) ∷ (places c lo ++ places r (lo + size (image c)))
