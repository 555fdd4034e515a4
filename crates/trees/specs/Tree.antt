-- Labelled binary trees and their post-order.
--
-- Tree == a binary tree with a label at each node; a plan of document 01 is one, in post-order
-- size t == the number of nodes, at least 1
-- height t == the greatest depth of a node, 0 for a leaf
-- kinds_of t, labels_of t == the kinds (0 leaf, 1 inner) and the labels of the nodes in post-order
-- label_at t v, kind_at t v == those of node number v; 0 out of range
--
-- Not here: node numbers (Numbering), the way back from bytes (Postorder).
use Rattle.std.specs.Prelude.{ℕ, suc, ◌+◌, max, List, [], ◌∷◌, ◌++◌, get_or}

pub data Tree : Type 0 where
  leaf : ℕ → Tree
  node : Tree → ℕ → Tree → Tree

abbrev pub size : Tree → ℕ
size (leaf a) = 1
size (node l a r) = size l + size r + 1

-- "Greatest depth .. (root 0)"
unfoldable pub height : Tree → ℕ
height (leaf a) = 0
height (node l a r) = suc (max (height l) (height r))

-- "N kind bytes, 0 leaf, 1 inner. Nodes stand in post-order"
abbrev pub kinds_of : Tree → List ℕ
kinds_of (leaf a) = 0 ∷ []
kinds_of (node l a r) = kinds_of l ++ (kinds_of r ++ (1 ∷ []))

abbrev pub labels_of : Tree → List ℕ
labels_of (leaf a) = a ∷ []
labels_of (node l a r) = labels_of l ++ (labels_of r ++ (a ∷ []))

abbrev pub kind_at : Tree → ℕ → ℕ
kind_at t v = get_or (kinds_of t) v 0

abbrev pub label_at : Tree → ℕ → ℕ
label_at t v = get_or (labels_of t) v 0
