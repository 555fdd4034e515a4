-- The nodes of a tree by their number in post-order, from 0.
--
-- sub t v == the subtree rooted at node v (the tree itself for its root, number size t - 1)
-- parent t v == the number of the node above v; the root's is the root
-- depth t v == the number of nodes above v
-- ancestor t v n == the node n parents above v
-- labels_down t v n == the labels of the n nodes that end at v, from above down to v
-- word t u v == the labels from u down to v, both included, where u is v or above it
-- lower_word t u v == the same without u's: the labels from below u down to v (document 02, S-9)
-- InSubtree t c v == node v is in the subtree rooted at node c, c included; is_in_subtree c z v == the same as a test,
--   for a node c whose subtree has z nodes: in post-order they are the run of z numbers that ends at c
-- AtOrBelow t u l == node l is u or below it: some number of parents above l is u
--
-- Out of range (v not below size t) the values mean nothing.
use Rattle.std.specs.Prelude.{ℕ, zero, suc, ◌+◌, ◌-◌, ◌≤◌, ◌<◌, ◌≡◌, Bool, cond, ◌&&◌, List, [], ◌∷◌, ◌++◌, leb, ltb, eqb}
use Rattle.trees.specs.Tree.{Tree, leaf, node, size, label_at}

-- by where node v is in a tree whose left part has m nodes and whose right part has n:
-- in the left part, in the right part as its node v - m, or the root
unfoldable pub split : {X : Type 0} → ℕ → ℕ → ℕ → X → (ℕ → X) → X → X
split m n v x f y = cond (ltb v m) x (cond (ltb v (m + n)) (f (v - m)) y)

unfoldable pub sub : Tree → ℕ → Tree
sub (leaf a) v = leaf a
sub (node l a r) v = split (size l) (size r) v (sub l v) (λ j. sub r j) (node l a r)

unfoldable pub parent : Tree → ℕ → ℕ
parent (leaf a) v = 0
parent (node l a r) v =
    split (size l) (size r) v
    (cond (eqb (v + 1) (size l)) (size l + size r) (parent l v))
    (λ j. cond (eqb (j + 1) (size r)) (size l + size r) (size l + parent r j))
    (size l + size r)

unfoldable pub depth : Tree → ℕ → ℕ
depth (leaf a) v = 0
depth (node l a r) v = split (size l) (size r) v (depth l v + 1) (λ j. depth r j + 1) 0

unfoldable pub ancestor : Tree → ℕ → ℕ → ℕ
ancestor t v zero = v
ancestor t v (suc n) = parent t (ancestor t v n)

unfoldable pub labels_down : Tree → ℕ → ℕ → List ℕ
labels_down t v zero = []
labels_down t v (suc n) = labels_down t (parent t v) n ++ (label_at t v ∷ [])

-- "The word runs from the upper node to the lower, both included; the same node twice is a word of one letter."
unfoldable pub word : Tree → ℕ → ℕ → List ℕ
word t u v = labels_down t v (depth t v - depth t u + 1)

-- "The plain call now reads the word from below the upper node; the same node twice is the empty word"
unfoldable pub lower_word : Tree → ℕ → ℕ → List ℕ
lower_word t u v = labels_down t v (depth t v - depth t u)

-- "Below a child means in the subtree it roots, the child included."
abbrev pub InSubtree : Tree → ℕ → ℕ → Type 0
InSubtree t c v = (v ≤ c) × (c < v + size (sub t c))

unfoldable pub is_in_subtree : ℕ → ℕ → ℕ → Bool
is_in_subtree c z v = leb v c && ltb c (v + z)

abbrev pub AtOrBelow : Tree → ℕ → ℕ → Type 0
AtOrBelow t u l = (n : ℕ) × (n ≤ depth t l) × (ancestor t l n ≡ u)
