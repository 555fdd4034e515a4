-- The sum of a weight over all labellings, worked out up the tree.
--
-- weighed A ch t lo g == the sum of g (state of the root) over all labellings of t's shape, where t's nodes are
--   numbered from lo and ch has the labels of each node
-- weighed_at A ch t v g == that of the subtree rooted at node v
--
-- The count of state s is the weight `one s`. Weights compose as functions do, so a fork is one weight in another and a
-- climb is a weight after a map; one number for each state, and sums of products of these, come last (proofs/Vectors).
use Rattle.std.specs.Prelude.{ℕ, ◌+◌, ◌-◌}
use Rattle.trees.specs.Tree.{Tree, leaf, node, size}
use Rattle.trees.specs.Automaton.{Automaton}
use Rattle.trees.specs.Numbering.{sub}
use Rattle.choices.specs.assignments.Sums.{LabelSum}

unfoldable pub weighed : Automaton → LabelSum → Tree → ℕ → (ℕ → ℕ) → ℕ
weighed A ch (leaf a) lo g = ch lo (λ b. g (A.ι b))
weighed A ch (node l a r) lo g =
    weighed A ch l lo (λ p. weighed A ch r (lo + size l) (λ q. ch (lo + size l + size r) (λ b. g (A.δ p b q))))

unfoldable pub weighed_at : Automaton → LabelSum → Tree → ℕ → (ℕ → ℕ) → ℕ
weighed_at A ch t v g = weighed A ch (sub t v) (v + 1 - size (sub t v)) g
