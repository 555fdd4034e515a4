-- The fewest changes for each state, worked out up the tree.
--
-- Problem == an automaton, a count of labels, what may be changed, and the number `far` that stands for "no way"
-- change_cost P v a b == what it costs that node v, of label a, has label b: 0 for its own, 1 where it may, else far
-- cost P t lo s == the least number of changes below and at the root of t that give it state s, where t's nodes are
--   numbered from lo; far where that takes far changes or more, or no choice does
-- witness P t lo s == the tree with these changes: of several the one with the least left state, then the least right
--   state, then the least label
--
-- cost is seed document 000's evaluation of a regular question in the numbers with min and +, in place of S-10's + and
-- times.
use Rattle.std.specs.Prelude.{ℕ, ◌+◌, Bool, cond, eqb}
use Rattle.trees.specs.Tree.{Tree, leaf, node, size}
use Rattle.trees.specs.Automaton.{Automaton}
use Rattle.fewest.specs.Least.{least_to, place_of_least}

pub record Problem : Type 0 where
  pub automaton : Automaton
  pub labels : ℕ
  pub may : ℕ → ℕ → Bool
  pub far : ℕ

abbrev pub change_cost : Problem → ℕ → ℕ → ℕ → ℕ
change_cost P v a b = cond (eqb a b) 0 (cond (P.may v b) 1 P.far)

-- the cost of a leaf's label b for state s
unfoldable pub leaf_cost : Problem → ℕ → ℕ → ℕ → ℕ → ℕ
leaf_cost P v a s b = cond (eqb (P.automaton.ι b) s) (change_cost P v a b) P.far

-- the cost of an inner node's label b for state s, where the children cost x and y to be in states p and q
unfoldable pub inner_cost : Problem → ℕ → ℕ → ℕ → ℕ → ℕ → ℕ → ℕ → ℕ → ℕ
inner_cost P v a s x p y q b = cond (eqb (P.automaton.δ p b q) s) (x + y + change_cost P v a b) P.far

abbrev pub least_label : Problem → ℕ → ℕ → ℕ → ℕ → ℕ → ℕ → ℕ → ℕ
least_label P v a s x p y q = least_to P.far P.labels (inner_cost P v a s x p y q)

abbrev pub least_right : Problem → ℕ → ℕ → ℕ → ℕ → ℕ → (ℕ → ℕ) → ℕ
least_right P v a s x p g = least_to P.far P.automaton.states (λ q. least_label P v a s x p (g q) q)

abbrev pub least_left : Problem → ℕ → ℕ → ℕ → (ℕ → ℕ) → (ℕ → ℕ) → ℕ
least_left P v a s f g = least_to P.far P.automaton.states (λ p. least_right P v a s (f p) p g)

unfoldable pub cost : Problem → Tree → ℕ → ℕ → ℕ
cost P (leaf a) lo s = least_to P.far P.labels (leaf_cost P lo a s)
cost P (node l a r) lo s =
    least_left P (lo + size l + size r) a s (λ p. cost P l lo p) (λ q. cost P r (lo + size l) q)

-- the choice at an inner node, by the costs f and g of its children
abbrev pub left_choice : Problem → ℕ → ℕ → ℕ → (ℕ → ℕ) → (ℕ → ℕ) → ℕ
left_choice P v a s f g = place_of_least P.far P.automaton.states (λ p. least_right P v a s (f p) p g)

abbrev pub right_choice : Problem → ℕ → ℕ → ℕ → ℕ → ℕ → (ℕ → ℕ) → ℕ
right_choice P v a s x p g = place_of_least P.far P.automaton.states (λ q. least_label P v a s x p (g q) q)

abbrev pub label_choice : Problem → ℕ → ℕ → ℕ → ℕ → ℕ → ℕ → ℕ → ℕ
label_choice P v a s x p y q = place_of_least P.far P.labels (inner_cost P v a s x p y q)

unfoldable pub witness : Problem → Tree → ℕ → ℕ → Tree
witness P (leaf a) lo s = leaf (place_of_least P.far P.labels (leaf_cost P lo a s))
witness P (node l a r) lo s =
    let v : ℕ = lo + size l + size r in
    let p : ℕ = left_choice P v a s (λ p. cost P l lo p) (λ q. cost P r (lo + size l) q) in
    let q : ℕ = right_choice P v a s (cost P l lo p) p (λ q. cost P r (lo + size l) q) in
    node (witness P l lo p) (label_choice P v a s (cost P l lo p) p (cost P r (lo + size l) q) q) (witness P r (lo + size l) q)
