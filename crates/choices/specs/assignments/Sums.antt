-- Finite sums, over numbers and over the labels that a node may have.
--
-- sum_to n f == f 0 + f 1 + .. + f (n - 1)
-- one s c == 1 where c is s, else 0: summed over states c, a count of those that are s
-- LabelSum == for each node, how a weight of its label is summed over the labels that it may have
-- open_sum k w ls == any label below k at the nodes that w holds of (the open ones), the label of ls at the others
use Rattle.std.specs.Prelude.{ℕ, zero, suc, ◌+◌, Bool, cond, List, eqb, get_or}

unfoldable pub sum_to : ℕ → (ℕ → ℕ) → ℕ
sum_to zero f = 0
sum_to (suc n) f = sum_to n f + f n

abbrev pub one : ℕ → ℕ → ℕ
one s c = cond (eqb c s) 1 0

abbrev pub LabelSum : Type 0
LabelSum = ℕ → (ℕ → ℕ) → ℕ

unfoldable pub open_sum : ℕ → (ℕ → Bool) → List ℕ → LabelSum
open_sum k w ls v f = cond (w v) (sum_to k f) (f (get_or ls v 0))
