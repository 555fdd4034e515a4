-- The problem of the fewest changes, of the runs of a rule table and the labels that each node may take.
--
-- problem_for s k lv inn stock acc == the problem of s states, k labels, leaf states lv, inner states inn, the sets
--   `stock` and the states that `acc` tells; 65,536 stands for "no way": no plan has so many nodes
-- cost_at P t v j == the fewest changes at and below node v of t that give it state j
use Rattle.std.specs.Prelude.{ℕ, ◌+◌, ◌-◌, ◌*◌, Bool, List, get_or}
use Rattle.trees.specs.Tree.{Tree, size}
use Rattle.trees.specs.Numbering.{sub}
use Rattle.state_sets.specs.StateSets.{member}
use Rattle.fewest.specs.Least.{no_way_out}
use Rattle.fewest.specs.inner.Cost.{Problem, cost}

abbrev pub problem_for : ℕ → ℕ → List ℕ → List ℕ → (ℕ → ℕ) → (ℕ → Bool) → Problem
problem_for s k lv inn stock acc = record {
  automaton = record { states = s; ι = λ a. get_or lv a 0; δ = λ p a q. get_or inn ((p * k + a) * s + q) 0; accepting = acc };
  labels = k;
  may = λ v b. member (stock v) b;
  far = no_way_out;
}

unfoldable pub cost_at : Problem → Tree → ℕ → ℕ → ℕ
cost_at P t v j = cost P (sub t v) (v + 1 - size (sub t v)) j
