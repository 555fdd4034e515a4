-- The fewest changes that clear a plan.
--
-- IsFewest A k may t m == m is the least number of changed labels over ALL relabellings of t that A clears: one has m,
--   none fewer
-- NoneClears A k may t == no relabelling of t is cleared
-- fewest P t == that number, worked out up the tree; far where none is cleared with fewer than far changes
-- cleared_tree P t == the relabelling that is shown
use Rattle.std.specs.Prelude.{ℕ, ◌≤◌, ◌≡◌, Bool, true, cond}
use Rattle.trees.specs.Tree.{Tree, labels_of}
use Rattle.trees.specs.Automaton.{Automaton, accepts}
use Rattle.fewest.specs.Relabelling.{differences, Relabelling}
use Rattle.fewest.specs.Least.{least_to, place_of_least}
use Rattle.fewest.specs.inner.Cost.{Problem, cost, witness}

pub record IsFewest (A : Automaton) (k : ℕ) (may : ℕ → ℕ → Bool) (t : Tree) (m : ℕ) : Type 0 where
  pub tree : Tree
  pub allowed : Relabelling k may t tree
  pub cleared : accepts A tree ≡ true
  pub number : differences (labels_of t) (labels_of tree) ≡ m
  pub least : (u : Tree) → Relabelling k may t u → accepts A u ≡ true → m ≤ differences (labels_of t) (labels_of u)

abbrev pub NoneClears : Automaton → ℕ → (ℕ → ℕ → Bool) → Tree → Type 0
NoneClears A k may t = (u : Tree) → Relabelling k may t u → accepts A u ≡ true → ⊥

-- the cost of the plan ending in state s, if that state is accepting
unfoldable pub clearing_cost : Problem → Tree → ℕ → ℕ
clearing_cost P t s = cond (P.automaton.accepting s) (cost P t 0 s) P.far

unfoldable pub fewest : Problem → Tree → ℕ
fewest P t = least_to P.far P.automaton.states (clearing_cost P t)

unfoldable pub cleared_tree : Problem → Tree → Tree
cleared_tree P t = witness P t 0 (place_of_least P.far P.automaton.states (clearing_cost P t))
