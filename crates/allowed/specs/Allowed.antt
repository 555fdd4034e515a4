-- Which labels each node of a plan may take.
--
-- one_changed t v a == the tree t with label a at node v, all else as it is: a list of one change
-- is_allowed A t v a == whether A clears that tree: source document 002's run of the changed plan is accepting
-- allowed_set A k t v == the labels below k that node v may take, as a set in a number: 2 to the power a for each label a
-- allowed_sets A k t == those of all nodes, in node order: what the call writes
--
-- The label that node v has already is a change like any other: its bit is the verdict of the plan as it is. Out of
-- range (v not below size t) the values mean nothing. No table, no pass and no set of states is in these definitions.
use Rattle.std.specs.Prelude.{ℕ, Bool, List, [], ◌∷◌}
use Rattle.list_laws.specs.Rows.{tabulate}
use Rattle.trees.specs.Tree.{Tree, size, kinds_of, labels_of}
use Rattle.trees.specs.Automaton.{Automaton, accepts}
use Rattle.trees.specs.Postorder.{tree_of}
use Rattle.trees.specs.Changes.{changed}
use Rattle.state_sets.specs.StateSets.{set_of}

unfoldable pub one_changed : Tree → ℕ → ℕ → Tree
one_changed t v a = tree_of (kinds_of t) (changed (labels_of t) (v ∷ []) (a ∷ []))

unfoldable pub is_allowed : Automaton → Tree → ℕ → ℕ → Bool
is_allowed A t v a = accepts A (one_changed t v a)

unfoldable pub allowed_set : Automaton → ℕ → Tree → ℕ → ℕ
allowed_set A k t v = set_of k (is_allowed A t v)

unfoldable pub allowed_sets : Automaton → ℕ → Tree → List ℕ
allowed_sets A k t = tabulate (size t) (allowed_set A k t)
