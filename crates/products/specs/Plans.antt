-- Trees that are plans for a table of k labels, of any size and depth.
--
-- PlanOf k t == every label of the tree t is below k: check 10
--
-- Merging and agreement are about plans only. The automaton of a table's bytes has values at labels from k on too (it reads another
-- cell, or 0 past the run), and there nothing is said: two tables that agree on every plan may differ on them.
use Rattle.std.specs.Prelude.{ℕ, ◌≡◌, true}
use Rattle.trees.specs.Tree.{Tree, labels_of}
use Rattle.list_laws.specs.Tests.{all_below}

-- "every plan label below K? 10"
abbrev pub PlanOf : ℕ → Tree → Type 0
PlanOf k t = all_below k (labels_of t) ≡ true
