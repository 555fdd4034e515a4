-- With which states of a node the plan is cleared, all else as it is.
--
-- state_given A t v q == the root's state where node v has state q, whatever its label and what is below it, and every
--   other node is relabelled as in source document 002's run
-- clears A t v q == whether that state is accepting
-- clearing_set A t v == the states below A's count that clear, as a set in a number: 2 to the power q for each state q
-- clearing_sets A t == those of all nodes, in node order: what the call writes
-- replaced t v u == the tree t with the tree u in place of node v's subtree
-- label_state A a t == the state of the tree t with label a at its root
-- state_with A t v a == the state that node v gets with label a, its children's states as in the run
--
-- Out of range (v not below size t) the values mean nothing. That a state put in is the state of any subtree put in:
-- set-is-the-run (proofs/Theorems).
use Rattle.std.specs.Prelude.{ℕ, Bool, List}
use Rattle.list_laws.specs.Rows.{tabulate}
use Rattle.trees.specs.Tree.{Tree, leaf, node, size}
use Rattle.trees.specs.Automaton.{Automaton, state}
use Rattle.trees.specs.Numbering.{split, sub}
use Rattle.state_sets.specs.StateSets.{set_of}

unfoldable pub state_given : Automaton → Tree → ℕ → ℕ → ℕ
state_given A (leaf a) v q = q
state_given A (node l a r) v q =
    split (size l) (size r) v
    (A.δ (state_given A l v q) a (state A r))
    (λ j. A.δ (state A l) a (state_given A r j q))
    q

unfoldable pub clears : Automaton → Tree → ℕ → ℕ → Bool
clears A t v q = A.accepting (state_given A t v q)

unfoldable pub clearing_set : Automaton → Tree → ℕ → ℕ
clearing_set A t v = set_of A.states (clears A t v)

unfoldable pub clearing_sets : Automaton → Tree → List ℕ
clearing_sets A t = tabulate (size t) (clearing_set A t)

unfoldable pub replaced : Tree → ℕ → Tree → Tree
replaced (leaf a) v u = u
replaced (node l a r) v u = split (size l) (size r) v (node (replaced l v u) a r) (λ j. node l a (replaced r j u)) u

abbrev pub label_state : Automaton → ℕ → Tree → ℕ
label_state A b (leaf a) = A.ι b
label_state A b (node l a r) = A.δ (state A l) b (state A r)

unfoldable pub state_with : Automaton → Tree → ℕ → ℕ → ℕ
state_with A t v a = label_state A a (sub t v)
