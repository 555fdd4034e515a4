-- The product of two tree automata, over any operation on their two answers.
--
-- product f A B == the product automaton: state p of A and q of B is p × S2 + q; it accepts where f of the two answers is true
-- pair_tree s u v == two relabellings of one tree as one: x × s + y at each node; where the shapes differ, u's decides
-- left_part t, right_part t == the two subtrees of the root; a leaf is its own
-- differ a b == true where a and b are not the same
--
-- "State p of the first and q of the second become p×S2+q, where S2 is the second's count of states"
-- Merging (S-6) takes "and" for f, agreement (S-13) takes `differ`: one product, one law of its run.
-- In which trees a rule table's automaton means anything is in Plans; the laws are in proofs/.
use Rattle.std.specs.Prelude.{ℕ, ◌+◌, ◌*◌, ◌/◌, ◌%◌, Bool, true, false, not}
use Rattle.trees.specs.Tree.{Tree, leaf, node}
use Rattle.trees.specs.Automaton.{Automaton, root_label}

abbrev pub product : (Bool → Bool → Bool) → Automaton → Automaton → Automaton
product f A B = record {
  states = A.states * B.states;
  ι = λ a. A.ι a * B.states + B.ι a;
  δ = λ p a q. A.δ (p / B.states) a (q / B.states) * B.states + B.δ (p % B.states) a (q % B.states);
  accepting = λ c. f (A.accepting (c / B.states)) (B.accepting (c % B.states));
}

abbrev pub left_part : Tree → Tree
left_part (leaf y) = leaf y
left_part (node l y r) = l

abbrev pub right_part : Tree → Tree
right_part (leaf y) = leaf y
right_part (node l y r) = r

-- "the run of the merged table is the pair of runs": a run is the tree relabelled with its states
abbrev pub pair_tree : ℕ → Tree → Tree → Tree
pair_tree s (leaf x) v = leaf (x * s + root_label v)
pair_tree s (node l x r) v = node (pair_tree s l (left_part v)) (x * s + root_label v) (pair_tree s r (right_part v))

abbrev pub differ : Bool → Bool → Bool
differ true b = not b
differ false b = b
