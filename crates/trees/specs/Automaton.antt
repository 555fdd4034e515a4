-- Tree automata and word automata.
--
-- Automaton == a deterministic bottom-up tree automaton (source document 002, 2.1.2): document 01's rule table
-- run A t == the run of A over t, a relabelling of t with states
-- state A t == the state of t's root in the run
-- WordAutomaton == a deterministic automaton on words with start state 0: document 01's branch table
-- word_run B q w == the state after state q reads the word w
--
-- States are the numbers below `states`, so 002's Q is that number; F is a test.
use Rattle.std.specs.Prelude.{ℕ, Bool, List, [], ◌∷◌}
use Rattle.trees.specs.Tree.{Tree, leaf, node}

-- "A deterministic, bottom-up tree automaton consists of a finite set of states Q, a set of accepting states F ⊆ Q,
-- a bottom-up transition function δ : Q × Σ × Q → Q, an initialization function ι : Σ → Q."
pub record Automaton : Type 0 where
  pub states : ℕ
  pub ι : ℕ → ℕ
  pub δ : ℕ → ℕ → ℕ → ℕ
  pub accepting : ℕ → Bool

-- the label of the root
abbrev pub root_label : Tree → ℕ
root_label (leaf a) = a
root_label (node l a r) = a

-- "A run of tree automaton A over tree T is a relabeling of T with elements of Q such that each leaf with label a is relabeled
-- with ι(a). If an inner node v has label a, its left child got relabeled to p, and its right child got relabeled to q, then v
-- gets relabeled with δ(p, a, q)."
abbrev pub run : Automaton → Tree → Tree
run A (leaf a) = leaf (A.ι a)
run A (node l a r) = node (run A l) (A.δ (root_label (run A l)) a (root_label (run A r))) (run A r)

abbrev pub state : Automaton → Tree → ℕ
state A t = root_label (run A t)

-- "A run is accepting if T's root gets relabeled to an accepting state"
abbrev pub accepts : Automaton → Tree → Bool
accepts A t = A.accepting (state A t)

pub record WordAutomaton : Type 0 where
  pub states : ℕ
  pub step : ℕ → ℕ → ℕ
  pub accepting : ℕ → Bool

-- "the state after state s reads label a", letter by letter
abbrev pub word_run : WordAutomaton → ℕ → List ℕ → ℕ
word_run B q [] = q
word_run B q (a ∷ w) = word_run B (B.step q a) w
