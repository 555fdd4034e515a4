-- The run over the plan as it is.
--
-- RunArgs ks ls lv inn mk s k m == what the run needs; m is the length of the work space
-- RootMarked ks ls lv inn mk s k before r after == r is the mark of the root's state, for the tree with kinds ks and
--   labels ls; from the nodes' numbers on the work space is as it was
-- PlanMarked p r before x after == that, of plan p under rules r
use Rattle.std.specs.Prelude.{ℕ, ◌≤◌, ◌≡◌, List, length, get_or}
use Rattle.trees.specs.Tree.{Tree, kinds_of, labels_of}
use Rattle.trees.specs.Automaton.{state}
use Rattle.formats.specs.Plan.{node_count, plan_tree}
use Rattle.formats.specs.Rules.{tree_automaton, rule_automaton, rule_marks}
use Rattle.allowed.specs.inner.Inputs.{PassArgs}

pub record RunArgs (ks ls lv inn mk : List ℕ) (s k m : ℕ) : Type 0 where
  pub pass : PassArgs ks ls lv inn s k
  pub marks : length mk ≡ s
  pub room : length ks ≤ m

pub record RootMarked (ks ls lv inn mk : List ℕ) (s k : ℕ) (before : List ℕ) (r : ℕ) (after : List ℕ) : Type 0 where
  pub mark : (t : Tree) → kinds_of t ≡ ks → labels_of t ≡ ls → r ≡ get_or mk (state (tree_automaton s k lv inn mk) t) 0
  pub kept : (j : ℕ) → length ks ≤ j → get_or after j 0 ≡ get_or before j 0

pub record PlanMarked (p r before : List ℕ) (x : ℕ) (after : List ℕ) : Type 0 where
  pub mark : x ≡ get_or (rule_marks r) (state (rule_automaton r) (plan_tree p)) 0
  pub kept : (j : ℕ) → node_count p ≤ j → get_or after j 0 ≡ get_or before j 0
