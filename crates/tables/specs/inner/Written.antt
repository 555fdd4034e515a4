-- The two tables as a build leaves them.
--
-- TableArgs ks ls b lv inn s k m == what writing a whole table of states needs: the run's needs, and a table of links
--   as built
-- StatesOver s k lv inn ks ls before after == the buffer begins with the state table of the tree with kinds ks and
--   labels ls, for any marks, and its excess is as before
-- Passed p r node_table bytes == plan and rule table pass 2 to 10, and the buffers are long enough
-- BuildArgs p r n s k node_table bytes == besides, n, s and k are their N, S and K, with the lengths that cut out the
--   parts handed on
-- BothWritten p r node_table bytes node_table' bytes' == both buffers begin with the tables built from p and r, and their excess is
--   as before
use Rattle.std.specs.Prelude.{ℕ, ◌≤◌, ◌<◌, ◌≡◌, List, ◌++◌, length, drop}
use Rattle.trees.specs.Tree.{Tree, kinds_of, labels_of}
use Rattle.trees.specs.Tables.{state_table_of}
use Rattle.formats.specs.Limits.{node_limit, state_limit, label_limit}
use Rattle.formats.specs.Plan.{node_count, plan_length}
use Rattle.formats.specs.Rules.{tree_automaton, state_count, label_count, rule_length}
use Rattle.formats.specs.Checks.{first_no, build_checks, state_table_length}
use Rattle.formats.specs.Built.{built_node_table, built_state_table}
use Rattle.tables.specs.node_tables.NodeCells.{NodeCells}
use Rattle.tables.specs.inner.States.{StateArgs}

pub record TableArgs (ks ls b lv inn : List ℕ) (s k m : ℕ) : Type 0 where
  pub run : StateArgs ks ls b lv inn s k m
  pub links : (t : Tree) → kinds_of t ≡ ks → NodeCells t b
  pub some : 0 < s

abbrev pub StatesOver : ℕ → ℕ → List ℕ → List ℕ → List ℕ → List ℕ → List ℕ → List ℕ → Type 0
StatesOver s k lv inn ks ls before after =
    (mk : List ℕ) (t : Tree) → kinds_of t ≡ ks → labels_of t ≡ ls
    → after ≡ state_table_of (tree_automaton s k lv inn mk) t ++ drop (state_table_length (length ks) s) before

abbrev pub Passed : List ℕ → List ℕ → List ℕ → List ℕ → Type 0
Passed p r node_table state_table = first_no (build_checks p r (length node_table) (length state_table)) ≡ 0

pub record BuildArgs (p r : List ℕ) (n s k : ℕ) (node_table state_table : List ℕ) : Type 0 where
  pub passed : Passed p r node_table state_table
  pub nodes : n ≡ node_count p
  pub states : s ≡ state_count r
  pub labels : k ≡ label_count r
  pub node_most : n ≤ node_limit
  pub state_most : s ≤ state_limit
  pub label_most : k ≤ label_limit
  pub plan_exact : length p ≡ plan_length n
  pub rules_exact : length r ≡ rule_length s k

pub record BothWritten (p r node_table state_table node_table' state_table' : List ℕ) : Type 0 where
  pub links : node_table' ≡ built_node_table p ++ drop (length (built_node_table p)) node_table
  pub states : state_table' ≡ built_state_table p r ++ drop (length (built_state_table p r)) state_table
