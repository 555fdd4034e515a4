-- What the writers of a plan's tables for a branch table need, once all checks have passed, and what they leave.
--
-- FillArgs ls ks st s k n l m == labels and kinds of a tree of n nodes, steps of s states and k labels, within the
--   limits; room for the tables in buffers of l numbers and m bytes
-- BranchFilled .. == the two tables and the excess as it was, for the tree of these kinds and labels and any marks
-- PartArgs p r n s k l m == plan and branch table pass 2 to 11 for buffers of l numbers and m bytes; n, s and k are
--   their N, S and K, with the lengths that follow, for the parts handed on
-- BranchWritten p r node_table bytes node_table' bytes' == both buffers begin with the tables built from p and r, and their
--   excess is as it was
use Rattle.std.specs.Prelude.{ℕ, ◌*◌, ◌≤◌, ◌<◌, ◌≡◌, List, ◌++◌, length, get_or, drop}
use Rattle.trees.specs.Tree.{Tree, size, kinds_of, labels_of}
use Rattle.trees.specs.Tables.{node_table_of, branch_table_of}
use Rattle.formats.specs.Limits.{node_limit, state_limit}
use Rattle.formats.specs.Plan.{node_count, plan_length}
use Rattle.formats.specs.Rules.{word_automaton, state_count, label_count, branch_length}
use Rattle.formats.specs.Checks.{first_no, branch_build_checks, node_table_length, state_table_length}
use Rattle.formats.specs.Built.{built_node_table, built_branch_table}

pub record FillArgs (ls ks st : List ℕ) (s k n l m : ℕ) : Type 0 where
  pub tree : Tree
  pub kinds : kinds_of tree ≡ ks
  pub labels : labels_of tree ≡ ls
  pub count : size tree ≡ n
  pub most : n ≤ node_limit
  pub few : s ≤ state_limit
  pub node_table_room : node_table_length n ≤ l
  pub room : state_table_length n s ≤ m
  pub steps_room : s * k ≤ length st
  pub steps_below : (j : ℕ) → get_or st j 0 < s
  pub labels_below : (j : ℕ) → get_or ls j 0 < k

pub record TablesFilled (st : List ℕ) (s k : ℕ) (mk : List ℕ) (t : Tree)
    (node_table state_table node_table' state_table' : List ℕ) : Type 0 where
  pub links : node_table' ≡ node_table_of t ++ drop (node_table_length (size t)) node_table
  pub states : state_table' ≡ branch_table_of (word_automaton s k st mk) t ++ drop (state_table_length (size t) s) state_table

abbrev pub BranchFilled : List ℕ → List ℕ → List ℕ → ℕ → ℕ → List ℕ → List ℕ → List ℕ → List ℕ → Type 0
BranchFilled ls ks st s k node_table state_table node_table' state_table' =
    (mk : List ℕ) (t : Tree) → kinds_of t ≡ ks → labels_of t ≡ ls → TablesFilled st s k mk t node_table state_table node_table' state_table'

pub record PartArgs (p r : List ℕ) (n s k l m : ℕ) : Type 0 where
  pub passed : first_no (branch_build_checks p r l m) ≡ 0
  pub nodes : n ≡ node_count p
  pub states : s ≡ state_count r
  pub labels : k ≡ label_count r
  pub plan_exact : length p ≡ plan_length n
  pub branch_exact : length r ≡ branch_length s k

pub record BranchWritten (p r node_table state_table node_table' state_table' : List ℕ) : Type 0 where
  pub links : node_table' ≡ built_node_table p ++ drop (length (built_node_table p)) node_table
  pub states : state_table' ≡ built_branch_table p r ++ drop (length (built_branch_table p r)) state_table
