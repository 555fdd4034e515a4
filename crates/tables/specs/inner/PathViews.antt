-- The inputs of a climb's functions: runs of plan and rules, with the limits that keep every read inside.
--
-- path_view n s k ls inn node_table bytes == what a climb reads: labels, inner states and the two tables, no kinds and no leaf
--   states
-- rules_view s k inn, states_view s bytes, nodes_view n node_table == what a rule, a run state and a sibling read
-- RuleOnArgs s k inn p q == p and q are states and the rules have their S×K×S bytes
-- RunOnArgs s bytes v == the bytes have node v's state
-- PairArgs n node_table v p == v and p are among n nodes, and the numbers have four for each
-- PathArgs n s k ls inn node_table bytes == n, s and k within their limits, and every run as long as they need
use Rattle.std.specs.Prelude.{ℕ, ◌+◌, ◌*◌, ◌≤◌, ◌<◌, List, [], length}
use Rattle.formats.specs.Limits.{node_limit, state_limit, label_limit}
use Rattle.formats.specs.Checks.{node_table_length, state_table_length}
use Rattle.tables.specs.Climbs.{View}

abbrev pub path_view : ℕ → ℕ → ℕ → List ℕ → List ℕ → List ℕ → List ℕ → View
path_view n s k ls inn node_table state_table = record {
  n = n;
  s = s;
  k = k;
  labels = ls;
  kinds = [];
  leaves = [];
  inner = inn;
  node_table = node_table;
  state_table = state_table;
}

abbrev pub rules_view : ℕ → ℕ → List ℕ → View
rules_view s k inn = path_view 0 s k [] inn [] []

abbrev pub states_view : ℕ → List ℕ → View
states_view s state_table = path_view 0 s 0 [] [] [] state_table

abbrev pub nodes_view : ℕ → List ℕ → View
nodes_view n node_table = path_view n 0 0 [] [] node_table []

pub record RuleOnArgs (s k : ℕ) (inn : List ℕ) (p q : ℕ) : Type 0 where
  pub few : s ≤ state_limit
  pub labels : k ≤ label_limit
  pub left : p < s
  pub right : q < s
  pub room : s * k * s ≤ length inn

pub record RunOnArgs (s : ℕ) (state_table : List ℕ) (v : ℕ) : Type 0 where
  pub few : s ≤ state_limit
  pub at : v * (s + 1) < length state_table

pub record PairArgs (n : ℕ) (node_table : List ℕ) (v p : ℕ) : Type 0 where
  pub at : v < n
  pub up : p < n
  pub most : n ≤ node_limit
  pub room : node_table_length n ≤ length node_table

pub record PathArgs (n s k : ℕ) (ls inn node_table state_table : List ℕ) : Type 0 where
  pub most : n ≤ node_limit
  pub few : s ≤ state_limit
  pub labels : k ≤ label_limit
  pub labels_room : n ≤ length ls
  pub inner_room : s * k * s ≤ length inn
  pub node_table_room : node_table_length n ≤ length node_table
  pub state_table_room : state_table_length n s ≤ length state_table
