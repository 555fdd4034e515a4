-- The inputs of the functions of a part, as runs, and what these need of them.
--
-- part_view n s k ls ks lv inn node_table bytes == the view of all runs; path_of X == of these what a climb reads
-- unmoved o == a state reached by no link
-- reached_in x == what the answer x returns; none for OutOfRange
-- LastArgs, LabelArgs, LeafArgs, JoinArgs, SideArgs, ForkArgs, PartArgs == every read is inside its run
use Rattle.std.specs.Prelude.{◌≡◌, ℕ, ◌+◌, ◌*◌, ◌<◌, ◌≤◌, List, [], length, slice_index}
use Rattle.std.proofs.Math.Option.{Option, none, some}
use Rattle.trees.specs.Climb.{and_then}
use Rattle.formats.specs.Layout.{node_columns}
use Rattle.formats.specs.Limits.{node_limit, state_limit, label_limit}
use Rattle.tables.specs.declared.answers.Climbed.{Climbed}
use Rattle.tables.specs.declared.answers.Climbed.TheVariants.{Reached as To, OutOfRange}
use Rattle.tables.specs.declared.answers.Reached.{Reached}
use Rattle.tables.specs.Climbs.{View, reached}
use Rattle.tables.specs.inner.PathViews.{path_view, PathArgs}

abbrev pub part_view : ℕ → ℕ → ℕ → List ℕ → List ℕ → List ℕ → List ℕ → List ℕ → List ℕ → View
part_view n s k ls ks lv inn node_table state_table = record {
  n = n;
  s = s;
  k = k;
  labels = ls;
  kinds = ks;
  leaves = lv;
  inner = inn;
  node_table = node_table;
  state_table = state_table;
}

abbrev pub leaves_view : ℕ → ℕ → List ℕ → View
leaves_view s k lv = part_view 0 s k [] [] lv [] [] []

abbrev pub path_of : View → View
path_of X = path_view X.n X.s X.k X.labels X.inner X.node_table X.state_table

abbrev pub unmoved : Option ℕ → Option Reached
unmoved o = and_then o (λ q. some (reached q 0 0))

abbrev pub reached_in : Climbed → Option Reached
reached_in (To x) = some x
reached_in OutOfRange = none

pub record LastArgs (node_table es : List ℕ) (c : ℕ) : Type 0 where
  pub node : c ≤ node_limit
  pub room : c * node_columns + node_columns ≤ length node_table
  pub many : length es ≤ node_limit

pub record LabelArgs (ls vs bs : List ℕ) (v : ℕ) : Type 0 where
  pub node : v ≤ node_limit
  pub at : v < length ls
  pub same : length vs ≡ length bs
  pub many : length vs ≤ node_limit

pub record LeafArgs (s k : ℕ) (lv : List ℕ) : Type 0 where
  pub few : s ≤ state_limit
  pub room : k ≤ length lv

-- a state that was returned, by few links that passed over few nodes
pub record Few (s : ℕ) (x : Reached) : Type 0 where
  pub state : x.state < s
  pub links : x.links ≤ node_limit
  pub passed : x.passed ≤ node_limit

pub record JoinArgs (s k : ℕ) (inn : List ℕ) (left right : Climbed) : Type 0 where
  pub few : s ≤ state_limit
  pub labels : k ≤ label_limit
  pub room : s * k * s ≤ length inn
  pub left_few : (x : Reached) → reached_in left ≡ some x → Few s x
  pub right_few : (x : Reached) → reached_in right ≡ some x → Few s x

-- the entry at place `own`, if it is one, is a root among the nodes
pub record SideArgs (n s k : ℕ) (ls inn node_table state_table es qs : List ℕ) (c own : ℕ) : Type 0 where
  pub path : PathArgs n s k ls inn node_table state_table
  pub at : c < n
  pub same : length es ≡ length qs
  pub place : own ≤ length es
  pub inside : (i : ℕ) → own ≡ i + 1 → slice_index es i < n

pub record ForkArgs (n s k : ℕ) (ls inn node_table state_table es qs : List ℕ) (v l : ℕ) : Type 0 where
  pub path : PathArgs n s k ls inn node_table state_table
  pub at : v < n
  pub left : l < v
  pub same : length es ≡ length qs
  pub many : length es ≤ node_limit

pub record PartArgs (n s k : ℕ) (ls ks lv inn node_table state_table es qs vs bs : List ℕ) (v : ℕ) : Type 0 where
  pub path : PathArgs n s k ls inn node_table state_table
  pub at : v < n
  pub kinds_room : n ≤ length ks
  pub leaves_room : k ≤ length lv
  pub same : length es ≡ length qs
  pub many : length es ≤ node_limit
  pub same_list : length vs ≡ length bs
  pub many_list : length vs ≤ node_limit
