-- The state bytes of a table of states: what the loop that writes them leaves, and what it needs.
--
-- RuleRuns s k lv inn == leaf states and inner states of s states and k labels, within the limits; past a run's end
--   the state is 0
-- Sizes ks b == the table of links b has the sizes of the tree with kinds ks
-- RunWritten A t i before after == the state bytes of the nodes below i are the run's, and no byte but a state byte is changed
-- Runs s k lv inn ks ls i before after == that, for the tree with kinds ks and labels ls, for any marks
-- RunWrittenTo A t i e before after == the state bytes of the leaves below e are the run's, and of the inner nodes below e
--   those
--   below i; RunsTo == that, for the tree with kinds ks and labels ls
-- Leaves s lv ls b e before after == the state bytes of b, .. e - 1 are those of leaves with their labels
-- BlockRun .. b e before after == the nodes b, .. e - 1 have their states, for any initial buffer
-- StateArgs == what run_states needs; LeafArgs, RunBlockArgs == what its parts need
-- inner_state == the rule at an inner node, from its children's state bytes; RuleArgs, InnerArgs == what it needs
use Rattle.std.specs.Prelude.{ℕ, ◌+◌, ◌-◌, ◌*◌, ◌≤◌, ◌<◌, ◌≡◌, true, List, length, get_or}
use Rattle.trees.specs.Tree.{Tree, kinds_of, labels_of, size}
use Rattle.trees.specs.Automaton.{Automaton, state}
use Rattle.trees.specs.Numbering.{sub}
use Rattle.trees.specs.Postorder.{is_postorder}
use Rattle.formats.specs.Layout.{node_columns}
use Rattle.formats.specs.Limits.{node_limit, state_limit, label_limit}
use Rattle.formats.specs.inner.InnerChecks.{RuleArgs}
use Rattle.formats.specs.Rules.{tree_automaton}
use Rattle.formats.specs.Checks.{node_table_length, state_table_length}
use Rattle.tables.specs.node_tables.inner.UpPass.{left_of}
use Rattle.tables.specs.node_tables.Cells.{size_cell}
use Rattle.tables.specs.StateCells.{state_cell}

pub record RuleRuns (s k : ℕ) (lv inn : List ℕ) : Type 0 where
  pub few : s ≤ state_limit
  pub labels : k ≤ label_limit
  pub leaf_count : length lv ≡ k
  pub inner_count : length inn ≡ s * k * s
  pub leaf_below : (j : ℕ) → get_or lv j 0 < s
  pub inner_below : (j : ℕ) → get_or inn j 0 < s

abbrev pub Sizes : List ℕ → List ℕ → Type 0
Sizes ks b = (t : Tree) → kinds_of t ≡ ks → (v : ℕ) → v < size t → size_cell b v ≡ size (sub t v)

pub record RunWritten (A : Automaton) (t : Tree) (i : ℕ) (before after : List ℕ) : Type 0 where
  pub states : (v : ℕ) → v < i → state_cell A.states after v ≡ state A (sub t v)
  pub kept : (j : ℕ) → ((v : ℕ) → v < size t → j ≡ v * (A.states + 1) → ⊥) → get_or after j 0 ≡ get_or before j 0

abbrev pub Runs : ℕ → ℕ → List ℕ → List ℕ → List ℕ → List ℕ → ℕ → List ℕ → List ℕ → Type 0
Runs s k lv inn ks ls i before after =
    (mk : List ℕ) (t : Tree) → kinds_of t ≡ ks → labels_of t ≡ ls → RunWritten (tree_automaton s k lv inn mk) t i before after

pub record StateArgs (ks ls b lv inn : List ℕ) (s k m : ℕ) : Type 0 where
  pub postorder : is_postorder ks ≡ true
  pub count : length ls ≡ length ks
  pub most : length ks ≤ node_limit
  pub below : (j : ℕ) → get_or ls j 0 < k
  pub link_room : node_table_length (length ks) ≤ length b
  pub sizes : Sizes ks b
  pub rules : RuleRuns s k lv inn
  pub room : state_table_length (length ks) s ≤ m

-- ---- a block of nodes: all as leaves, then the inner ones

pub record RunWrittenTo (A : Automaton) (t : Tree) (i e : ℕ) (before after : List ℕ) : Type 0 where
  pub states : (v : ℕ) → v < e → ((get_or (kinds_of t) v 0 ≡ 0 → ⊥) → v < i)
      → state_cell A.states after v ≡ state A (sub t v)
  pub kept : (j : ℕ) → ((v : ℕ) → v < size t → j ≡ v * (A.states + 1) → ⊥) → get_or after j 0 ≡ get_or before j 0

abbrev pub RunsTo : ℕ → ℕ → List ℕ → List ℕ → List ℕ → List ℕ → ℕ → ℕ → List ℕ → List ℕ → Type 0
RunsTo s k lv inn ks ls i e before after =
    (mk : List ℕ) (t : Tree) → kinds_of t ≡ ks → labels_of t ≡ ls
    → RunWrittenTo (tree_automaton s k lv inn mk) t i e before after

pub record Leaves (s : ℕ) (lv ls : List ℕ) (b e : ℕ) (before after : List ℕ) : Type 0 where
  pub cells : (v : ℕ) → b ≤ v → v < e → state_cell s after v ≡ get_or lv (get_or ls v 0) 0
  pub kept : (j : ℕ) → ((v : ℕ) → b ≤ v → v < e → j ≡ v * (s + 1) → ⊥) → get_or after j 0 ≡ get_or before j 0

pub record LeafArgs (ls lv : List ℕ) (s b e m : ℕ) : Type 0 where
  pub few : s ≤ state_limit
  pub order : b ≤ e
  pub inside : e ≤ length ls
  pub label : (j : ℕ) → get_or ls j 0 < length lv
  pub room : state_table_length (length ls) s ≤ m

abbrev pub BlockRun : ℕ → ℕ → List ℕ → List ℕ → List ℕ → List ℕ → ℕ → ℕ → List ℕ → List ℕ → Type 0
BlockRun s k lv inn ks ls b e before after =
    (first : List ℕ) → Runs s k lv inn ks ls b first before → Runs s k lv inn ks ls e first after

pub record RunBlockArgs (ks ls b lv inn : List ℕ) (s k from to m : ℕ) (st : List ℕ) : Type 0 where
  pub args : StateArgs ks ls b lv inn s k (length st)
  pub first : List ℕ
  pub done : Runs s k lv inn ks ls from first st
  pub order : from ≤ to
  pub inside : to ≤ length ks
  pub fits : to ≤ from + m

-- ---- an inner node

abbrev pub inner_state : List ℕ → List ℕ → List ℕ → ℕ → ℕ → ℕ → ℕ → ℕ
inner_state b st inn s k v a = get_or inn ((state_cell s st (left_of b v) * k + a) * s + state_cell s st (v - 1)) 0

pub record InnerArgs (b st inn : List ℕ) (s k v a : ℕ) : Type 0 where
  pub pos : 0 < v
  pub few : s ≤ state_limit
  pub room : v * node_columns ≤ length b
  pub right : size_cell b (v - 1) < v
  pub left_in : left_of b v * (s + 1) < length st
  pub right_in : (v - 1) * (s + 1) < length st
  pub rule : RuleArgs inn s k (state_cell s st (left_of b v)) a (state_cell s st (v - 1))
