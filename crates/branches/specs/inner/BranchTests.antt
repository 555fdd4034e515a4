-- What the comparisons of the caller's table with a branch table's build return.
--
-- StepsTested .. r == r is whether the state bytes are the automaton's, for every tree and automaton so given
-- MapsTested .. r == the same of the maps
-- TablesTested .. r == r is whether both buffers begin with the tables of the tree of these labels and kinds, for any
--   marks
use Rattle.std.specs.Prelude.{ℕ, ◌≡◌, Bool, List}
use Rattle.trees.specs.Tree.{Tree, kinds_of, labels_of}
use Rattle.trees.specs.Automaton.{WordAutomaton}
use Rattle.trees.specs.Tables.{node_table_of, branch_state, branch_map, branch_table_of}
use Rattle.formats.specs.Rules.{word_automaton}
use Rattle.tables.specs.Answers.{same_tables}
use Rattle.tables.specs.inner.TableTests.{states_same, maps_same}
use Rattle.branches.specs.inner.BranchGiven.{BranchGiven}

abbrev pub StepsTested : List ℕ → List ℕ → List ℕ → ℕ → ℕ → ℕ → List ℕ → Bool → Type 0
StepsTested ls node_table st s k n b r =
    (B : WordAutomaton) (t : Tree) → BranchGiven B t ls node_table st s k n → r ≡ states_same s n (branch_state B t) b

abbrev pub MapsTested : List ℕ → List ℕ → List ℕ → ℕ → ℕ → ℕ → List ℕ → Bool → Type 0
MapsTested ls node_table st s k n b r =
    (B : WordAutomaton) (t : Tree) → BranchGiven B t ls node_table st s k n → r ≡ maps_same s n (branch_map B t) b

abbrev pub TablesTested : List ℕ → List ℕ → List ℕ → ℕ → ℕ → List ℕ → List ℕ → Bool → Type 0
TablesTested ls ks st s k node_table b r =
    (mk : List ℕ) (t : Tree) → kinds_of t ≡ ks → labels_of t ≡ ls
    → r ≡ same_tables (node_table_of t) (branch_table_of (word_automaton s k st mk) t) node_table b
