-- What the rule of a part reads, where it is the run's own.
--
-- RunGiven G u == the states and maps given are those of the run over the tree given, and the labels those of tree u,
--   the plan's tree with the listed labels changed
use Rattle.std.specs.Prelude.{◌≡◌, ℕ, ◌<◌}
use Rattle.trees.specs.Tree.{Tree, size, labels_of}
use Rattle.trees.specs.Automaton.{state}
use Rattle.trees.specs.Numbering.{sub}
use Rattle.trees.specs.Tables.{state_map}
use Rattle.questions.specs.ready.Parts.{Given}

pub record RunGiven (G : Given) (u : Tree) : Type 0 where
  pub labels : G.labels ≡ labels_of u
  pub states : (v : ℕ) → v < size G.tree → G.run_state v ≡ state G.automaton (sub G.tree v)
  pub maps : (v q : ℕ) → v < size G.tree → q < G.automaton.states → G.map_state v q ≡ state_map G.automaton G.tree v q
