-- What the answers by colours are, on the tree's own colours.
--
-- WordAnswer B t l w o == the descent o ends with the state of the word automaton B after the word w, with few drops,
--   each found by few links
-- SetAnswer A t c w k q == the climb's state is found by trying target states, with the drops of every trial up to it
use Rattle.std.specs.Prelude.{ℕ, ◌-◌, ◌*◌, ◌≤◌, ◌≡◌, List, suc, length}
use Rattle.std.proofs.Math.Option.{Option, some}
use Rattle.trees.specs.Tree.{Tree, height}
use Rattle.trees.specs.Automaton.{WordAutomaton, word_run}
use Rattle.trees.specs.Climb.{digits}
use Rattle.colours.specs.Descents.{Descent, drops}
use Rattle.colours.specs.Words.{word_state}
use Rattle.colours.specs.Descents.{AllLe}
use Rattle.trees.specs.Automaton.{Automaton}
use Rattle.trees.specs.Climb.{walk}
use Rattle.trees.specs.Tables.{step_up}
use Rattle.colours.specs.StateSets.{tried, try_targets, trial_drops, drops_from}

-- the answer of the word automaton on the word w, with few drops, each found by few links
pub record WordAnswer (B : WordAutomaton) (t : Tree) (l : ℕ) (w : List ℕ) (o : Option Descent) : Type 0 where
  pub way : Descent
  pub found : o ≡ some way
  pub state : word_state B t l way ≡ word_run B 0 w
  pub falls : drops way ≤ B.states - 1
  pub few : AllLe (3 * digits (height t)) way.searches

-- "the state its climb gives is found by trying target states in rising order up to it, and the drops add up to at
-- most 60"
pub record SetAnswer (A : Automaton) (t : Tree) (c w k q : ℕ) : Type 0 where
  pub searches : List ℕ
  pub found : try_targets A t c w q ≡ some (tried (walk (step_up A t) t w k q) searches)
  -- the drops of every trial up to it
  pub drops_are : length searches ≡ drops_from (trial_drops A t c w k) 0 (suc (walk (step_up A t) t w k q))
  pub falls : length searches ≤ 60
  pub few : AllLe (3 * digits (height t)) searches
