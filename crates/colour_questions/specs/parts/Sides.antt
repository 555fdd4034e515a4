-- The side of a part with members below one child only, by colours.
--
-- side_tried G ms ps c == the trials of target states at child c, from the highest member below c and its state among
--   the parts ps
-- SideFound G ms ps c == they find the state that the part's climb gives, with at most 60 drops, each found by few
--   links
use Rattle.std.specs.Prelude.{ℕ, ◌*◌, ◌≤◌, ◌≡◌, List, length}
use Rattle.std.proofs.Math.Option.{Option, some}
use Rattle.trees.specs.Tree.{height}
use Rattle.trees.specs.Climb.{digits}
use Rattle.questions.specs.ready.Parts.{Given, Part, state_of, highest_below, climbed_state}
use Rattle.colours.specs.StateSets.{Tried, tried, try_targets}
use Rattle.colours.specs.Descents.{AllLe}

abbrev pub side_tried : Given → List ℕ → List Part → ℕ → Option Tried
side_tried G ms ps c =
    try_targets G.automaton G.tree c (highest_below ms G.tree c) (state_of ps (highest_below ms G.tree c))

pub record SideFound (G : Given) (ms : List ℕ) (ps : List Part) (c : ℕ) : Type 0 where
  pub searches : List ℕ
  pub found : side_tried G ms ps c ≡ some (tried (climbed_state G ms ps c) searches)
  pub falls : length searches ≤ 60
  pub few : AllLe (3 * digits (height G.tree)) searches
