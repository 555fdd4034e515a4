-- "where a part has members below one child only, the state its climb gives is found by trying target states in
-- rising order up to it, and the drops add up to at most 60 for each such part"
--     side-found    so on the run's own states and maps, for up to four states
use Prim.Native.Nat.{ℕ, ◌-◌, ◌≤◌, ◌<◌}
use mathlib.Core.Path.{sym, ap, ◌∙◌}
use mathlib.Core.List.{List}
use mathlib.Core.Option.{some}
use native.Mathlib.Omega.{arith}
use Rattle.trees.specs.Tree.{Tree, size}
use Rattle.trees.specs.Numbering.{depth, InSubtree}
use Rattle.trees.proofs.IntervalLaws.{interval-ancestor, above_at}
use Rattle.questions.specs.ready.Parts.{Given, Part, state_of, highest_below, climbed_state}
use Rattle.questions.specs.ready.StaysInside.{StaysInside}
use Rattle.questions.proofs.ready.PartsRun.{climb-walk}
use Rattle.questions.specs.ready.RunGiven.{RunGiven}
use Rattle.colours.specs.StateSets.{tried}
use Rattle.colours.proofs.Theorems.{set-targets}
use Rattle.colours.specs.Answers.{SetAnswer}
use Rattle.colour_questions.specs.parts.Sides.{SideFound}

module _ (G : Given) (u : Tree) (R : RunGiven G u) (S : StaysInside G.automaton)
    (few : G.automaton.states ≤ 4) where
  -- h, the highest member below c, is in the subtree of c and has a state
  pub side-found : (ms : List ℕ) (ps : List Part) (c : ℕ) → c < size G.tree
      → highest_below ms G.tree c < size G.tree → InSubtree G.tree c (highest_below ms G.tree c)
      → state_of ps (highest_below ms G.tree c) < G.automaton.states → SideFound G ms ps c
  unfolding climbed_state
  side-found ms ps c hc hh w b =
      let t : Tree = G.tree in
      let h : ℕ = highest_below ms t c in
      let q : ℕ = state_of ps h in
      let k : ℕ = depth t h - depth t c in
      let a = above_at t c h hh (interval-ancestor t c h hc hh w) in
      let T : SetAnswer G.automaton t c h k q =
      set-targets G.automaton t S.next few c h k q hh (omega arith) a.1 b in
      record {
        searches = T.searches;
        found = T.found ∙ ap (λ (x : ℕ). some (tried x T.searches)) (sym (climb-walk G u R S h c q hh a.0 b));
        falls = T.falls;
        few = T.few;
      }
