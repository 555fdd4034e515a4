-- What the model takes from the questions layer: two facts about a node table as built.
--     Handled s rs ps              parts of the first of the roots rs, with any states below s
--     next_root rs ps               the root of the part after ps
--     Layers                       the facts
-- They are stated with what the questions layer defines (part_on) and what document 01 means (roots, part_of), and ask no more
-- than the calls' checks and the reference model give: the states before may be any below S, those of the state table too.
use Prim.Native.Nat.{ℕ, ◌<◌}
use mathlib.Core.Path.{◌≡◌}
use mathlib.Core.Bool.{true}
use mathlib.Core.List.{List}
use mathlib.Core.Option.{some}
use lib.ListN.{length, get_or, take}
use Rattle.list_laws.specs.Tests.{all_below}
use Rattle.formats.specs.Inputs.{Inputs, Sizes, node_table_built}
use Rattle.questions.specs.ready.Parts.{Part, nodes_of, states_of, part_of}
use Rattle.questions.specs.Part.{part_on}
use Rattle.questions.specs.Promises.{RootsAre}
use Rattle.model.specs.Model.{roots_in}
use Rattle.questions.specs.PartInputs.{view_by, given_of, reached_by, SettledInputs}

pub record Handled (s : ℕ) (rs : List ℕ) (ps : List Part) : Type 0 where
  pub nodes : nodes_of ps ≡ take (length ps) rs
  pub states : all_below s (states_of ps) ≡ true

abbrev pub next_root : List ℕ → List Part → ℕ
next_root rs ps = get_or rs (length ps) 0

pub record Layers : Type 0 where
  -- the roots of a list rise to the plan's root and are few
  pub roots-are : (z : Sizes) (x : Inputs) (vs : List ℕ) → node_table_built z x ≡ true → all_below z.n vs ≡ true
      → RootsAre z.n (length vs) (roots_in x vs)
  -- "an advance goes on as always and stores and counts what this rule gives on those bytes", for any nodes ws as W
  pub part-built : (z : Sizes) (y : Inputs) (vs bs : List ℕ) (x : Inputs) (ws : List ℕ) (ps : List Part) → SettledInputs z y vs bs x
      → Handled z.s (roots_in y ws) ps → length ps < length (roots_in y ws)
      → part_on (view_by z x) (take (length ps) (roots_in y ws)) (states_of ps) vs bs (next_root (roots_in y ws) ps)
      ≡ some (reached_by (part_of (given_of z y x vs bs) (roots_in y ws) ps (next_root (roots_in y ws) ps)))
