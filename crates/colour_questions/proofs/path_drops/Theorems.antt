-- A branch question's descents on tables of colours as built.
--     upper-built, below-built   they are those by the tree's own colours, with the upper node and without it
use Prim.Native.Nat.{ℕ, ◌+◌, ◌<◌}
use mathlib.Core.Path.{◌≡◌}
use mathlib.Core.List.{List}
use mathlib.Core.Option.{some}
use native.Mathlib.Omega.{arith}
use native.Mathlib.Decide.{ℕ_discrete}
use borrow.Author.Tests.{eq-eqb, ne_eqb}
use Rattle.trees.specs.Tree.{Tree, size}
use Rattle.trees.specs.Automaton.{WordAutomaton}
use Rattle.trees.proofs.NodeLaws.{up}
use Rattle.colours.specs.Descents.{descend}
use Rattle.colours.specs.Words.{word_step, above_of, colour_above, colour_here, with_upper, below_upper}
use Rattle.colours.proofs.AgreeLaws.{PlaceIn}
use Rattle.colour_tables.proofs.BuiltLaws.{descend-built}
use Rattle.colour_tables.specs.ColourCells.{cell_table}
use Rattle.colour_tables.specs.AsBuilt.{ColourCells}

module _ (B : WordAutomaton) (t : Tree) (nums : List ℕ) (C : ColourCells B.states (word_step B t) t nums)
    (u l : ℕ) (hu : u < size t) (hl : l < size t) where
  above_in : PlaceIn (size t) (above_of t u)
  unfolding above_of
  above_in = elim (ℕ_discrete (u + 1) (size t)) [
    | yes e ↦ rw (eq-eqb (u + 1) (size t) e) tt
    | no e ↦ rw (ne_eqb (u + 1) (size t) e) (up t u (omega arith)).below
  ]

  pub upper-built : colour_above B t u < B.states
      → descend (cell_table (size t) nums) (colour_above B t u) (above_of t u) l (colour_above B t u) ≡ with_upper B t u l
  unfolding with_upper
  upper-built b =
      descend-built B.states (word_step B t) t nums C (colour_above B t u) (above_of t u) l
      (colour_above B t u) hl b above_in

  pub below-built : colour_here B t u < B.states
      → descend (cell_table (size t) nums) (colour_here B t u) (some u) l (colour_here B t u) ≡ below_upper B t u l
  unfolding below_upper
  below-built b =
      descend-built B.states (word_step B t) t nums C (colour_here B t u) (some u) l (colour_here B t u) hl b hu
