-- On numbers as built a descent is the one by the tree's own colours.
--     descend-built   so from any copy, for any number of drops
use Prim.Native.Nat.{ℕ, ◌<◌}
use mathlib.Core.Path.{◌≡◌, refl}
use mathlib.Core.List.{List}
use Rattle.trees.specs.Tree.{Tree, size}
use Rattle.colours.specs.Descents.{Place, descend, colour_table_of}
use Rattle.colours.proofs.AgreeLaws.{SameColour, PlaceIn, descend-agree}
use Rattle.colour_tables.specs.ColourCells.{cell_table}
use Rattle.colour_tables.specs.AsBuilt.{ColourCells}

module _ (n : ℕ) (step : ℕ → ℕ → ℕ) (t : Tree) (nums : List ℕ) (C : ColourCells n step t nums) where
  same-colour : (c : ℕ) → 0 < c → c < n
      → SameColour (size t) ((cell_table (size t) nums).forest c) ((colour_table_of n step t).forest c)
      ((cell_table (size t) nums).lands c) ((colour_table_of n step t).lands c)
  same-colour c p b = record {
    agree = record {
      nodes = refl;
      parents = λ v h. (C c p b v h).parents;
      jumps = λ v h. (C c p b v h).jumps;
      depths = λ v h. (C c p b v h).depths;
    };
    nodes = refl;
    lands = λ v h. (C c p b v h).lands;
  }

  pub descend-built : (f : ℕ) (z : Place) (l c : ℕ) → l < size t → c < n → PlaceIn (size t) z
      → descend (cell_table (size t) nums) f z l c ≡ descend (colour_table_of n step t) f z l c
  descend-built f z l c h b i =
      descend-agree (size t) n (cell_table (size t) nums) (colour_table_of n step t) same-colour l h f z c b i
