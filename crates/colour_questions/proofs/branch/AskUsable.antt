-- Tables that lead nowhere outside.
--     size_is, links_are, cells   what the node table and the numbers say
--     usable-in-range   where the numbers are as built, the states below S and state 0 in each copy: so 18 never comes
use Prim.Native.Nat.{ℕ, ◌+◌, ◌*◌, ◌<◌}
use mathlib.Core.Path.{◌≡◌, sym, subst}
use mathlib.Core.List.{List}
use native.Mathlib.Omega.{arith}
use native.Mathlib.Decide.{ℕ_discrete}
use lib.ListN.{take}
use Rattle.trees.specs.Tree.{Tree, size}
use Rattle.trees.specs.Numbering.{parent as above}
use Rattle.trees.proofs.NodeLaws.{up, parent-root}
use Rattle.formats.specs.Plan.{node_count, plan_tree}
use Rattle.formats.specs.Rules.{state_count, branch_automaton}
use Rattle.formats.proofs.PlanLaws.{size-plan_tree}
use Rattle.formats.proofs.InputLaws.{branch-table-passes}
use Rattle.tables.specs.node_tables.NodeCells.{NodeCells}
use Rattle.tables.proofs.node_tables.CellLaws.{link-cells}
use Rattle.colours.specs.Words.{word_step}
use Rattle.colour_tables.specs.ColourCells.{cell_table}
use Rattle.colour_tables.specs.AsBuilt.{ColourCells}
use Rattle.colour_tables.specs.Layout.{colour_numbers_of}
use Rattle.colour_tables.specs.OutOfRange.{ColourOutOfRange}
use Rattle.colour_tables.proofs.LayoutLaws.{numbers-cells}
use Rattle.colour_tables.proofs.InRange.{built-in-range}
use Rattle.colour_questions.specs.branch.OutOfRange.{BranchColoursOutOfRange, parent, colour, start, state}
use Rattle.colour_questions.specs.branch.Promise.{BranchColoursUsable}

module _ (p r node_table numbers bytes : List ℕ) (U : BranchColoursUsable p r node_table numbers bytes) where
  abbrev t : Tree
  t = plan_tree p

  abbrev step : ℕ → ℕ → ℕ
  step = word_step (branch_automaton r) (plan_tree p)

  pub size_is : size (plan_tree p) ≡ node_count p
  size_is = size-plan_tree p (branch-table-passes p r U.accepted).0

  pub links_are : NodeCells (plan_tree p) node_table
  links_are = link-cells t (node_count p) node_table (sym size_is) U.links

  pub cells : ColourCells (state_count r) (word_step (branch_automaton r) (plan_tree p)) (plan_tree p) numbers
  cells =
      numbers-cells (state_count r) step t numbers
      (subst (λ (n : ℕ). take (state_count r * (n * 4)) numbers ≡ colour_numbers_of (state_count r) step t) (sym size_is)
      U.numbers_are)

  parent-inside : (u : ℕ) → u < size (plan_tree p) → above t u < size (plan_tree p)
  parent-inside u h = elim (ℕ_discrete (u + 1) (size t)) [
    | yes e ↦ omega (arith, parent-root t u e)
    | no e ↦ (up t u (omega arith)).below
  ]

  pub usable-in-range : BranchColoursOutOfRange p r node_table numbers bytes → ⊥
  usable-in-range (parent u h o) =
      let i : u < size t = omega (arith, size_is) in omega (arith, links_are.parents u i, parent-inside u i, size_is)
  usable-in-range (colour o) =
      built-in-range (state_count r) step t numbers cells
      (subst (λ (n : ℕ). ColourOutOfRange n (state_count r) (cell_table n numbers)) (sym size_is) o)
  usable-in-range (start z h o) = omega (arith, U.starts z h)
  usable-in-range (state v c h b o) = omega (arith, U.below v c h b)
