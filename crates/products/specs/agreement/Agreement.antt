-- When two rule tables agree, and what separates them (document 02, S-13).
--
-- Agree A B k == every plan of k labels (PlanOf) gets yes from both or no from both; its size and depth have no limit
-- Differ A B k t == t is a plan of k labels that gets yes from one and no from the other
-- LeastHeight A B k t == no such plan has less height than t
-- Separates A B k xs == xs are 1 to 256 good lines, and their tree is such a plan, of least height
--
-- Labels from k on are left out on purpose: see products, specs/Plans.
use Rattle.std.specs.Prelude.{ℕ, ◌≤◌, ◌≡◌, List, length}
use Rattle.trees.specs.Tree.{Tree, height}
use Rattle.trees.specs.Automaton.{Automaton, accepts}
use Rattle.products.specs.Plans.{PlanOf}
use Rattle.products.specs.agreement.Lines.{pair_limit, Line, GoodLines, lines_tree}

-- "Two tables agree when every plan, of any size, gets yes from both or no from both."
abbrev pub Agree : Automaton → Automaton → ℕ → Type 0
Agree A B k = (t : Tree) → PlanOf k t → accepts A t ≡ accepts B t

pub record Differ (A B : Automaton) (k : ℕ) (t : Tree) : Type 0 where
  pub a_plan : PlanOf k t
  pub differs : accepts A t ≡ accepts B t → ⊥

abbrev pub LeastHeight : Automaton → Automaton → ℕ → Tree → Type 0
LeastHeight A B k t = (u : Tree) → Differ A B k u → height t ≤ height u

-- "a separating plan as at most 256 lines, .. the last line is the root"
pub record Separates (A B : Automaton) (k : ℕ) (xs : List Line) : Type 0 where
  pub some_lines : 1 ≤ length xs
  pub at_most : length xs ≤ pair_limit
  pub good : GoodLines k 0 xs
  pub differ : Differ A B k (lines_tree xs)
  pub least : LeastHeight A B k (lines_tree xs)
