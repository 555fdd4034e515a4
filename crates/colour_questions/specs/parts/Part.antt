-- One part of a rule question by colours, for any inputs.
--
-- ColourView == the inputs: plan, rules and tables cut into their runs, and the numbers and copies of the colours
-- Sides == of these what the children of a root read; sides_of n s m state_table numbers copies == that of given runs,
--   with m sets in each copy
-- colour_from Y c f == the state at child c by the trials from the root f found below it
-- side_tried Y c f g == the state at child c, where f is the root found below it and g the one below its sibling
-- join_tried X a x y == the rule for the states of both children, with the searches of both
-- part_tried L es qs vs bs v == the part of root v, where the roots es, of states qs, were handled before; none (18)
--   where a value read leads outside the plan, the states or the labels, a search does not rise, or no target state is
--   found
-- handled_from L vs bs es qs r ms == the parts of the roots ms, one after the other: the state of the last, and the
--   searches of all; es and qs are the roots handled before and their states, r what came of them
--
-- Roots, labels and run states are those of a question in the session (crate questions, Part); only the climbs are not.
use Rattle.std.specs.Prelude.{ℕ, ◌-◌, ◌^◌, cond, ◌&&◌, List, [], ◌∷◌, ◌++◌, leb, ltb, eqb, get_or}
use Rattle.std.proofs.Math.Option.{Option, none, some}
use Rattle.trees.specs.Climb.{and_then}
use Rattle.tables.specs.node_tables.Cells.{size_cell}
use Rattle.tables.specs.Climbs.{View, below, run_on, rule_on}
use Rattle.tables.specs.inner.PathViews.{rules_view, states_view}
use Rattle.questions.specs.Part.{Found, found_below, label_on}
use Rattle.colours.specs.Descents.{ColourTable}
use Rattle.colours.specs.StateSets.{Tried, tried, try_from}
use Rattle.colour_tables.specs.ColourCells.{copy_row, cell_table}

pub record ColourView : Type 0 where
  pub view : View
  pub numbers : List ℕ
  pub copies : List ℕ

-- ---- the children of a root

pub record Sides : Type 0 where
  pub s : ℕ
  pub state_table : List ℕ
  pub table : ColourTable
  pub copies : ℕ → List ℕ

abbrev pub sides_of : ℕ → ℕ → ℕ → List ℕ → List ℕ → List ℕ → Sides
sides_of n s m state_table numbers copies =
    record { s = s; state_table = state_table; table = cell_table n numbers; copies = copy_row m copies }

abbrev pub sides_in : ColourView → Sides
sides_in L = sides_of L.view.n L.view.s (2 ^ L.view.s) L.view.state_table L.numbers L.copies

abbrev pub untried : Option ℕ → Option Tried
untried o = and_then o (λ q. some (tried q []))

-- "where a part has members below one child only, the state its climb gives is found by trying target states in rising
-- order up to it"
unfoldable pub colour_from : Sides → ℕ → Found → Option Tried
colour_from Y c f = and_then (below Y.s f.state) (λ q. try_from Y.table Y.copies c f.node q Y.s 0)

-- "A member with no member below takes its children's states from the run. With members below both children it takes
-- theirs."
unfoldable pub side_tried : Sides → ℕ → Option Found → Option Found → Option Tried
side_tried Y c none g = untried (run_on (states_view Y.s Y.state_table) c)
side_tried Y c (some f) none = colour_from Y c f
side_tried Y c (some f) (some g) = untried (below Y.s f.state)

-- ---- a part

unfoldable pub join_tried : View → ℕ → Option Tried → Option Tried → Option Tried
join_tried X a x y =
    and_then x (λ l. and_then y (λ r. and_then (rule_on X l.state a r.state) (λ q.
    some (tried q (l.searches ++ r.searches)))))

unfoldable pub fork_tried : Sides → ℕ → List ℕ → List ℕ → List ℕ → List ℕ → ℕ → ℕ → ℕ → Option Tried
fork_tried Y k inner node_table es qs v l a =
    join_tried (rules_view Y.s k inner) a
    (side_tried Y l (found_below node_table l es qs) (found_below node_table (v - 1) es qs))
    (side_tried Y (v - 1) (found_below node_table (v - 1) es qs) (found_below node_table l es qs))

unfoldable pub leaf_tried : ℕ → ℕ → List ℕ → ℕ → Option Tried
leaf_tried s k leaves a = cond (ltb a k) (untried (below s (get_or leaves a 0))) none

unfoldable pub part_tried : ColourView → List ℕ → List ℕ → List ℕ → List ℕ → ℕ → Option Tried
part_tried L es qs vs bs v =
    let X : View = L.view in
    cond (eqb (get_or X.kinds v 0) 0)
    (leaf_tried X.s X.k X.leaves (label_on X vs bs v))
    (cond (ltb 0 v && leb (size_cell X.node_table (v - 1)) (v - 1))
    (fork_tried (sides_in L) X.k X.inner X.node_table es qs v (v - 1 - size_cell X.node_table (v - 1))
    (label_on X vs bs v))
    none)

-- "parts are handled in rising node number"
unfoldable pub handled_from : ColourView → List ℕ → List ℕ → List ℕ → List ℕ → Tried → List ℕ → Option Tried
handled_from L vs bs es qs r [] = some r
handled_from L vs bs es qs r (v ∷ ms) =
    and_then (part_tried L es qs vs bs v) (λ p.
    handled_from L vs bs (es ++ (v ∷ [])) (qs ++ (p.state ∷ [])) (tried p.state (r.searches ++ p.searches)) ms)
