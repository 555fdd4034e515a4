-- One part of a question, for any inputs.
--
-- Found == a root handled before, with its state; found_below node_table c es qs == the last of the roots es, of states
--   qs, that is c or below it, by the given size of c
-- label_on X vs bs v == the label of node v as changed by the list
-- side_on X t c f == the state at child c, at depth t: its run state where no root is below, else the climb from the found one
-- inner_on X t l r a == the part of an inner node at depth t - 1 with children l and r and label a
-- part_on X es qs vs bs v == the part of root v, where the roots es, of states qs, were handled before; none (18) where a value read
--   leads outside the plan, the states or the labels, or a climb does not rise
use Rattle.std.specs.Prelude.{ℕ, ◌+◌, ◌-◌, cond, ◌&&◌, List, [], ◌∷◌, ◌==◌, nat_le, nat_lt, slice_index}
use Rattle.std.proofs.Math.Option.{Option, none, some}
use Rattle.trees.specs.Changes.{changed}
use Rattle.trees.specs.Climb.{and_then}
use Rattle.tables.specs.node_tables.Cells.{depth_cell, size_cell}
use Rattle.tables.specs.node_tables.Cells.{is_in_subtree_on}
use Rattle.tables.specs.declared.answers.Reached.{Reached}
use Rattle.tables.specs.Climbs.{View, below, run_on, rule_on, reached, climb_on}

pub record Found : Type 0 where
  pub node : ℕ
  pub state : ℕ

abbrev pub found : ℕ → ℕ → Found
found v q = record { node = v; state = q }

unfoldable pub last_found : List ℕ → ℕ → List ℕ → List ℕ → Option Found → Option Found
last_found node_table c [] qs f = f
last_found node_table c (e ∷ es) [] f = f
last_found node_table c (e ∷ es) (q ∷ qs) f = last_found node_table c es qs (cond (is_in_subtree_on node_table c e) (some (found e q)) f)

abbrev pub found_below : List ℕ → ℕ → List ℕ → List ℕ → Option Found
found_below node_table c es qs = last_found node_table c es qs none

unfoldable pub label_on : View → List ℕ → List ℕ → ℕ → ℕ
label_on X vs bs v = slice_index (changed X.labels vs bs) v

-- the climb from the found root to depth t
unfoldable pub climb_from : View → ℕ → Found → Option Reached
climb_from X t f = and_then (below X.s f.state) (λ q. climb_on X f.node t q)

unfoldable pub run_reached : View → ℕ → Option Reached
run_reached X c = and_then (run_on X c) (λ x. some (reached x 0 0))

unfoldable pub own_reached : View → Found → Option Reached
own_reached X f = and_then (below X.s f.state) (λ q. some (reached q 0 0))

unfoldable pub join_on : View → ℕ → Option Reached → Option Reached → Option Reached
join_on X a x y =
    and_then x (λ l. and_then y (λ r. and_then (rule_on X l.state a r.state) (λ q.
    some (reached q (l.links + r.links) (l.passed + r.passed)))))

-- "A member with no member below takes its children's states from the run. With members below both children it takes theirs. With
-- members below one child only, .. climb from w to depth(v)+1 and use the other child's run state."
unfoldable pub inner_on : View → ℕ → ℕ → ℕ → ℕ → Option Found → Option Found → Option Reached
inner_on X t l r a none none = join_on X a (run_reached X l) (run_reached X r)
inner_on X t l r a (some f) none = join_on X a (climb_from X t f) (run_reached X r)
inner_on X t l r a none (some g) = join_on X a (run_reached X l) (climb_from X t g)
inner_on X t l r a (some f) (some g) = join_on X a (own_reached X f) (own_reached X g)

unfoldable pub leaf_on : View → ℕ → Option Reached
leaf_on X a = cond (nat_lt a X.k) (and_then (below X.s (slice_index X.leaves a)) (λ q. some (reached q 0 0))) none

unfoldable pub fork_on : View → List ℕ → List ℕ → ℕ → ℕ → ℕ → Option Reached
fork_on X es qs v l a =
    inner_on X (depth_cell X.node_table v + 1) l (v - 1) a (found_below X.node_table l es qs) (found_below X.node_table (v - 1) es qs)

unfoldable pub part_on : View → List ℕ → List ℕ → List ℕ → List ℕ → ℕ → Option Reached
part_on X es qs vs bs v =
    cond (slice_index X.kinds v == 0)
    (leaf_on X (label_on X vs bs v))
    (cond (nat_lt 0 v && nat_le (size_cell X.node_table (v - 1)) (v - 1))
    (fork_on X es qs v (v - 1 - size_cell X.node_table (v - 1)) (label_on X vs bs v))
    none)
