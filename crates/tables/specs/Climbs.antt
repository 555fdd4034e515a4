-- The climb of a part, on any inputs.
--
-- View == the inputs, cut into runs by N, S and K; view_of n s k plan rules node_table bytes == that of these slices
-- below s q == q where it is a state, none where it is not below s
-- run_on X v == the run state of node v in the state table
-- rule_on X p a q == the rule for left p, label a, right q; none where a is no label or the result no state
-- sibling_on X v p == the other child of v's parent p, by the table's size of v; none where it would be outside the plan
-- move_on X m q == what one move makes of state q; none where a value read leads outside the plan, the states or the labels
-- climb_on X h t q == the climb from node h with state q to depth t: the state reached, the links and, by the table's
--   depths, the nodes passed over; none as for a move, or where it does not rise
-- climbed_of o == that as an answer, OutOfRange for none; climbed_number a == document 01's number of an answer: 18 for OutOfRange
--
-- Not here: which climbs a part makes (crate questions, Part). N, S and K are the caller's (in the session the record's); no header is read.
use Rattle.std.specs.Prelude.{ℕ, ◌+◌, ◌-◌, ◌*◌, cond, List, leb, ltb, eqb, length, get_or, take, drop}
use Rattle.std.proofs.Math.Option.{Option, none, some}
use Rattle.trees.specs.Climb.{Move, via_jump, to_parent, and_then, climb, carry}
use Rattle.trees.specs.Passed.{passed_by}
use Rattle.formats.specs.Layout.{plan_head, rules_head}
use Rattle.tables.specs.node_tables.Cells.{parent_cell, size_cell, cell_forest}
use Rattle.tables.specs.declared.answers.Reached.{Reached}
use Rattle.tables.specs.declared.answers.Climbed.{Climbed}
use Rattle.tables.specs.declared.answers.Climbed.TheVariants.{Reached as To, OutOfRange}
use Rattle.tables.specs.StateCells.{state_cell, map_cell}

pub record View : Type 0 where
  pub n : ℕ
  pub s : ℕ
  pub k : ℕ
  pub labels : List ℕ
  pub kinds : List ℕ
  pub leaves : List ℕ
  pub inner : List ℕ
  pub node_table : List ℕ
  pub state_table : List ℕ

abbrev pub view_of : ℕ → ℕ → ℕ → List ℕ → List ℕ → List ℕ → List ℕ → View
view_of n s k plan rules node_table state_table = record {
  n = n;
  s = s;
  k = k;
  labels = take n (drop plan_head plan);
  kinds = take n (drop (plan_head + n) plan);
  leaves = take k (drop rules_head rules);
  inner = take (s * k * s) (drop (rules_head + k) rules);
  node_table = node_table;
  state_table = state_table;
}

unfoldable pub below : ℕ → ℕ → Option ℕ
below s q = cond (ltb q s) (some q) none

unfoldable pub run_on : View → ℕ → Option ℕ
run_on X v = below X.s (state_cell X.s X.state_table v)

unfoldable pub rule_on : View → ℕ → ℕ → ℕ → Option ℕ
rule_on X p a q = cond (ltb a X.k) (below X.s (get_or X.inner ((p * X.k + a) * X.s + q) 0)) none

unfoldable pub sibling_on : View → ℕ → ℕ → Option ℕ
sibling_on X v p =
    cond (eqb (v + 1) p)
    (cond (leb (size_cell X.node_table v) v) (some (v - size_cell X.node_table v)) none)
    (cond (ltb 0 p) (some (p - 1)) none)

-- "In a climb a jump applies the map, and a move to the parent applies the parent's label and the other child's run state."
unfoldable pub parent_on : View → ℕ → ℕ → ℕ → Option ℕ
parent_on X v p q =
    and_then (sibling_on X v p) (λ u.
    and_then (run_on X u) (λ x.
    cond (eqb (v + 1) p) (rule_on X x (get_or X.labels p 0) q) (rule_on X q (get_or X.labels p 0) x)))

unfoldable pub move_on : View → Move → ℕ → Option ℕ
move_on X (via_jump v) q = below X.s (map_cell X.s X.state_table v q)
move_on X (to_parent v) q = parent_on X v (parent_cell X.node_table v) q

abbrev pub reached : ℕ → ℕ → ℕ → Reached
reached q n p = record { state = q; links = n; passed = p }

unfoldable pub climb_on : View → ℕ → ℕ → ℕ → Option Reached
climb_on X h t q =
    and_then (climb (cell_forest X.n X.node_table) h t) (λ ms.
    and_then (carry (move_on X) ms q) (λ x.
    some (reached x (length ms) (passed_by (cell_forest X.n X.node_table) h ms))))

unfoldable pub climbed_of : Option Reached → Climbed
climbed_of none = OutOfRange
climbed_of (some x) = To x

-- "a value read leads outside the plan, the states or the labels, or a climb doesn't rise": 18
unfoldable pub climbed_number : Climbed → ℕ
climbed_number (To x) = 0
climbed_number OutOfRange = 18
