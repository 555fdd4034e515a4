-- The counts of a root, carried by the climb from it.
--
-- state_in o, links_in o == state and links of what was reached; 0 where nothing was
-- arrives_at X h t q == the state that the climb from node h with state q ends in at depth t
-- all_arrive X h t m == whether those with the states below m all end in one
-- CarryArgs == every read is inside, every count at most the limit
-- CarriedUp X h t row l r m == answer r and counts m are those of the counts `row` of node h carried to depth t,
--   added to l
--
-- All states are climbed from, also those without a count: 18 where any of these climbs leads outside.
use Rattle.std.specs.Prelude.{ℕ, zero, suc, ◌+◌, ◌-◌, ◌*◌, ◌<◌, ◌≡◌, Bool, true, false, ◌&&◌, List, get_or}
use Rattle.std.proofs.Math.Option.{Option, none, some}
use Rattle.formats.specs.Limits.{state_limit}
use Rattle.tables.specs.declared.answers.Reached.{Reached}
use Rattle.tables.specs.Climbs.{View, climb_on}
use Rattle.tables.specs.inner.PathViews.{PathArgs}
use Rattle.choices.specs.assignments.Sums.{sum_to, one}
use Rattle.choices.specs.node_counts.Capped.{capped}
use Rattle.choices.specs.node_counts.Join.{Kept}
use Rattle.choices.specs.declared.part_steps.carry.Carried.{Carried}

abbrev pub state_in : Option Reached → ℕ
state_in none = 0
state_in (some x) = x.state

abbrev pub links_in : Option Reached → ℕ
links_in none = 0
links_in (some x) = x.links

abbrev pub is_reached : Option Reached → Bool
is_reached none = false
is_reached (some x) = true

unfoldable pub arrives_at : View → ℕ → ℕ → ℕ → ℕ
arrives_at X h t q = state_in (climb_on X h t q)

unfoldable pub all_arrive : View → ℕ → ℕ → ℕ → Bool
all_arrive X h t zero = true
all_arrive X h t (suc m) = all_arrive X h t m && is_reached (climb_on X h t m)

pub record CarryArgs (n s k : ℕ) (ls inn node_table state_table : List ℕ) (h : ℕ) (row l : List ℕ) : Type 0 where
  pub path : PathArgs n s k ls inn node_table state_table
  pub some_state : 0 < s
  pub at : h < n
  pub row_kept : Kept row
  pub out_kept : Kept l

pub record CarriedUp (X : View) (h t : ℕ) (row l : List ℕ) (r : Carried) (m : List ℕ) : Type 0 where
  pub ok : r.ok ≡ all_arrive X h t X.s
  pub links : r.ok ≡ true → r.links ≡ links_in (climb_on X h t (X.s - 1))
  pub kept : Kept m
  pub counts : r.ok ≡ true → (c : ℕ) → c < state_limit
      → get_or m c 0 ≡ capped (get_or l c 0 + sum_to X.s (λ q. get_or row q 0 * one c (arrives_at X h t q)))
