-- Searches in a list from its first entry to its last, and what the functions of a part read by them.
--
-- last_in c z es == the place, from 1, of the last entry of es in the run of z numbers that ends at c; 0 where there is none
-- any_in c z es == whether an entry of es is in that run
-- Shortened c z es i == the first i entries of es have the same place
-- found_of es qs i == the root and the state at place i; none at place 0
-- label_of ls bs v i == the label at place i of the changes bs; the plan's label of node v at place 0
-- side_on X t c f g == the state at child c, at depth t, where f is the root found below it and g the one below its
--   sibling
--
-- With z the size of node c, the run is c's subtree, so that the place is that of the last root below c; with z = 1 the
-- run is c alone.
use Rattle.std.specs.Prelude.{◌≡◌, ℕ, zero, suc, ◌+◌, ◌≤◌, Bool, false, cond, ◌||◌, List, [], ◌∷◌, length, take, slice_index}
use Rattle.std.proofs.Math.Option.{Option, none, some}
use Rattle.trees.specs.Numbering.{is_in_subtree}
use Rattle.tables.specs.declared.answers.Reached.{Reached}
use Rattle.tables.specs.Climbs.{View}
use Rattle.questions.specs.Part.{Found, found, climb_from, run_reached, own_reached}

-- with `at` the place found among the i entries before
unfoldable pub last_from : ℕ → ℕ → List ℕ → ℕ → ℕ → ℕ
last_from c z [] i at = at
last_from c z (e ∷ es) i at = last_from c z es (i + 1) (cond (is_in_subtree c z e) (i + 1) at)

abbrev pub last_in : ℕ → ℕ → List ℕ → ℕ
last_in c z es = last_from c z es 0 0

unfoldable pub any_in : ℕ → ℕ → List ℕ → Bool
any_in c z [] = false
any_in c z (e ∷ es) = is_in_subtree c z e || any_in c z es

pub record Shortened (c z : ℕ) (es : List ℕ) (i : ℕ) : Type 0 where
  pub within : i ≤ length es
  pub place : last_in c z (take i es) ≡ last_in c z es

unfoldable pub found_of : List ℕ → List ℕ → ℕ → Option Found
found_of es qs zero = none
found_of es qs (suc i) = some (found (slice_index es i) (slice_index qs i))

unfoldable pub label_of : List ℕ → List ℕ → ℕ → ℕ → ℕ
label_of ls bs v zero = slice_index ls v
label_of ls bs v (suc i) = slice_index bs i

-- "A member with no member below takes its children's states from the run. With members below both children it takes
-- theirs. With members below one child only, .. climb": the three ways in which a child comes to its state
unfoldable pub side_on : View → ℕ → ℕ → Option Found → Option Found → Option Reached
side_on X t c none g = run_reached X c
side_on X t c (some f) none = climb_from X t f
side_on X t c (some f) (some g) = own_reached X f
