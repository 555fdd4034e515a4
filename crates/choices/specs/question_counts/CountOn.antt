-- The whole count, for any inputs (document 02, S-10).
--
-- open_in vs == the test of the open nodes vs
-- count_view p r node_table state_table == the inputs, cut by N, S and K of the headers, without the excess of longer
--   tables
-- roots_in X vs == the roots of a question that lists vs, on the given numbers; none where one leads outside
-- states_inside X == whether every leaf and inner state of the rules is below S
-- is_countable X vs == check 18
-- count_of X vs ms c == how many choices end in state c at the last of the roots ms, the plan's root
-- links_of X ms == the links of all parts
-- count_checks .. == 17, 12, 13, 15, 26 and 18, in this order; count_number .. == the first that fails, 0 where none does
--
-- "It is put outside the session, like a branch question: 17, then 12, 13 and 15 (which is met here) for the node list,
-- then 26 for more than 1,000,000,000,000,000,000 assignments, then 18."
use Rattle.std.specs.Prelude.{ℕ, ◌+◌, ◌-◌, ◌*◌, ◌^◌, Bool, false, ◌&&◌, List, [], ◌∷◌, ◌++◌, leb, length, get_or}
use Rattle.std.proofs.Math.Option.{Option, none, some}
use Rattle.list_laws.specs.Tests.{all_below, holds, distinct}
use Rattle.formats.specs.Limits.{state_limit, change_limit}
use Rattle.formats.specs.Plan.{node_count}
use Rattle.formats.specs.Rules.{state_count, label_count}
use Rattle.formats.specs.Checks.{Check, check, first_no}
use Rattle.formats.specs.Buffers.{headed_buffers_fit, rule_tables}
use Rattle.tables.specs.Climbs.{View}
use Rattle.questions.specs.RootsAnswers.{roots_given}
use Rattle.questions.specs.PartAnswers.{view_in}
use Rattle.choices.specs.node_counts.Capped.{count_limit}
use Rattle.choices.specs.question_counts.PartsOn.{parts_ok, links_from, rows_from}

abbrev pub open_in : List ℕ → ℕ → Bool
open_in vs = λ u. holds u vs

abbrev pub count_view : List ℕ → List ℕ → List ℕ → List ℕ → View
count_view p r node_table state_table = view_in (node_count p) (state_count r) (label_count r) p r node_table state_table

abbrev pub roots_in : View → List ℕ → Option (List ℕ)
roots_in X vs = roots_given X.n X.node_table vs

abbrev pub list_in : Option (List ℕ) → List ℕ
list_in none = []
list_in (some l) = l

unfoldable pub states_inside : View → Bool
states_inside X = all_below X.s X.leaves && all_below X.s X.inner

abbrev pub all_ok : View → List ℕ → Option (List ℕ) → Bool
all_ok X vs none = false
all_ok X vs (some ms) = parts_ok X (open_in vs) [] ms

unfoldable pub is_countable : View → List ℕ → Bool
is_countable X vs = states_inside X && all_ok X vs (roots_in X vs)

unfoldable pub count_of : View → List ℕ → List ℕ → ℕ → ℕ
count_of X vs ms c = get_or (rows_from X (open_in vs) [] [] ms) ((length ms - 1) * state_limit + c) 0

abbrev pub links_of : View → List ℕ → ℕ
links_of X ms = links_from X [] ms

-- ---- the checks

-- "m, the changes in a list, 0 to 64" is 12; there are no labels
unfoldable pub listed_checks : List ℕ → List ℕ → ℕ → ℕ → List ℕ → List Check
listed_checks p r node_table state_table vs =
    check 17 (headed_buffers_fit rule_tables p r node_table state_table)
    ∷ check 12 (leb (length vs) change_limit)
    ∷ check 13 (all_below (node_count p) vs)
    ∷ check 15 (distinct vs)
    ∷ check 26 (leb (label_count r ^ length vs) count_limit)
    ∷ []

unfoldable pub count_checks : List ℕ → List ℕ → List ℕ → List ℕ → List ℕ → List Check
count_checks p r node_table state_table vs =
    listed_checks p r (length node_table) (length state_table) vs
    ++ (check 18 (is_countable (count_view p r node_table state_table) vs) ∷ [])

unfoldable pub count_number : List ℕ → List ℕ → List ℕ → List ℕ → List ℕ → ℕ
count_number p r node_table state_table vs = first_no (count_checks p r node_table state_table vs)
