-- A whole question, outside the session: its checks, and its answer for any inputs.
--
-- view_lent p r node_table state_table == the inputs, cut by N, S and K of the headers
-- left_lent p vs bs == the nodes that the list vs, bs leaves in W, in the order of their last entries
-- totalled x y == part y after what x has in all: y's state, the links and the nodes passed over of both
-- handled_from X vs bs es qs x ms == the parts of the roots ms, after the roots es of states qs, which came to x
-- Whole == what all parts came to, and their number; is_whole o == whether there is one
-- whole_on X left vs bs == that of a list vs, bs that leaves the nodes `left` in W; none: 18
-- ask_checks .. == 17, 12, 13, 14 and 18, in this order; listed_checks == those before 18
-- ask_number .. == the first that fails, 0 where none does
-- ask_answer .. == what is told: that number, and the answer where none does
--
-- Each part is the session's own (part_on, crate questions): what an advance stores and counts. Superseding and equal
-- labels are as in S-4 and S-5.
use Rattle.std.specs.Prelude.{ℕ, zero, suc, ◌+◌, Bool, true, false, List, [], ◌∷◌, ◌++◌, length}
use Rattle.std.proofs.Math.Option.{Option, none, some}
use Rattle.trees.specs.Climb.{and_then}
use Rattle.formats.specs.Plan.{node_count, labels_within}
use Rattle.formats.specs.Rules.{state_count, label_count, rule_automaton}
use Rattle.formats.specs.Checks.{Check, check, first_no, list_checks}
use Rattle.formats.specs.Buffers.{headed_buffers_fit, rule_tables}
use Rattle.changes.specs.inner.LastDiffering.{given_differing}
use Rattle.tables.specs.declared.answers.Reached.{Reached}
use Rattle.tables.specs.Climbs.{View, reached}
use Rattle.questions.specs.Part.{part_on}
use Rattle.questions.specs.PartAnswers.{view_in}
use Rattle.questions.specs.RootsAnswers.{roots_given}
use Rattle.whole_questions.specs.declared.answers.Asked.{Asked}

abbrev pub view_lent : List ℕ → List ℕ → List ℕ → List ℕ → View
view_lent p r node_table state_table = view_in (node_count p) (state_count r) (label_count r) p r node_table state_table

-- document 02, S-5: "A listed node whose label equals the plan's is left out of W from now on, after superseding."
abbrev pub left_lent : List ℕ → List ℕ → List ℕ → List ℕ
left_lent p vs bs = given_differing (labels_within p) vs bs

-- ---- all parts

-- document 01: "the links so far"; document 02, S-7: "Question and branch answers carry the total over their climbs"
abbrev pub totalled : Reached → Reached → Reached
totalled x y = reached y.state (x.links + y.links) (x.passed + y.passed)

-- "parts are handled in rising node number"
unfoldable pub handled_from : View → List ℕ → List ℕ → List ℕ → List ℕ → Reached → List ℕ → Option Reached
handled_from X vs bs es qs x [] = some x
handled_from X vs bs es qs x (v ∷ ms) =
    and_then (part_on X es qs vs bs v) (λ y.
    handled_from X vs bs (es ++ (v ∷ [])) (qs ++ (y.state ∷ [])) (totalled x y) ms)

pub record Whole : Type 0 where
  pub total : Reached
  pub parts : ℕ

abbrev pub whole_with : Reached → ℕ → Whole
whole_with x m = record { total = x; parts = m }

abbrev pub is_whole : Option Whole → Bool
is_whole none = false
is_whole (some w) = true

unfoldable pub whole_on : View → List ℕ → List ℕ → List ℕ → Option Whole
whole_on X left vs bs =
    and_then (roots_given X.n X.node_table left) (λ ms.
    and_then (handled_from X vs bs [] [] (reached 0 0 0) ms) (λ x. some (whole_with x (length ms))))

abbrev pub whole_lent : List ℕ → List ℕ → List ℕ → List ℕ → List ℕ → List ℕ → Option Whole
whole_lent p r node_table state_table vs bs = whole_on (view_lent p r node_table state_table) (left_lent p vs bs) vs bs

-- ---- the checks

-- "A branch question takes N, S and K from the lent headers: 17, also for a header cut short or a number outside its
-- limits"; Start: "node and label lists of one length, at most 64? 12; nodes below N? 13; labels below K? 14"
unfoldable pub listed_checks : List ℕ → List ℕ → ℕ → ℕ → List ℕ → List ℕ → List Check
listed_checks p r node_table state_table vs bs =
    check 17 (headed_buffers_fit rule_tables p r node_table state_table) ∷ list_checks (node_count p) (label_count r) vs bs

unfoldable pub ask_checks : List ℕ → List ℕ → List ℕ → List ℕ → List ℕ → List ℕ → List Check
ask_checks p r node_table state_table vs bs =
    listed_checks p r (length node_table) (length state_table) vs bs
    ++ (check 18 (is_whole (whole_lent p r node_table state_table vs bs)) ∷ [])

unfoldable pub ask_number : List ℕ → List ℕ → List ℕ → List ℕ → List ℕ → List ℕ → ℕ
ask_number p r node_table state_table vs bs = first_no (ask_checks p r node_table state_table vs bs)

-- ---- the answer

-- "state, yes or no, parts, links"; document 02, S-7: and last the nodes passed over
abbrev pub answered_with : List ℕ → Reached → ℕ → Asked
answered_with r x parts = record {
  state = x.state;
  marked = (rule_automaton r).accepting x.state;
  parts = parts;
  links = x.links;
  passed = x.passed;
}

-- "The first no gives its number; nothing else is returned and nothing is altered."
unfoldable pub answer_for : List ℕ → ℕ → Option Whole → ℕ × Option Asked
answer_for r zero none = (18, none)
answer_for r zero (some w) = (0, some (answered_with r w.total w.parts))
answer_for r (suc n) o = (suc n, none)

unfoldable pub ask_answer : List ℕ → List ℕ → List ℕ → List ℕ → List ℕ → List ℕ → ℕ × Option Asked
ask_answer p r node_table state_table vs bs =
    answer_for r (ask_number p r node_table state_table vs bs) (whole_lent p r node_table state_table vs bs)
