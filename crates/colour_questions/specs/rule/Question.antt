-- A rule question by colours: its checks, and its answer for any inputs.
--
-- rule_colours_fit p r .. == check 17, with the lengths of the four tables; where S is above 4 no length is defined for
--   those of the colours
-- lent_colours p r node_table state_table numbers bytes == the inputs, cut by N, S and K of the headers
-- Handled == the result of all parts, and how many there were
-- handled_on L left vs bs == the parts of a list vs, bs that leaves the nodes `left` in W; none: 18
-- rule_ask_checks .. == 17, 27, 12, 13, 14 and 18, in this order; asked_checks == those before 18
-- rule_ask_number .. == the first that fails, 0 where none does
-- rule_ask_answer .. == what is told: that number, and the answer where none does
--
-- Superseding and equal labels are as in S-4 and S-5. The nodes left in W are `differing`'s, in the order of their last
-- entries (crate changes).
use Rattle.std.specs.Prelude.{ℕ, zero, suc, Bool, ◌&&◌, ◌||◌, List, [], ◌∷◌, ◌++◌, ltb, length, drop}
use Rattle.std.proofs.Math.Option.{Option, none, some}
use Rattle.trees.specs.Climb.{and_then}
use Rattle.formats.specs.Plan.{node_count, labels_within}
use Rattle.formats.specs.Rules.{state_count, label_count, rule_automaton}
use Rattle.formats.specs.Checks.{Check, check, first_no, list_checks, state_table_length}
use Rattle.formats.specs.Buffers.{headed_buffers_fit, rule_tables}
use Rattle.changes.specs.inner.LastDiffering.{given_differing}
use Rattle.branches.specs.Question.{is_some}
use Rattle.questions.specs.RootsAnswers.{roots_given}
use Rattle.questions.specs.PartAnswers.{view_in}
use Rattle.colours.specs.Descents.{sum}
use Rattle.colours.specs.StateSets.{Tried, tried}
use Rattle.colour_tables.specs.rule.Build.{set_colours_fit, set_states_fit}
use Rattle.colour_questions.specs.parts.Part.{ColourView, handled_from}
use Rattle.colour_questions.specs.declared.rule.answers.RuleAsked.{RuleAsked}

-- with S above 4 no length is defined for the tables of colours: 17 is checked of all else, and then comes 27
unfoldable pub rule_colours_fit : List ℕ → List ℕ → ℕ → ℕ → ℕ → ℕ → Bool
rule_colours_fit p r node_table state_table numbers bytes =
    headed_buffers_fit rule_tables p r node_table state_table
    && (ltb 4 (state_count r) || set_colours_fit (node_count p) (state_count r) numbers bytes)

abbrev pub lent_colours : List ℕ → List ℕ → List ℕ → List ℕ → List ℕ → List ℕ → ColourView
lent_colours p r node_table state_table numbers bytes = record {
  view = view_in (node_count p) (state_count r) (label_count r) p r node_table state_table;
  numbers = numbers;
  copies = drop (state_table_length (node_count p) (state_count r)) bytes;
}

-- document 02, S-5: "A listed node whose label equals the plan's is left out of W from now on, after superseding."
abbrev pub left_within : List ℕ → List ℕ → List ℕ → List ℕ
left_within p vs bs = given_differing (labels_within p) vs bs

pub record Handled : Type 0 where
  pub result : Tried
  pub parts : ℕ

abbrev pub handled : Tried → ℕ → Handled
handled r m = record { result = r; parts = m }

unfoldable pub handled_on : ColourView → List ℕ → List ℕ → List ℕ → Option Handled
handled_on L left vs bs =
    and_then (roots_given L.view.n L.view.node_table left) (λ ms.
    and_then (handled_from L vs bs [] [] (tried 0 []) ms) (λ r. some (handled r (length ms))))

abbrev pub asked_on : List ℕ → List ℕ → List ℕ → List ℕ → List ℕ → List ℕ → List ℕ → List ℕ → Option Handled
asked_on p r node_table state_table numbers bytes vs bs =
    handled_on (lent_colours p r node_table state_table numbers bytes) (left_within p vs bs) vs bs

-- ---- the checks

unfoldable pub asked_checks : List ℕ → List ℕ → ℕ → ℕ → ℕ → ℕ → List ℕ → List ℕ → List Check
asked_checks p r node_table state_table numbers bytes vs bs =
    check 17 (rule_colours_fit p r node_table state_table numbers bytes)
    ∷ check 27 (set_states_fit (state_count r))
    ∷ list_checks (node_count p) (label_count r) vs bs

unfoldable pub rule_ask_checks : List ℕ → List ℕ → List ℕ → List ℕ → List ℕ → List ℕ → List ℕ → List ℕ → List Check
rule_ask_checks p r node_table state_table numbers bytes vs bs =
    asked_checks p r (length node_table) (length state_table) (length numbers) (length bytes) vs bs
    ++ (check 18 (is_some (asked_on p r node_table state_table numbers bytes vs bs)) ∷ [])

unfoldable pub rule_ask_number : List ℕ → List ℕ → List ℕ → List ℕ → List ℕ → List ℕ → List ℕ → List ℕ → ℕ
rule_ask_number p r node_table state_table numbers bytes vs bs =
    first_no (rule_ask_checks p r node_table state_table numbers bytes vs bs)

-- ---- the answer

-- the answer of state q, searches ls and the given number of parts
abbrev pub answered_with : List ℕ → ℕ → List ℕ → ℕ → RuleAsked
answered_with r q ls parts = record {
  state = q;
  marked = (rule_automaton r).accepting q;
  drops = length ls;
  links = sum ls;
  parts = parts;
}

-- document 01's number and values for each case: 0 with what is answered, or the refusal's number alone
unfoldable pub rule_answer : List ℕ → ℕ → Option Handled → ℕ × Option RuleAsked
rule_answer r zero none = (18, none)
rule_answer r zero (some h) = (0, some (answered_with r h.result.state h.result.searches h.parts))
rule_answer r (suc n) o = (suc n, none)

unfoldable pub rule_ask_answer : List ℕ → List ℕ → List ℕ → List ℕ → List ℕ → List ℕ → List ℕ → List ℕ → ℕ × Option RuleAsked
rule_ask_answer p r node_table state_table numbers bytes vs bs =
    rule_answer r (rule_ask_number p r node_table state_table numbers bytes vs bs)
    (asked_on p r node_table state_table numbers bytes vs bs)
