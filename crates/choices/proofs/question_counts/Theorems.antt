-- How many choices clear the plan, on tables as built (document 02, S-10): each theorem with the sentence that it
-- renders.
--     as-built-roots, as-built-links   "the parts and links told are those of a question whose W is these nodes and
--                                      the root"
--     as-built-countable               18 is not given
--     as-built-counts                  "the counts are those of the definition by trying all"
--     as-built-sum                     "and their sum is K to the power m"
-- On other bytes below S: RuleCounts, rule-roots, rule-countable, rule-links, rule-counts.
use Prim.Native.Nat.{ℕ, ◌^◌, ◌<◌}
use mathlib.Core.Path.{◌≡◌, refl, ◌∙◌}
use mathlib.Core.Bool.{true}
use mathlib.Core.List.{List}
use mathlib.Core.Option.{some}
use lib.ListN.{length}
use Rattle.formats.specs.Plan.{plan_tree}
use Rattle.formats.specs.Rules.{state_count, label_count, rule_automaton}
use Rattle.formats.specs.Checks.{first_no}
use Rattle.formats.specs.Built.{AsBuilt}
use Rattle.questions.specs.ready.Members.{roots}
use Rattle.questions.specs.ready.Parts.{question_links}
use Rattle.choices.specs.assignments.Assignments.{counted}
use Rattle.choices.specs.assignments.Sums.{sum_to}
use Rattle.choices.specs.question_counts.CountOn.{count_view, roots_in, is_countable, count_of, links_of, listed_checks}
use Rattle.choices.proofs.question_counts.RuleCounts.{rule-roots, rule-countable, rule-links, rule-counts}
use Rattle.choices.proofs.question_counts.BuiltCounts.{given_built, rp, built-reads, built-fits, built-counts, built-sum}

module _ (p r node_table state_table : List ℕ) (B : AsBuilt p r node_table state_table) (vs : List ℕ)
    (ok : first_no (listed_checks p r (length node_table) (length state_table) vs) ≡ 0) where
  pub as-built-roots : roots_in (count_view p r node_table state_table) vs ≡ some (roots (plan_tree p) vs)
  as-built-roots =
      rule-roots (count_view p r node_table state_table) (given_built p r state_table)
      (built-reads p r node_table state_table B) refl (rp p r node_table state_table B).states_most vs
      (built-fits p r node_table state_table B vs ok)

  pub as-built-countable : is_countable (count_view p r node_table state_table) vs ≡ true
  as-built-countable =
      rule-countable (count_view p r node_table state_table) (given_built p r state_table)
      (built-reads p r node_table state_table B) refl (rp p r node_table state_table B).states_most vs
      (built-fits p r node_table state_table B vs ok)

  pub as-built-links : links_of (count_view p r node_table state_table) (roots (plan_tree p) vs)
      ≡ question_links (plan_tree p) (roots (plan_tree p) vs)
  as-built-links =
      rule-links (count_view p r node_table state_table) (given_built p r state_table)
      (built-reads p r node_table state_table B) refl (rp p r node_table state_table B).states_most vs
      (built-fits p r node_table state_table B vs ok)

  pub as-built-counts : (c : ℕ) → c < 16 → count_of (count_view p r node_table state_table) vs (roots (plan_tree p) vs) c
      ≡ counted (rule_automaton r) (label_count r) (plan_tree p) vs c
  as-built-counts c h =
      rule-counts (count_view p r node_table state_table) (given_built p r state_table)
      (built-reads p r node_table state_table B) refl (rp p r node_table state_table B).states_most vs
      (built-fits p r node_table state_table B vs ok) c h
      ∙ built-counts p r node_table state_table B vs ok c

  pub as-built-sum : sum_to (state_count r) (counted (rule_automaton r) (label_count r) (plan_tree p) vs)
      ≡ label_count r ^ length vs
  as-built-sum = built-sum p r node_table state_table B vs ok
