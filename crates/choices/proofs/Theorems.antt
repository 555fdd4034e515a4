-- What a count means (document 02, S-10): each theorem cites the count's promise, with the sentence that it renders.
--     count-number       on tables as built the number is that of the first five checks: 18 never
--     count-is-tried     "the counts are those of the definition by trying all"
--     count-sum          "and their sum is K to the power m"
--     count-parts        "the parts and links told are those of a question whose W is these nodes and the root"
--     count-none-open    "With no open node the run's own state has count 1", in one part
use Prim.Native.Nat.{ℕ, ◌^◌, ◌<◌}
use mathlib.Core.Path.{◌≡◌, refl, sym, ap, ◌∙◌}
use mathlib.Core.List.{List, []}
use native.Mathlib.Decide.{ℕ_discrete}
use native.Mathlib.Omega.{arith}
use lib.ListN.{length, get_or}
use Rattle.trees.specs.Automaton.{state}
use Rattle.list_laws.proofs.RowLaws.{get_d_tabulate}
use Rattle.formats.specs.Plan.{plan_tree}
use Rattle.formats.specs.Rules.{state_count, label_count, rule_automaton}
use Rattle.formats.specs.Checks.{first_no}
use Rattle.formats.specs.Buffers.{rule_tables}
use Rattle.formats.specs.Built.{AsBuilt}
use mathlib.Core.Option.{Option, some}
use Rattle.formats.proofs.BufferLaws.{headed-are}
use Rattle.questions.specs.ready.Members.{roots}
use Rattle.questions.specs.ready.Parts.{question_links}
use Rattle.choices.specs.assignments.Sums.{sum_to, one}
use Rattle.choices.specs.assignments.Assignments.{counted}
use Rattle.choices.proofs.assignments.Theorems.{none_open}
use Rattle.choices.specs.question_counts.CountOn.{listed_checks}
use Rattle.choices.proofs.question_counts.BuiltCounts.{fit-17}
use Rattle.choices.proofs.question_counts.Theorems.{as-built-roots}
use Rattle.choices.specs.declared.count.Counted.{Counted}
use Rattle.choices.specs.Promise.{tried_count, CountDone}
use Rattle.choices.proofs.CountChecks.{number-listed}
use Rattle.choices.proofs.Theorem.{same-value}

module _ (p r node_table state_table vs : List ℕ) (t : ℕ × Option Counted) (D : CountDone p r node_table state_table vs t)
    (B : AsBuilt p r node_table state_table) where
  pub count-number : t.0 ≡ first_no (listed_checks p r (length node_table) (length state_table) vs)
  count-number = elim (ℕ_discrete (first_no (listed_checks p r (length node_table) (length state_table) vs)) 0) [
    | yes ok ↦ ap (λ (q : ℕ × Option Counted). q.0) (D.built B ok) ∙ sym ok
    | no h ↦ D.number ∙ number-listed p r node_table state_table vs h
  ]

  module _ (x : Counted) (ok : t ≡ (0, some x)) where
    passed : first_no (listed_checks p r (length node_table) (length state_table) vs) ≡ 0
    passed = sym count-number ∙ ap (λ (q : ℕ × Option Counted). q.0) ok

    tried : x ≡ tried_count p r vs
    tried = same-value (sym ok ∙ D.built B passed)

    pub count-is-tried : (c : ℕ) → c < state_count r
        → get_or x.counts c 0 ≡ counted (rule_automaton r) (label_count r) (plan_tree p) vs c
    count-is-tried c h =
        ap (λ (y : Counted). get_or y.counts c 0) tried
        ∙ get_d_tabulate 16 (counted (rule_automaton r) (label_count r) (plan_tree p) vs) c
        (omega (
          arith,
          (headed-are rule_tables p r (length node_table) (length state_table)
              (fit-17 p r (length node_table) (length state_table) vs passed)).headers.in-limits.few,
        ))

    pub count-sum : sum_to (state_count r) (λ c. get_or x.counts c 0) ≡ label_count r ^ length vs
    count-sum = D.sum B passed x ok

    pub count-parts : (x.parts ≡ length (roots (plan_tree p) vs))
        × (x.links ≡ question_links (plan_tree p) (roots (plan_tree p) vs))
    count-parts = (ap (λ (y : Counted). y.parts) tried, ap (λ (y : Counted). y.links) tried)

pub count-none-open : (p r node_table state_table : List ℕ) (t : ℕ × Option Counted) → CountDone p r node_table state_table [] t
    → AsBuilt p r node_table state_table → (x : Counted) → t ≡ (0, some x)
    → (x.parts ≡ 1)
    × ((c : ℕ) → c < state_count r → get_or x.counts c 0 ≡ one c (state (rule_automaton r) (plan_tree p)))
count-none-open p r node_table state_table t D B x ok =
    let P = D.parts_are x ok (roots (plan_tree p) [])
    (as-built-roots p r node_table state_table B [] (passed p r node_table state_table [] t D B x ok)) in (
      P.0 ∙ P.1.one refl,
      λ c h. count-is-tried p r node_table state_table [] t D B x ok c h
          ∙ none_open (rule_automaton r) (label_count r) (plan_tree p) c,
    )
