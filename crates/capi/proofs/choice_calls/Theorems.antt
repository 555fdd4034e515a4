-- How many choices clear the plan, as C and Rust receive it (document 02, S-10), from the promise of `whatif_count`.
--     count-tried       "On tables as the build wrote them from the plan and rules lent, the counts are those of the
--                       definition by trying all"
--     count-sum         "and their sum is K to the power m"
--     count-as-asked    "the parts and links told are those of a question whose W is these nodes and the root"
use Prim.Native.Nat.{ℕ, ◌^◌, ◌≤◌}
use mathlib.Core.Path.{◌≡◌, refl, sym, ap, ◌∙◌}
use mathlib.Core.List.{List, [], ◌∷◌, ◌++◌}
use native.Mathlib.Omega.{arith}
use lib.Dec.{leb}
use lib.ListN.{length, take, drop}
use lib.Seq.{get_or-take, length-take-le}
use Rattle.list_laws.specs.Rows.{tabulate}
use Rattle.list_laws.proofs.RowLaws.{length-tabulate, get_d_tabulate, tabulate-of}
use Rattle.formats.specs.Plan.{plan_tree}
use Rattle.formats.specs.Rules.{state_count, label_count, rule_automaton}
use Rattle.formats.specs.Checks.{check, first_no}
use Rattle.formats.specs.Built.{AsBuilt}
use Rattle.formats.proofs.CheckLaws.{first_no-append-left}
use Rattle.formats.proofs.RefusalLaws.{value-told}
use Rattle.questions.specs.ready.Members.{roots}
use Rattle.questions.specs.ready.Parts.{question_links}
use Rattle.choices.specs.assignments.Assignments.{counted}
use Rattle.choices.specs.assignments.Sums.{sum_to}
use Rattle.choices.specs.question_counts.CountOn.{count_view, is_countable, listed_checks, count_checks, count_number}
use Rattle.choices.proofs.question_counts.BuiltCounts.{rp, built-sum}
use Rattle.choices.specs.declared.count.Counted.{Counted}
use Rattle.choices.specs.Promise.{count_value, count_result, tried_count}
use Rattle.capi.specs.choice_calls.CountExported.{exported_checks, CountExported}
use Rattle.capi.proofs.choice_calls.ExportCases.{listed-numbered, checks-numbered}

first_of : (n m : ℕ) (f : ℕ → ℕ) → n ≤ m → take n (tabulate m f) ≡ tabulate n f
first_of n m f h =
    tabulate-of n f (take n (tabulate m f)) (length-take-le n (tabulate m f) (omega (arith, length-tabulate m f)))
    (λ j l. get_or-take n (tabulate m f) j 0 l ∙ get_d_tabulate m f j (omega arith))

module _ (p r node_table state_table vs counts : List ℕ) (parts links : ℕ) (counts' : List ℕ) (parts' links' : ℕ)
    (E : CountExported p r node_table state_table vs counts parts links 0 counts' parts' links')
    (B : AsBuilt p r node_table state_table) where
  accepted : first_no (listed_checks p r (length node_table) (length state_table) vs) ≡ 0
  unfolding exported_checks count_checks
  accepted =
      first_no-append-left (listed_checks p r (length node_table) (length state_table) vs)
      (check 18 (is_countable (count_view p r node_table state_table) vs) ∷ [])
      (listed-numbered p r node_table state_table vs)
      (first_no-append-left (count_checks p r node_table state_table vs)
      (check 11 (leb (state_count r) (length counts)) ∷ []) (checks-numbered p r node_table state_table vs)
      (sym E.number))

  tried : count_value p r node_table state_table vs ≡ tried_count p r vs
  unfolding count_result
  tried =
      (value-told (tried_count p r vs) (count_number p r node_table state_table vs)
      (count_value p r node_table state_table vs) (sym (E.done.built B accepted))).1

  pub count-tried : counts' ≡ tabulate (state_count r) (counted (rule_automaton r) (label_count r) (plan_tree p) vs)
      ++ drop (state_count r) counts
  count-tried =
      E.counts_are refl
      ∙ ap (λ (x : Counted). take (state_count r) x.counts ++ drop (state_count r) counts) tried
      ∙ ap (λ (l : List ℕ). l ++ drop (state_count r) counts)
      (first_of (state_count r) 16 (counted (rule_automaton r) (label_count r) (plan_tree p) vs)
      (rp p r node_table state_table B).states_most)

  pub count-sum : sum_to (state_count r) (counted (rule_automaton r) (label_count r) (plan_tree p) vs)
      ≡ label_count r ^ length vs
  count-sum = built-sum p r node_table state_table B vs accepted

  pub count-as-asked : (parts' ≡ length (roots (plan_tree p) vs))
      × (links' ≡ question_links (plan_tree p) (roots (plan_tree p) vs))
  count-as-asked = (
    E.parts_are refl ∙ ap (λ (x : Counted). x.parts) tried,
    E.links_are refl ∙ ap (λ (x : Counted). x.links) tried,
  )
