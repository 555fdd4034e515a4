-- How many choices clear the plan (document 02, S-10), over the promise of whatif_count.
--     count-tried, count-each        on tables as built the counts are those of trying all assignments
--     count-sum                      their sum is K to the power m
--     count-as-asked                 parts and links are those of a question
--     count-none-open                no open node: one part, no links, and the run's own state has count 1
--     count-never-18                 18 never comes on tables as built
--     count-named, count-promised    on any tables: the result that the promise names, and its properties
--     count-cause-of-18, count-by-parts   what 18 means; the counts part by part where the bytes are any below S
-- The numbers 17, 12, 13, 15, 26, 18, 11 and that a refused call alters nothing: Calls.
use Prim.Native.Nat.{ℕ, ◌^◌, ◌<◌}
use mathlib.Core.Path.{◌≡◌, sym, ap, ◌∙◌}
use mathlib.Core.Bool.{Bool, true, false}
use mathlib.Core.List.{List, [], ◌∷◌, ◌++◌}
use native.Mathlib.Decide.{ℕ_discrete}
use native.Mathlib.Omega.{arith}
use lib.Dec.{leb}
use lib.ListN.{length, get_or, drop, get_or-append}
use Rattle.list_laws.specs.Rows.{tabulate}
use Rattle.list_laws.specs.Copying.{over_buffer}
use Rattle.list_laws.proofs.RowLaws.{length-tabulate, get_d_tabulate}
use Rattle.trees.specs.Tree.{labels_of}
use Rattle.trees.specs.Automaton.{state}
use Rattle.formats.specs.Plan.{plan_tree}
use Rattle.formats.specs.Rules.{state_count, label_count, rule_automaton}
use Rattle.formats.specs.Checks.{check, first_no}
use Rattle.formats.specs.Built.{AsBuilt}
use Rattle.formats.proofs.CheckLaws.{first_no-append-zero, first_no-append-no, first_no-append-left}
use Rattle.formats.proofs.RefusalLaws.{value-told}
use Rattle.questions.specs.ready.Members.{roots}
use Rattle.questions.specs.ready.Parts.{Given, question_links}
use Rattle.questions.specs.Promises.{Reads}
use Rattle.questions.specs.OutOfRange.{PartOutOfRange}
use Rattle.choices.specs.assignments.Sums.{sum_to, one}
use Rattle.choices.specs.assignments.Assignments.{counted}
use Rattle.choices.specs.question_counts.CountOn.{count_view, is_countable, listed_checks, count_checks, count_number}
use Rattle.choices.specs.declared.count.Counted.{Counted}
use Rattle.choices.specs.Promise.{count_value, count_result, ruled_count, CountDone}
use Rattle.choices.proofs.assignments.SumLaws.{sum-ext}
use Rattle.choices.proofs.Theorems as choices
use Rattle.capi.specs.choice_calls.CountExported.{exported_checks, CountExported}
use Rattle.capi.proofs.choice_calls.ExportCases.{listed-numbered, checks-numbered}
use Rattle.capi.proofs.choice_calls.Ties as ties
use Rattle.capi.proofs.choice_calls.Theorems as calls

-- ---- on tables as built

module _ (p r node_table state_table vs counts : List ℕ) (parts links : ℕ) (counts' : List ℕ) (parts' links' : ℕ)
    (E : CountExported p r node_table state_table vs counts parts links 0 counts' parts' links')
    (B : AsBuilt p r node_table state_table) where
  -- "On tables as the build wrote them from the plan and rules lent, the counts are those of the definition by trying
  -- all": a number for each state, and behind them what was there
  count-tried : counts' ≡ tabulate (state_count r) (counted (rule_automaton r) (label_count r) (plan_tree p) vs)
      ++ drop (state_count r) counts
  count-tried = calls.count-tried p r node_table state_table vs counts parts links counts' parts' links' E B

  -- "count the assignments of any of the K labels to them, for each of the S root states"
  count-each : (c : ℕ) → c < state_count r
      → get_or counts' c 0 ≡ counted (rule_automaton r) (label_count r) (plan_tree p) vs c
  count-each c h =
      let f : ℕ → ℕ = counted (rule_automaton r) (label_count r) (plan_tree p) vs in
      ap (λ (l : List ℕ). get_or l c 0) count-tried
      ∙ get_or-append (tabulate (state_count r) f) (drop (state_count r) counts) 0 c
      (omega (arith, length-tabulate (state_count r) f))
      ∙ get_d_tabulate (state_count r) f c h

  -- "and their sum is K to the power m"
  count-sum : sum_to (state_count r) (λ c. get_or counts' c 0) ≡ label_count r ^ length vs
  count-sum =
      sum-ext (state_count r) (λ c. get_or counts' c 0) (counted (rule_automaton r) (label_count r) (plan_tree p) vs)
      count-each
      ∙ calls.count-sum p r node_table state_table vs counts parts links counts' parts' links' E B

  -- "the parts and links told are those of a question whose W is these nodes and the root"
  count-as-asked : (parts' ≡ length (roots (plan_tree p) vs))
      × (links' ≡ question_links (plan_tree p) (roots (plan_tree p) vs))
  count-as-asked = calls.count-as-asked p r node_table state_table vs counts parts links counts' parts' links' E B

-- "With no open node the run's own state has count 1.": and every other state 0, in one part, with no links
count-none-open : (p r node_table state_table counts : List ℕ) (parts links : ℕ) (counts' : List ℕ) (parts' links' : ℕ)
    → CountExported p r node_table state_table [] counts parts links 0 counts' parts' links'
    → AsBuilt p r node_table state_table
    → (parts' ≡ 1) × (links' ≡ 0)
    × ((c : ℕ) → c < state_count r → get_or counts' c 0 ≡ one c (state (rule_automaton r) (plan_tree p)))
count-none-open = ties.count-none-open

-- ---- on any tables

not-18 : (b : Bool) → first_no (check 11 b ∷ []) ≡ 18 → ⊥
unfolding first_no
not-18 true e = omega arith
not-18 false e = omega arith

listed-not-18 : (a b c d f : Bool)
    → first_no (check 17 a ∷ check 12 b ∷ check 13 c ∷ check 15 d ∷ check 26 f ∷ []) ≡ 18 → ⊥
unfolding first_no
listed-not-18 true true true true true z = omega arith
listed-not-18 true true true true false z = omega arith
listed-not-18 true true true false f z = omega arith
listed-not-18 true true false d f z = omega arith
listed-not-18 true false c d f z = omega arith
listed-not-18 false b c d f z = omega arith

module _ (p r node_table state_table vs counts : List ℕ) (parts links n : ℕ) (counts' : List ℕ) (parts' links' : ℕ)
    (E : CountExported p r node_table state_table vs counts parts links n counts' parts' links') where
  -- "its name and its properties stand in the contract": of the result that the call's promise names
  count-promised : CountDone p r node_table state_table vs (count_result p r node_table state_table vs)
  count-promised = E.done

  abbrev D : CountDone p r node_table state_table vs (count_result p r node_table state_table vs)
  D = count-promised

  -- accepted, counts, parts and links are the named value's, which the named result tells
  count-named : n ≡ 0
      → (counts' ≡ over_buffer (state_count r) (count_value p r node_table state_table vs).counts counts)
      × (parts' ≡ (count_value p r node_table state_table vs).parts)
      × (links' ≡ (count_value p r node_table state_table vs).links)
  count-named z = (E.counts_are z, E.parts_are z, E.links_are z)

  -- the call's 18 is the count's own: 11 is checked after it
  own-18 : n ≡ 18 → (count_result p r node_table state_table vs).0 ≡ 18
  unfolding exported_checks count_number
  own-18 e = elim (ℕ_discrete (first_no (count_checks p r node_table state_table vs)) 0) [
    | yes z ↦ absurd (not-18 (leb (state_count r) (length counts))
        (sym (first_no-append-zero (count_checks p r node_table state_table vs)
        (check 11 (leb (state_count r) (length counts)) ∷ []) (checks-numbered p r node_table state_table vs) z)
        ∙ sym E.number ∙ e))
    | no z ↦ D.number
        ∙ sym (first_no-append-no (count_checks p r node_table state_table vs)
        (check 11 (leb (state_count r) (length counts)) ∷ []) z)
        ∙ sym E.number ∙ e
  ]

  -- "18 means that a value read leads outside the plan, the states or the labels, or a climb doesn't rise."
  count-cause-of-18 : n ≡ 18 → PartOutOfRange (count_view p r node_table state_table) [] [] []
  count-cause-of-18 e = D.out_of_range (own-18 e)

  -- "It is never given on tables as built from the plan and rules lent"
  count-never-18 : AsBuilt p r node_table state_table → n ≡ 18 → ⊥
  unfolding listed_checks
  count-never-18 B e =
      listed-not-18 _ _ _ _ _
      (sym (choices.count-number p r node_table state_table vs (count_result p r node_table state_table vs) D B) ∙ own-18 e)

  -- "They are reckoned part by part": where the numbers are as built and the run states and maps are any bytes below
  -- S, an accepted count is what the rule of the parts gives on those bytes (G)
  count-by-parts : n ≡ 0 → (G : Given) → Reads (count_view p r node_table state_table) G → G.labels ≡ labels_of G.tree
      → (counts' ≡ over_buffer (state_count r) (ruled_count G (label_count r) vs).counts counts)
      × (parts' ≡ length (roots G.tree vs)) × (links' ≡ question_links G.tree (roots G.tree vs))
  unfolding exported_checks count_checks count_result
  count-by-parts z G R l =
      let pass : first_no (listed_checks p r (length node_table) (length state_table) vs) ≡ 0 =
      first_no-append-left (listed_checks p r (length node_table) (length state_table) vs)
      (check 18 (is_countable (count_view p r node_table state_table) vs) ∷ [])
      (listed-numbered p r node_table state_table vs)
      (first_no-append-left (count_checks p r node_table state_table vs)
      (check 11 (leb (state_count r) (length counts)) ∷ []) (checks-numbered p r node_table state_table vs)
      (sym E.number ∙ z)) in
      let i : count_value p r node_table state_table vs ≡ ruled_count G (label_count r) vs =
      (value-told (ruled_count G (label_count r) vs) (count_number p r node_table state_table vs)
      (count_value p r node_table state_table vs) (sym (D.rule G R l pass))).1 in (
        E.counts_are z ∙ ap (λ (a : Counted). over_buffer (state_count r) a.counts counts) i,
        E.parts_are z ∙ ap (λ (a : Counted). a.parts) i,
        E.links_are z ∙ ap (λ (a : Counted). a.links) i,
      )
