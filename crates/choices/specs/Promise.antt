-- What the count promises, on every input and on tables as built.
--
-- counted_with f parts links == the counts f 0, f 1, .. f 15, the parts and the links
-- count_value p r node_table state_table vs == what is counted where no check fails
-- count_result p r node_table state_table vs == what is told, by name, for any inputs
-- CountDone .. t == the promise, of what is told; its named result has it too
--
-- "Given a list of different nodes, count the assignments of any of the K labels to them, for each of the S root
-- states."
use Rattle.std.specs.Prelude.{ℕ, ◌-◌, ◌≤◌, ◌^◌, ◌≡◌, List, [], length, get_or}
use Rattle.std.proofs.Math.Option.{Option, none, some}
use Rattle.list_laws.specs.Rows.{tabulate}
use Rattle.trees.specs.Tree.{size, labels_of}
use Rattle.formats.specs.Limits.{state_limit}
use Rattle.formats.specs.Plan.{node_count, plan_tree}
use Rattle.formats.specs.Rules.{state_count, label_count, rule_automaton}
use Rattle.formats.specs.Checks.{first_no}
use Rattle.formats.specs.Built.{AsBuilt}
use Rattle.formats.specs.Refusals.{told_as}
use Rattle.tables.specs.Climbs.{View}
use Rattle.questions.specs.ready.Members.{roots}
use Rattle.questions.specs.ready.Parts.{Given, question_links}
use Rattle.questions.specs.Promises.{RootsAre, Reads}
use Rattle.questions.specs.OutOfRange.{PartOutOfRange}
use Rattle.choices.specs.assignments.Sums.{sum_to}
use Rattle.choices.specs.assignments.Assignments.{counted}
use Rattle.choices.specs.assignments.PartCounts.{count_for, tallies}
use Rattle.choices.specs.node_counts.Capped.{count_limit}
use Rattle.choices.specs.question_counts.CountOn.{open_in, count_view, roots_in, list_in, count_of, links_of, listed_checks, count_number}
use Rattle.choices.specs.declared.count.Counted.{Counted}

abbrev pub counted_with : (ℕ → ℕ) → ℕ → ℕ → Counted
counted_with f parts links = record { counts = tabulate state_limit f; parts = parts; links = links }

-- the named value on the roots ms
abbrev pub counted_at : View → List ℕ → List ℕ → Counted
counted_at X vs ms = counted_with (count_of X vs ms) (length ms) (links_of X ms)

abbrev pub count_value : List ℕ → List ℕ → List ℕ → List ℕ → List ℕ → Counted
count_value p r node_table state_table vs =
    counted_at (count_view p r node_table state_table) vs (list_in (roots_in (count_view p r node_table state_table) vs))

unfoldable pub count_result : List ℕ → List ℕ → List ℕ → List ℕ → List ℕ → ℕ × Option Counted
count_result p r node_table state_table vs =
    told_as (count_number p r node_table state_table vs) (count_value p r node_table state_table vs)

-- "reckoned part by part", on given bytes: nothing is cut off, their sum is K to the power m there too (proofs/question_counts/RuleTotals)
abbrev pub ruled_count : Given → ℕ → List ℕ → Counted
ruled_count G k vs =
    counted_with (count_for (tallies G k (open_in vs) (roots G.tree vs)) (size G.tree - 1))
    (length (roots G.tree vs)) (question_links G.tree (roots G.tree vs))

-- "those of the definition by trying all"
abbrev pub tried_count : List ℕ → List ℕ → List ℕ → Counted
tried_count p r vs =
    counted_with (counted (rule_automaton r) (label_count r) (plan_tree p) vs) (length (roots (plan_tree p) vs))
    (question_links (plan_tree p) (roots (plan_tree p) vs))

pub record CountDone (p r node_table state_table vs : List ℕ) (t : ℕ × Option Counted) : Type 0 where
  -- on every input: the first failing check of 17, 12, 13, 15, 26 and 18 and nothing more, or the named value
  pub result : t ≡ count_result p r node_table state_table vs
  pub number : t.0 ≡ count_number p r node_table state_table vs
  pub refused : (t.0 ≡ 0 → ⊥) → t ≡ (t.0, none)
  -- 18 only where a value leads outside the plan, the states or the labels, or a link does not rise
  pub out_of_range : t.0 ≡ 18 → PartOutOfRange (count_view p r node_table state_table) [] [] []
  -- for any inputs: counts of states below S alone, none above the limit, and one part for each of the rising roots
  pub states_below : (x : Counted) → t ≡ (0, some x) → (c : ℕ) → state_count r ≤ c → get_or x.counts c 0 ≡ 0
  pub most : (x : Counted) → t ≡ (0, some x) → (c : ℕ) → get_or x.counts c 0 ≤ count_limit
  pub parts_are : (x : Counted) → t ≡ (0, some x) → (ms : List ℕ) → roots_in (count_view p r node_table state_table) vs ≡ some ms
      → (x.parts ≡ length ms) × RootsAre (node_count p) (length vs) ms
  -- numbers as built and bytes below S: what the rule gives on those bytes, never 18
  pub rule : (G : Given) → Reads (count_view p r node_table state_table) G → G.labels ≡ labels_of G.tree
      → first_no (listed_checks p r (length node_table) (length state_table) vs) ≡ 0 → t ≡ (0, some (ruled_count G (label_count r) vs))
  -- tables as built: the definition by trying all
  pub built : AsBuilt p r node_table state_table
      → first_no (listed_checks p r (length node_table) (length state_table) vs) ≡ 0 → t ≡ (0, some (tried_count p r vs))
  pub sum : AsBuilt p r node_table state_table → first_no (listed_checks p r (length node_table) (length state_table) vs) ≡ 0
      → (x : Counted) → t ≡ (0, some x) → sum_to (state_count r) (λ c. get_or x.counts c 0) ≡ label_count r ^ length vs
