-- The main theorems of agreement (document 02, S-13), each by citing what is below.
--     agreement-exactly    none is shown exactly where every plan gets the same answer from both
--     shown-separates      what is shown is a plan of at most 256 good lines on which the answers differ, of least height
--     search-reaches       every plan's state is found, by a line of no more height
-- Both tables pass 6 to 9. 23 is a refusal of the call and no premise: the statements are about plans of the first table's labels.
-- Computed examples: Samples.
use Prim.Native.Nat.{ℕ, ◌<◌}
use mathlib.Core.Path.{◌≡◌}
use mathlib.Core.List.{List}
use mathlib.Core.Option.{none, some}
use Rattle.trees.specs.Tree.{Tree, height}
use Rattle.trees.specs.Automaton.{Automaton, state}
use Rattle.formats.specs.Rules.{label_count, rule_automaton}
use Rattle.formats.proofs.RuleLaws.{RulesPass}
use Rattle.products.specs.Plans.{PlanOf}
use Rattle.products.specs.agreement.Agreement.{Agree, Separates}
use Rattle.products.specs.agreement.Search.{reached}
use Rattle.products.specs.agreement.Answer.{shown_count, shown_lines}
use Rattle.products.proofs.agreement.FoundLaws.{Has}
use Rattle.products.proofs.agreement.SearchLaws.{reaches}
use Rattle.products.proofs.agreement.AgreeTheorem.{none-agree, agree-none, separating}

-- "The reply is agreement, exactly when that holds"
pub agreement-exactly : (first second : List ℕ) → RulesPass first → RulesPass second
    → (shown_count first second ≡ none → Agree (rule_automaton first) (rule_automaton second) (label_count first))
    × (Agree (rule_automaton first) (rule_automaton second) (label_count first) → shown_count first second ≡ none)
agreement-exactly first second P Q = (none-agree first second P Q, agree-none first second P Q)

-- "or else, by value, a separating plan as at most 256 lines"
pub shown-separates : (first second : List ℕ) → RulesPass first → RulesPass second → (n : ℕ)
    → shown_count first second ≡ some n
    → Separates (rule_automaton first) (rule_automaton second) (label_count first) (shown_lines first second n)
shown-separates = separating

pub search-reaches : (A : Automaton) (k : ℕ) → ((a : ℕ) → A.ι a < 256) → ((p a q : ℕ) → A.δ p a q < 256) → (t : Tree)
    → PlanOf k t
    → Has (reached A k) (state A t) (height t)
search-reaches = reaches
