-- The main theorems of products, each by citing what is below.
--     run-of-pair       the product's run is the pair of runs, at every node of every tree
--     answer-of-pair    its answer is the operation on the two answers
--     tables-run, tables-answer    so for two rule tables that pass 6 to 9
use Prim.Native.Nat.{ℕ, ◌<◌}
use mathlib.Core.Path.{◌≡◌}
use mathlib.Core.Bool.{Bool}
use mathlib.Core.List.{List}
use Rattle.trees.specs.Tree.{Tree}
use Rattle.trees.specs.Automaton.{Automaton, run, state, accepts}
use Rattle.formats.specs.Rules.{state_count, rule_automaton}
use Rattle.formats.proofs.RuleLaws.{RulesPass}
use Rattle.products.specs.Product.{product, pair_tree}
use Rattle.products.proofs.ProductRuns.{product-run, product-accepts}
use Rattle.products.proofs.RulePairs.{pair-run, pair-accepts}

-- "the run of the merged table is the pair of runs on every plan"
pub run-of-pair : (f : Bool → Bool → Bool) (A B : Automaton) → ((t : Tree) → state B t < B.states) → (t : Tree)
    → run (product f A B) t ≡ pair_tree B.states (run A t) (run B t)
run-of-pair = product-run

pub answer-of-pair : (f : Bool → Bool → Bool) (A B : Automaton) → ((t : Tree) → state B t < B.states) → (t : Tree)
    → accepts (product f A B) t ≡ f (accepts A t) (accepts B t)
answer-of-pair = product-accepts

pub tables-run : (f : Bool → Bool → Bool) (first second : List ℕ) → RulesPass first → RulesPass second → (t : Tree)
    → run (product f (rule_automaton first) (rule_automaton second)) t
    ≡ pair_tree (state_count second) (run (rule_automaton first) t) (run (rule_automaton second) t)
tables-run = pair-run

pub tables-answer : (f : Bool → Bool → Bool) (first second : List ℕ) → RulesPass first → RulesPass second → (t : Tree)
    → accepts (product f (rule_automaton first) (rule_automaton second)) t
    ≡ f (accepts (rule_automaton first) t) (accepts (rule_automaton second) t)
tables-answer = pair-accepts
