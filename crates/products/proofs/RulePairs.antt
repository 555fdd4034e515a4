-- The product of two rule tables that pass 6 to 9.
--     states_below             a table's states are below its S
--     pair-leaf-below          the product's leaf states are below S1 × S2
--     pair-step-below          so are its inner states, and with them every state of its run
--     pair-run, pair-accepts   the product's run is the pair of runs; its answer is that of the two
--     pair-count, pair-most    there is 1 state at least, and at most 256
use Prim.Native.Nat.{ℕ, ◌+◌, ◌*◌, ◌≤◌, ◌<◌}
use mathlib.Core.Path.{◌≡◌}
use mathlib.Core.Bool.{Bool}
use mathlib.Core.List.{List}
use native.Mathlib.Omega.{arith}
use lib.Arith.{digits_lt}
use Rattle.trees.specs.Tree.{Tree}
use Rattle.trees.specs.Automaton.{Automaton, run, state, accepts}
use Rattle.list_laws.proofs.RowLaws.{stride}
use Rattle.trees.proofs.RunLaws.{state_below}
use Rattle.formats.specs.Rules.{state_count, label_count, rule_automaton}
use Rattle.formats.proofs.PlanLaws.{product-most}
use Rattle.formats.proofs.RuleLaws.{RulesPass, leaf-state-below, inner-state-below}
use Rattle.products.specs.Product.{product, pair_tree}
use Rattle.products.proofs.ProductRuns.{product-run, product-accepts}

pub states_below : (r : List ℕ) → RulesPass r → (t : Tree) → state (rule_automaton r) t < state_count r
states_below r P t =
    state_below (rule_automaton r) (leaf-state-below r P)
    (λ p a q. inner-state-below r P ((p * label_count r + a) * state_count r + q)) t

module _ (f : Bool → Bool → Bool) (first second : List ℕ) (P : RulesPass first) (Q : RulesPass second) where
  abbrev pub pair_of : Automaton
  pair_of = product f (rule_automaton first) (rule_automaton second)

  pub pair-leaf-below : (a : ℕ) → pair_of.ι a < state_count first * state_count second
  pair-leaf-below a = digits_lt (leaf-state-below first P a) (leaf-state-below second Q a)

  pub pair-step-below : (p a q : ℕ) → pair_of.δ p a q < state_count first * state_count second
  pair-step-below p a q = digits_lt (inner-state-below first P _) (inner-state-below second Q _)

  pub pair-below : (t : Tree) → state pair_of t < state_count first * state_count second
  pair-below t = state_below pair_of pair-leaf-below pair-step-below t

  pub pair-run : (t : Tree)
      → run pair_of t ≡ pair_tree (state_count second) (run (rule_automaton first) t) (run (rule_automaton second) t)
  pair-run t = product-run f (rule_automaton first) (rule_automaton second) (states_below second Q) t

  pub pair-accepts : (t : Tree) → accepts pair_of t ≡ f (accepts (rule_automaton first) t) (accepts (rule_automaton second) t)
  pair-accepts t = product-accepts f (rule_automaton first) (rule_automaton second) (states_below second Q) t

module _ (first second : List ℕ) (P : RulesPass first) (Q : RulesPass second) where
  pub pair-count : 1 ≤ state_count first * state_count second
  pair-count = omega (arith, stride (state_count second) 0 (state_count first) P.states-least, Q.states-least)

  pub pair-most : state_count first * state_count second ≤ 256
  pair-most = product-most (state_count first) (state_count second) 16 16 P.states_most Q.states_most
