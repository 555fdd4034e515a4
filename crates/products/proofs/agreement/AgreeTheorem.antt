-- S-13: none is shown exactly where the tables agree, and what is shown separates them, with least height.
--     none-agree       none shown → they agree
--     agree-none       they agree → none shown
--     separating       lines shown → they separate
use Prim.Native.Nat.{ℕ, ◌<◌}
use mathlib.Core.Path.{◌≡◌, refl, sym, ◌∙◌}
use mathlib.Core.Bool.{Bool, true, false}
use mathlib.Core.List.{List}
use mathlib.Core.Option.{Option, none, some}
use native.Mathlib.Omega.{arith}
use Rattle.trees.specs.Tree.{Tree}
use Rattle.trees.specs.Automaton.{Automaton, accepts}
use Rattle.formats.specs.Rules.{label_count, rule_automaton}
use Rattle.formats.proofs.RuleLaws.{RulesPass}
use Rattle.products.specs.Product.{differ}
use Rattle.products.proofs.RulePairs.{pair-leaf-below, pair-step-below, pair-accepts, pair-most}
use Rattle.products.specs.agreement.Lines.{lines_tree}
use Rattle.products.specs.agreement.Agreement.{Agree, Separates}
use Rattle.products.specs.agreement.Answer.{differing, shown_count, shown_lines}
use Rattle.products.proofs.agreement.Emptiness.{Shown, none-accepted, shown-accepted}

differ-not : (a b : Bool) → differ a b ≡ false → a ≡ b
differ-not true true e = refl
differ-not true false e = e
differ-not false true e = sym e
differ-not false false e = refl

differ-yes : (a b : Bool) → differ a b ≡ true → a ≡ b → ⊥
differ-yes true true e q = let z : ◌≡◌ {A = ℕ} 0 1 = cc in omega arith
differ-yes true false e q = let z : ◌≡◌ {A = ℕ} 0 1 = cc in omega arith
differ-yes false true e q = let z : ◌≡◌ {A = ℕ} 0 1 = cc in omega arith
differ-yes false false e q = let z : ◌≡◌ {A = ℕ} 0 1 = cc in omega arith

not-differ : (a b : Bool) → (a ≡ b → ⊥) → differ a b ≡ true
not-differ true true n = absurd (n refl)
not-differ true false n = refl
not-differ false true n = refl
not-differ false false n = absurd (n refl)

module _ (first second : List ℕ) (P : RulesPass first) (Q : RulesPass second) where
  abbrev A : Automaton
  A = rule_automaton first

  abbrev B : Automaton
  B = rule_automaton second

  abbrev K : ℕ
  K = label_count first

  small-leaf : (a : ℕ) → (differing first second).ι a < 256
  small-leaf a = omega (arith, pair-leaf-below differ first second P Q a, pair-most first second P Q)

  small-step : (p a q : ℕ) → (differing first second).δ p a q < 256
  small-step p a q = omega (arith, pair-step-below differ first second P Q p a q, pair-most first second P Q)

  answers : (t : Tree) → accepts (differing first second) t ≡ differ (accepts A t) (accepts B t)
  answers t = pair-accepts differ first second P Q t

  pub none-agree : shown_count first second ≡ none → Agree A B K
  unfolding shown_count
  none-agree e t p =
      differ-not (accepts A t) (accepts B t)
      (sym (answers t) ∙ none-accepted (differing first second) K small-leaf small-step e t p)

  pub separating : (n : ℕ) → shown_count first second ≡ some n → Separates A B K (shown_lines first second n)
  unfolding shown_count shown_lines
  separating n e =
      let S : Shown (differing first second) K small-leaf small-step n =
      shown-accepted (differing first second) K small-leaf small-step n e in
      let t : Tree = lines_tree (shown_lines first second n) in
      record {
        some_lines = S.some_lines;
        at_most = S.at_most;
        good = S.good;
        differ = record {
          a_plan = S.a_plan;
          differs = differ-yes (accepts A t) (accepts B t) (sym
              (answers t) ∙ S.accepted);
        };
        least = λ u d. S.least u d.a_plan (answers u ∙ not-differ (accepts A u) (accepts B u) d.differs);
      }

  pub agree-none : Agree A B K → shown_count first second ≡ none
  agree-none g = go (shown_count first second) refl
    where
      go : (o : Option ℕ) → shown_count first second ≡ o → o ≡ none
      go none e = refl
      go (some n) e =
          let S : Separates A B K (shown_lines first second n) = separating n e in
          absurd (S.differ.differs (g (lines_tree (shown_lines first second n)) S.differ.a_plan))
