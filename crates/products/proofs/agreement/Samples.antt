-- Small tables, computed: the definitions say what they should, and what the theorems ask can be met.
--     after_leaf          clears every plan but a single leaf: S 2, K 1
--     after_leaf_renamed   the same with its two states exchanged: other bytes, the same answers
--     oddly              clears a plan whose two parts get the same answer, and no leaf: differs from after_leaf at height 2
--     renamed-agree      none shown for after_leaf and after_leaf_renamed, though the bytes differ
--     oddly-differs      three lines shown for after_leaf and oddly, and which
use Prim.Native.Nat.{ℕ}
use mathlib.Core.Path.{◌≡◌, refl}
use mathlib.Core.List.{List, [], ◌∷◌}
use mathlib.Core.Option.{none, some}
use native.Mathlib.Omega.{arith}
use lib.ListN.{get_or}
use Rattle.trees.specs.Tree.{leaf, node}
use Rattle.list_laws.specs.Tests.{all_below}
use Rattle.formats.specs.Rules.{rule_automaton}
use Rattle.formats.specs.Checks.{first_no, rule_checks}
use Rattle.formats.proofs.RuleLaws.{rules-pass}
use Rattle.products.specs.agreement.Lines.{leaf_line, inner_line, lines_tree}
use Rattle.products.specs.agreement.Agreement.{Agree, Separates}
use Rattle.products.specs.agreement.Search.{added, over_leaves, over_labels, both_orders, over_found, searched, reached}
use Rattle.products.specs.agreement.Search.{first_accepted}
use Rattle.products.specs.agreement.Answer.{shown_count, shown_lines, agree_checks}
use Rattle.products.proofs.agreement.AgreeTheorem.{none-agree, separating}

-- the header of S 2, K 1, then the bytes given: one leaf state, four inner states, two marks
abbrev pub small : List ℕ → List ℕ
small l = 2 ∷ 0 ∷ 0 ∷ 0 ∷ 1 ∷ 0 ∷ 0 ∷ 0 ∷ 20 ∷ 0 ∷ 0 ∷ 0 ∷ 21 ∷ 0 ∷ 0 ∷ 0 ∷ 25 ∷ 0 ∷ 0 ∷ 0 ∷ l

abbrev pub after_leaf : List ℕ
after_leaf = small (0 ∷ 1 ∷ 1 ∷ 1 ∷ 1 ∷ 0 ∷ 1 ∷ [])

abbrev pub after_leaf_renamed : List ℕ
after_leaf_renamed = small (1 ∷ 0 ∷ 0 ∷ 0 ∷ 0 ∷ 1 ∷ 0 ∷ [])

abbrev pub oddly : List ℕ
oddly = small (0 ∷ 1 ∷ 0 ∷ 0 ∷ 1 ∷ 0 ∷ 1 ∷ [])

-- ---- they pass

pub samples-pass : (first_no (agree_checks after_leaf after_leaf_renamed) ≡ 0) × (first_no (agree_checks after_leaf oddly) ≡ 0)
unfolding first_no agree_checks rule_checks all_below
samples-pass = (refl, refl)

after_leaf-passes : first_no (rule_checks after_leaf) ≡ 0
unfolding first_no rule_checks all_below
after_leaf-passes = refl

renamed-passes : first_no (rule_checks after_leaf_renamed) ≡ 0
unfolding first_no rule_checks all_below
renamed-passes = refl

oddly-passes : first_no (rule_checks oddly) ≡ 0
unfolding first_no rule_checks all_below
oddly-passes = refl

-- ---- different bytes that agree

pub renamed-differs : after_leaf ≡ after_leaf_renamed → ⊥
renamed-differs e = let z : ◌≡◌ {A = ℕ} (get_or after_leaf 20 0) (get_or after_leaf_renamed 20 0) = cc in omega arith

pub renamed-agree : shown_count after_leaf after_leaf_renamed ≡ none
unfolding added over_leaves over_labels both_orders over_found searched reached first_accepted shown_count
renamed-agree = refl

pub renamed-agrees : Agree (rule_automaton after_leaf) (rule_automaton after_leaf_renamed) 1
renamed-agrees =
    none-agree after_leaf after_leaf_renamed (rules-pass after_leaf after_leaf-passes) (rules-pass after_leaf_renamed renamed-passes)
    renamed-agree

-- ---- tables that differ

pub oddly-differs : shown_count after_leaf oddly ≡ some 3
unfolding added over_leaves over_labels both_orders over_found searched reached first_accepted shown_count
oddly-differs = refl

pub oddly-shown : shown_lines after_leaf oddly 3 ≡ leaf_line 0 ∷ inner_line 0 0 0 ∷ inner_line 0 1 0 ∷ []
unfolding added over_leaves over_labels both_orders over_found searched reached shown_lines
oddly-shown = refl

pub oddly-tree : lines_tree (leaf_line 0 ∷ inner_line 0 0 0 ∷ inner_line 0 1 0 ∷ []) ≡ node (node (leaf 0) 0 (leaf 0)) 0 (leaf 0)
unfolding lines_tree
oddly-tree = refl

-- a plan of height 2 is shown, so no plan of less height separates them
pub oddly-separates : Separates (rule_automaton after_leaf) (rule_automaton oddly) 1 (shown_lines after_leaf oddly 3)
oddly-separates =
    separating after_leaf oddly (rules-pass after_leaf after_leaf-passes) (rules-pass oddly oddly-passes) 3 oddly-differs
