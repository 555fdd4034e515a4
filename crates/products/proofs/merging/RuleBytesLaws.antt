-- A rule table's bytes from its runs: the header and the runs are read back, and the checks pass.
--     rule_bytes-passes       6 to 9 pass
--     rule_bytes-automaton    the automaton of the bytes is that of the runs
use Prim.Native.Nat.{ℕ, ◌+◌, ◌*◌, ◌≤◌}
use mathlib.Core.Path.{◌≡◌, refl, sym, ap, ap₂, ◌∙◌}
use mathlib.Core.Bool.{true}
use mathlib.Core.List.{List, ◌++◌}
use native.Mathlib.Omega.{arith}
use lib.ListN.{length, take, drop, length-append}
use lib.Seq.{take_at, drop_at, drop-drop, take_all}
use Rattle.formats.specs.Bytes.{le32}
use Rattle.list_laws.specs.Tests.{all_below}
use Rattle.formats.specs.Rules.{state_count, label_count, rule_length, leaf_states, inner_states, rule_marks, tree_automaton}
use Rattle.formats.specs.Rules.{rule_automaton}
use Rattle.formats.proofs.ByteLaws.{bytes-number}
use Rattle.formats.proofs.RuleAnswers.{product-inner}
use Rattle.formats.proofs.RuleLaws.{RulesPass}
use Rattle.products.specs.merging.Merged.{rule_head, rule_bytes}

pub record Runs (s k : ℕ) (lv inn mk : List ℕ) : Type 0 where
  pub states-least : 1 ≤ s
  pub states_most : s ≤ 16
  pub labels_least : 1 ≤ k
  pub labels_most : k ≤ 64
  pub leaves : length lv ≡ k
  pub inner : length inn ≡ s * k * s
  pub marks : length mk ≡ s
  pub leaves-below : all_below s lv ≡ true
  pub inner_below : all_below s inn ≡ true
  pub marks-below : all_below 2 mk ≡ true

module _ (s k : ℕ) (lv inn mk : List ℕ) (R : Runs s k lv inn mk) where
  abbrev b : List ℕ
  b = rule_bytes s k lv inn mk

  small : s * k * s ≤ 16384
  small = (product-inner s k R.states_most R.labels_most).1

  states_are : state_count b ≡ s
  unfolding rule_bytes rule_head
  states_are = bytes-number s (omega (arith, R.states_most))

  labels_are : label_count b ≡ k
  unfolding rule_bytes rule_head
  labels_are = bytes-number k (omega (arith, R.labels_most))

  inner-offset : le32 b 12 ≡ 20 + k
  unfolding rule_bytes rule_head
  inner-offset = bytes-number (20 + k) (omega (arith, R.labels_most))

  marks-offset : le32 b 16 ≡ 20 + k + s * k * s
  unfolding rule_bytes rule_head
  marks-offset = bytes-number (20 + k + s * k * s) (omega (arith, R.labels_most, small))

  leaves-offset : le32 b 8 ≡ 20
  unfolding rule_bytes rule_head
  leaves-offset = refl

  behind : drop 20 b ≡ lv ++ (inn ++ mk)
  unfolding rule_bytes rule_head
  behind = refl

  pub length-rule_bytes : length b ≡ rule_length s k
  unfolding rule_bytes rule_head
  length-rule_bytes = omega (arith, length-append lv (inn ++ mk), length-append inn mk, R.leaves, R.inner, R.marks)

  leaves-are : leaf_states b ≡ lv
  leaves-are = ap₂ (λ (n : ℕ) (l : List ℕ). take n l) labels_are behind ∙ take_at lv (inn ++ mk) k R.leaves

  after-leaves : drop (20 + k) b ≡ inn ++ mk
  after-leaves = sym (drop-drop k 20 b) ∙ ap (drop k) behind ∙ drop_at lv (inn ++ mk) k R.leaves

  inner-are : inner_states b ≡ inn
  inner-are =
      ap₂ (λ (x y : ℕ). take (x * y * x) (drop (20 + y) b)) states_are labels_are
      ∙ ap (take (s * k * s)) after-leaves
      ∙ take_at inn mk (s * k * s) R.inner

  marks-are : rule_marks b ≡ mk
  marks-are =
      ap₂ (λ (x y : ℕ). take x (drop (20 + y + x * y * x) b)) states_are labels_are
      ∙ ap (take s) (sym (drop-drop (s * k * s) (20 + k) b) ∙ ap (drop (s * k * s)) after-leaves ∙ drop_at inn mk
      (s * k * s) R.inner)
      ∙ take_all s mk (omega (arith, R.marks))

  pub rule_bytes-passes : RulesPass (rule_bytes s k lv inn mk)
  rule_bytes-passes = record {
    long = omega (arith, length-rule_bytes);
    states-least = omega (arith, states_are, R.states-least);
    states_most = omega (arith, states_are, R.states_most);
    labels_least = omega (arith, labels_are, R.labels_least);
    labels_most = omega (arith, labels_are, R.labels_most);
    leaves_at = leaves-offset;
    inner-at = omega (arith, inner-offset, labels_are);
    marks-at = marks-offset ∙ sym (ap₂ (λ (x y : ℕ). 20 + y + x * y * x) states_are labels_are);
    exact = length-rule_bytes ∙ sym (ap₂ rule_length states_are labels_are);
    leaves-below = ap₂ all_below states_are leaves-are ∙ R.leaves-below;
    inner_below = ap₂ all_below states_are inner-are ∙ R.inner_below;
    marks-below = ap (all_below 2) marks-are ∙ R.marks-below;
  }

  pub rule_bytes-labels : label_count (rule_bytes s k lv inn mk) ≡ k
  rule_bytes-labels = labels_are

  pub rule_bytes-states : state_count (rule_bytes s k lv inn mk) ≡ s
  rule_bytes-states = states_are

  pub rule_bytes-automaton : rule_automaton (rule_bytes s k lv inn mk) ≡ tree_automaton s k lv inn mk
  rule_bytes-automaton =
      ap₂ (λ (x y : ℕ). tree_automaton x y (leaf_states b) (inner_states b) (rule_marks b)) states_are labels_are
      ∙ ap₂ (λ (x y : List ℕ). tree_automaton s k x y (rule_marks b)) leaves-are inner-are
      ∙ ap (tree_automaton s k lv inn) marks-are
