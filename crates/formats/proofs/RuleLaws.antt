-- Rule tables that pass 6 to 9.
--     RulesPass r                 what the four checks say of a rule table, by name; rules-pass, pass-rules: exactly where none fails
--     rules-numbered              no check has the number 0
--     length-leaf_states, length-inner_states, length-rule_marks
--     leaf-state-below, inner-state-below, mark-below
--                                 every state and mark in its limit, at every index: past the end it is 0
--     rule-in                     the index of a rule is inside the inner states
--     leaves-part, inner-part, marks-part
--                                 what `&rules[20..20 + k]`, `&rules[20 + k..20 + k + s * k * s]` and the rest are to a proof
use Prim.Native.Nat.{ℕ, ◌+◌, ◌-◌, ◌*◌, ◌≤◌, ◌<◌}
use mathlib.Core.Path.{◌≡◌, sym, ap, ap₂, ◌∙◌}
use mathlib.Core.Bool.{Bool, true, ◌&&◌}
use mathlib.Core.List.{List}
use native.Mathlib.Omega.{arith}
use lib.Dec.{leb, eqb}
use lib.ListN.{length, take, drop, get_or}
use borrow.Author.Tests.{leb-true, le-leb, eqb-true, eq-eqb}
use Rattle.list_laws.proofs.RowLaws.{stride}
use Rattle.formats.specs.Bytes.{le32}
use Rattle.list_laws.specs.Tests.{all_below}
use Rattle.formats.specs.Limits.{state_limit, label_limit, within}
use Rattle.formats.specs.Rules.{state_count, label_count, rule_length, leaf_states, inner_states, rule_marks}
use Rattle.formats.specs.Checks.{first_no, rule_checks}
use Rattle.formats.specs.inner.InnerChecks.{counts_fit, rule_shape, rule_values}
use Rattle.formats.proofs.CheckLaws.{Numbered}
use Rattle.list_laws.proofs.BoolLaws.{and_both, and_left, and_right}
use Rattle.list_laws.proofs.TestLaws.{all_below-all}
use Rattle.formats.proofs.FourChecks.{four-pass, pass-four}
use Rattle.list_laws.proofs.SliceLaws.{end-part, run-part, length_part}
use Rattle.formats.proofs.PlanLaws.{within_low, within-high, is_within, same_left, same-both}

pub record RulesPass (r : List ℕ) : Type 0 where
  pub long : 20 ≤ length r
  pub states-least : 1 ≤ state_count r
  pub states_most : state_count r ≤ 16
  pub labels_least : 1 ≤ label_count r
  pub labels_most : label_count r ≤ 64
  pub leaves_at : le32 r 8 ≡ 20
  pub inner-at : le32 r 12 ≡ 20 + label_count r
  pub marks-at : le32 r 16 ≡ 20 + label_count r + state_count r * label_count r * state_count r
  pub exact : length r ≡ rule_length (state_count r) (label_count r)
  pub leaves-below : all_below (state_count r) (leaf_states r) ≡ true
  pub inner_below : all_below (state_count r) (inner_states r) ≡ true
  pub marks-below : all_below 2 (rule_marks r) ≡ true

-- "the state for left p, label a, right q at (p×K+a)×S+q"
pub rule-in : (s k p a q : ℕ) → p < s → a < k → q < s → (p * k + a) * s + q < s * k * s
rule-in s k p a q hp ha hq = omega (arith, stride s (p * k + a) (s * k) (omega (arith, stride k p s hp)))

-- ---- the checks

-- the last parts of checks 8 and 9
abbrev rule_end : List ℕ → Bool
rule_end r = eqb (length r) (rule_length (state_count r) (label_count r))

abbrev rule_marks_at : List ℕ → Bool
rule_marks_at r = eqb (le32 r 16) (20 + label_count r + state_count r * label_count r * state_count r) && rule_end r

abbrev rule_inner_at : List ℕ → Bool
rule_inner_at r = eqb (le32 r 12) (20 + label_count r) && rule_marks_at r

abbrev inner_and_marks : List ℕ → Bool
inner_and_marks r = all_below (state_count r) (inner_states r) && all_below 2 (rule_marks r)

pub counts-fit : (s k : ℕ) → 1 ≤ s → s ≤ 16 → 1 ≤ k → k ≤ 64 → counts_fit s k ≡ true
counts-fit s k a b c d =
    and_both (within 1 state_limit s) (within 1 label_limit k) (is_within 1 state_limit s a b) (is_within 1 label_limit k c d)

module _ (r : List ℕ) where
  pub rules-pass : first_no (rule_checks r) ≡ 0 → RulesPass r
  unfolding rule_checks
  rules-pass e =
      let q : (leb 20 (length r) ≡ true) × (counts_fit (state_count r) (label_count r) ≡ true) × (rule_shape r (state_count r) (label_count r) ≡ true)
      × (rule_values r (state_count r) (label_count r) ≡ true) =
      four-pass 5 6 7 8 (leb 20 (length r)) (counts_fit (state_count r) (label_count r)) (rule_shape r (state_count r) (label_count r))
      (rule_values r (state_count r) (label_count r)) e in
      let s : within 1 state_limit (state_count r) ≡ true = and_left (within 1 state_limit (state_count r)) (within 1 label_limit (label_count r)) q.1 in
      let k : within 1 label_limit (label_count r) ≡ true = and_right (within 1 state_limit (state_count r)) (within 1 label_limit (label_count r)) q.1 in
      let inner : rule_inner_at r ≡ true = and_right (eqb (le32 r 8) 20) (rule_inner_at r) q.2 in
      let marks : rule_marks_at r ≡ true = and_right (eqb (le32 r 12) (20 + label_count r)) (rule_marks_at r) inner in
      let marks_start : ℕ = 20 + label_count r + state_count r * label_count r * state_count r in
      let values : inner_and_marks r ≡ true = and_right (all_below (state_count r) (leaf_states r)) (inner_and_marks r) q.3 in
      record {
        long = leb-true 20 (length r) q.0;
        states-least = within_low 1 state_limit (state_count r) s;
        states_most = within-high 1 state_limit (state_count r) s;
        labels_least = within_low 1 label_limit (label_count r) k;
        labels_most = within-high 1 label_limit (label_count r) k;
        leaves_at = same_left (le32 r 8) 20 (rule_inner_at r) q.2;
        inner-at = same_left (le32 r 12) (20 + label_count r) (rule_marks_at r) inner;
        marks-at = same_left (le32 r 16) marks_start (rule_end r) marks;
        exact = eqb-true (length r) (rule_length (state_count r) (label_count r)) (and_right (eqb (le32 r 16) marks_start) (rule_end r) marks);
        leaves-below = and_left (all_below (state_count r) (leaf_states r)) (inner_and_marks r) q.3;
        inner_below = and_left (all_below (state_count r) (inner_states r)) (all_below 2 (rule_marks r)) values;
        marks-below = and_right (all_below (state_count r) (inner_states r)) (all_below 2 (rule_marks r)) values;
      }

  pub rule-shape : le32 r 8 ≡ 20 → le32 r 12 ≡ 20 + label_count r
      → le32 r 16 ≡ 20 + label_count r + state_count r * label_count r * state_count r
      → length r ≡ rule_length (state_count r) (label_count r) → rule_shape r (state_count r) (label_count r) ≡ true
  rule-shape a b c d =
      same-both (le32 r 8) 20 (rule_inner_at r) a
      (same-both (le32 r 12) (20 + label_count r) (rule_marks_at r) b
      (same-both (le32 r 16) (20 + label_count r + state_count r * label_count r * state_count r) (rule_end r) c
      (eq-eqb (length r) (rule_length (state_count r) (label_count r)) d)))

  pub pass-rules : RulesPass r → first_no (rule_checks r) ≡ 0
  unfolding rule_checks
  pass-rules h =
      pass-four 5 6 7 8 (leb 20 (length r)) (counts_fit (state_count r) (label_count r)) (rule_shape r (state_count r) (label_count r))
      (rule_values r (state_count r) (label_count r))
      (le-leb 20 (length r) h.long)
      (counts-fit (state_count r) (label_count r) h.states-least h.states_most h.labels_least h.labels_most)
      (rule-shape h.leaves_at h.inner-at h.marks-at h.exact)
      (and_both (all_below (state_count r) (leaf_states r)) (inner_and_marks r) h.leaves-below
      (and_both (all_below (state_count r) (inner_states r)) (all_below 2 (rule_marks r)) h.inner_below h.marks-below))

  pub rules-numbered : Numbered (rule_checks r)
  unfolding rule_checks
  rules-numbered = (omega arith, (omega arith, (omega arith, (omega arith, tt))))

-- ---- the runs of a rule table that passes

module _ (r : List ℕ) (h : RulesPass r) where
  pub length-leaf_states : length (leaf_states r) ≡ label_count r
  length-leaf_states = length_part r 20 (label_count r) (omega (arith, h.exact))

  pub length-inner_states : length (inner_states r) ≡ state_count r * label_count r * state_count r
  length-inner_states = length_part r (20 + label_count r) (state_count r * label_count r * state_count r) (omega (arith, h.exact))

  pub length-rule_marks : length (rule_marks r) ≡ state_count r
  length-rule_marks =
      length_part r (20 + label_count r + state_count r * label_count r * state_count r) (state_count r) (omega (arith, h.exact))

  pub leaf-state-below : (a : ℕ) → get_or (leaf_states r) a 0 < state_count r
  leaf-state-below a = all_below-all (state_count r) (leaf_states r) h.leaves-below h.states-least a

  pub inner-state-below : (j : ℕ) → get_or (inner_states r) j 0 < state_count r
  inner-state-below j = all_below-all (state_count r) (inner_states r) h.inner_below h.states-least j

  pub mark-below : (q : ℕ) → get_or (rule_marks r) q 0 < 2
  mark-below q = all_below-all 2 (rule_marks r) h.marks-below (omega arith) q

-- ---- the parts that are handed on

pub leaves-part : (r : List ℕ) (k : ℕ) → k ≡ label_count r → take (20 + k - 20) (drop 20 r) ≡ leaf_states r
leaves-part r k e = run-part r 20 k ∙ ap (λ (i : ℕ). take i (drop 20 r)) e

pub inner-part : (r : List ℕ) (s k : ℕ) → s ≡ state_count r → k ≡ label_count r
    → take (20 + k + s * k * s - (20 + k)) (drop (20 + k) r) ≡ inner_states r
inner-part r s k d e = run-part r (20 + k) (s * k * s) ∙ ap₂ (λ (i j : ℕ). take (i * j * i) (drop (20 + j) r)) d e

-- it holds already where the length is exact
pub marks-part-exact : (r : List ℕ) (s k : ℕ) → length r ≡ rule_length (state_count r) (label_count r) → s ≡ state_count r → k ≡ label_count r
    → take (length r - (20 + k + s * k * s)) (drop (20 + k + s * k * s) r) ≡ rule_marks r
marks-part-exact r s k h d e =
    let long : length r ≡ 20 + k + s * k * s + s = h ∙ sym (ap₂ (λ (i j : ℕ). rule_length i j) d e) in
    end-part r (20 + k + s * k * s) s long ∙ ap₂ (λ (i j : ℕ). take i (drop (20 + j + i * j * i) r)) d e

pub marks-part : (r : List ℕ) (s k : ℕ) → RulesPass r → s ≡ state_count r → k ≡ label_count r
    → take (length r - (20 + k + s * k * s)) (drop (20 + k + s * k * s) r) ≡ rule_marks r
marks-part r s k h d e = marks-part-exact r s k h.exact d e
