-- Branch tables that pass 6 to 9.
--     BranchPasses r              what the four checks say of a branch table, by name; branch-passes, passes-branch: exactly where
--                                 none fails
--     branch-numbered             no check has the number 0
--     length-branch_steps, length-branch_marks
--     step_below, branch-mark-below
--                                 every state and mark in its limit, at every index: past the end it is 0
--     steps-part, branch-marks-part
--                                 what `&branch[16..16 + s * k]` and `&branch[16 + s * k..]` are to a proof
use Prim.Native.Nat.{ℕ, ◌+◌, ◌-◌, ◌*◌, ◌≤◌, ◌<◌}
use mathlib.Core.Path.{◌≡◌, sym, ap₂, ◌∙◌}
use mathlib.Core.Bool.{Bool, true, ◌&&◌}
use mathlib.Core.List.{List}
use native.Mathlib.Omega.{arith}
use lib.Dec.{leb, eqb}
use lib.ListN.{length, take, drop, get_or}
use borrow.Author.Tests.{leb-true, le-leb, eqb-true, eq-eqb}
use Rattle.formats.specs.Bytes.{le32}
use Rattle.list_laws.specs.Tests.{all_below}
use Rattle.formats.specs.Limits.{state_limit, label_limit, within}
use Rattle.formats.specs.Rules.{state_count, label_count, branch_length, branch_steps, branch_marks}
use Rattle.formats.specs.Checks.{first_no, branch_checks}
use Rattle.formats.specs.inner.InnerChecks.{counts_fit, branch_shape, branch_values}
use Rattle.formats.proofs.CheckLaws.{Numbered}
use Rattle.list_laws.proofs.BoolLaws.{and_both, and_left, and_right}
use Rattle.list_laws.proofs.TestLaws.{all_below-all}
use Rattle.formats.proofs.FourChecks.{four-pass, pass-four}
use Rattle.list_laws.proofs.SliceLaws.{end-part, run-part, length_part}
use Rattle.formats.proofs.PlanLaws.{within_low, within-high, same_left, same-both}
use Rattle.formats.proofs.RuleLaws.{counts-fit}

pub record BranchPasses (r : List ℕ) : Type 0 where
  pub long : 16 ≤ length r
  pub states-least : 1 ≤ state_count r
  pub states_most : state_count r ≤ 16
  pub labels_least : 1 ≤ label_count r
  pub labels_most : label_count r ≤ 64
  pub steps-at : le32 r 8 ≡ 16
  pub marks-at : le32 r 12 ≡ 16 + state_count r * label_count r
  pub exact : length r ≡ branch_length (state_count r) (label_count r)
  pub steps_below : all_below (state_count r) (branch_steps r) ≡ true
  pub marks-below : all_below 2 (branch_marks r) ≡ true

-- ---- the checks

-- the last parts of check 8
abbrev branch_end : List ℕ → Bool
branch_end r = eqb (length r) (branch_length (state_count r) (label_count r))

abbrev branch_marks_at : List ℕ → Bool
branch_marks_at r = eqb (le32 r 12) (16 + state_count r * label_count r) && branch_end r

module _ (r : List ℕ) where
  pub branch-passes : first_no (branch_checks r) ≡ 0 → BranchPasses r
  unfolding branch_checks
  branch-passes e =
      let q : (leb 16 (length r) ≡ true) × (counts_fit (state_count r) (label_count r) ≡ true) × (branch_shape r (state_count r) (label_count r) ≡ true)
      × (branch_values r (state_count r) (label_count r) ≡ true) =
      four-pass 5 6 7 8 (leb 16 (length r)) (counts_fit (state_count r) (label_count r)) (branch_shape r (state_count r) (label_count r))
      (branch_values r (state_count r) (label_count r)) e in
      let s : within 1 state_limit (state_count r) ≡ true = and_left (within 1 state_limit (state_count r)) (within 1 label_limit (label_count r)) q.1 in
      let k : within 1 label_limit (label_count r) ≡ true = and_right (within 1 state_limit (state_count r)) (within 1 label_limit (label_count r)) q.1 in
      let marks : branch_marks_at r ≡ true = and_right (eqb (le32 r 8) 16) (branch_marks_at r) q.2 in
      let marks_start : ℕ = 16 + state_count r * label_count r in
      record {
        long = leb-true 16 (length r) q.0;
        states-least = within_low 1 state_limit (state_count r) s;
        states_most = within-high 1 state_limit (state_count r) s;
        labels_least = within_low 1 label_limit (label_count r) k;
        labels_most = within-high 1 label_limit (label_count r) k;
        steps-at = same_left (le32 r 8) 16 (branch_marks_at r) q.2;
        marks-at = same_left (le32 r 12) marks_start (branch_end r) marks;
        exact = eqb-true (length r) (branch_length (state_count r) (label_count r)) (and_right (eqb (le32 r 12) marks_start) (branch_end r) marks);
        steps_below = and_left (all_below (state_count r) (branch_steps r)) (all_below 2 (branch_marks r)) q.3;
        marks-below = and_right (all_below (state_count r) (branch_steps r)) (all_below 2 (branch_marks r)) q.3;
      }

  pub branch-shape : le32 r 8 ≡ 16 → le32 r 12 ≡ 16 + state_count r * label_count r → length r ≡ branch_length (state_count r) (label_count r)
      → branch_shape r (state_count r) (label_count r) ≡ true
  branch-shape a b c =
      same-both (le32 r 8) 16 (branch_marks_at r) a
      (same-both (le32 r 12) (16 + state_count r * label_count r) (branch_end r) b
      (eq-eqb (length r) (branch_length (state_count r) (label_count r)) c))

  pub passes-branch : BranchPasses r → first_no (branch_checks r) ≡ 0
  unfolding branch_checks
  passes-branch h =
      pass-four 5 6 7 8 (leb 16 (length r)) (counts_fit (state_count r) (label_count r)) (branch_shape r (state_count r) (label_count r))
      (branch_values r (state_count r) (label_count r))
      (le-leb 16 (length r) h.long)
      (counts-fit (state_count r) (label_count r) h.states-least h.states_most h.labels_least h.labels_most)
      (branch-shape h.steps-at h.marks-at h.exact)
      (and_both (all_below (state_count r) (branch_steps r)) (all_below 2 (branch_marks r)) h.steps_below h.marks-below)

  pub branch-numbered : Numbered (branch_checks r)
  unfolding branch_checks
  branch-numbered = (omega arith, (omega arith, (omega arith, (omega arith, tt))))

-- ---- the runs of a branch table that passes

module _ (r : List ℕ) (h : BranchPasses r) where
  pub length-branch_steps : length (branch_steps r) ≡ state_count r * label_count r
  length-branch_steps = length_part r 16 (state_count r * label_count r) (omega (arith, h.exact))

  pub length-branch_marks : length (branch_marks r) ≡ state_count r
  length-branch_marks = length_part r (16 + state_count r * label_count r) (state_count r) (omega (arith, h.exact))

  pub step_below : (j : ℕ) → get_or (branch_steps r) j 0 < state_count r
  step_below j = all_below-all (state_count r) (branch_steps r) h.steps_below h.states-least j

  pub branch-mark-below : (q : ℕ) → get_or (branch_marks r) q 0 < 2
  branch-mark-below q = all_below-all 2 (branch_marks r) h.marks-below (omega arith) q

-- ---- the parts that are handed on

pub steps-part : (r : List ℕ) (s k : ℕ) → s ≡ state_count r → k ≡ label_count r → take (16 + s * k - 16) (drop 16 r) ≡ branch_steps r
steps-part r s k d e = run-part r 16 (s * k) ∙ ap₂ (λ (i j : ℕ). take (i * j) (drop 16 r)) d e

-- it holds already where the length is exact
pub branch-marks-part-exact : (r : List ℕ) (s k : ℕ) → length r ≡ branch_length (state_count r) (label_count r) → s ≡ state_count r
    → k ≡ label_count r → take (length r - (16 + s * k)) (drop (16 + s * k) r) ≡ branch_marks r
branch-marks-part-exact r s k h d e =
    let long : length r ≡ 16 + s * k + s = h ∙ sym (ap₂ (λ (i j : ℕ). branch_length i j) d e) in
    end-part r (16 + s * k) s long ∙ ap₂ (λ (i j : ℕ). take i (drop (16 + i * j) r)) d e

pub branch-marks-part : (r : List ℕ) (s k : ℕ) → BranchPasses r → s ≡ state_count r → k ≡ label_count r
    → take (length r - (16 + s * k)) (drop (16 + s * k) r) ≡ branch_marks r
branch-marks-part r s k h d e = branch-marks-part-exact r s k h.exact d e
