-- The number that each refusal of a branch table gives, 6 to 9, and the answers of the functions below, by what the code finds.
--     steps-off .. branch-end     check 8 by its parts
--     values-steps, values-branch check 9 by its parts
--     branch-6 .. branch-good     the answers
use Prim.Native.Nat.{ℕ, ◌+◌, ◌-◌, ◌*◌, ◌≤◌, ◌<◌}
use mathlib.Core.Path.{◌≡◌, sym, ap, ap₂, ◌∙◌}
use mathlib.Core.Bool.{Bool, true, false, not, ◌&&◌}
use mathlib.Core.List.{List}
use native.Mathlib.Omega.{arith}
use lib.Dec.{leb, eqb}
use lib.ListN.{length, take, drop}
use borrow.Author.Tests.{le-leb, lt-leb, eq-eqb, ne_eqb, eqb-true, not-true, not-false}
use Rattle.formats.specs.Bytes.{le32}
use Rattle.list_laws.specs.Tests.{all_below}
use Rattle.formats.specs.Rules.{state_count, label_count, branch_length}
use Rattle.formats.specs.Checks.{first_no, branch_checks}
use Rattle.formats.specs.inner.InnerChecks.{counts_fit, branch_shape, branch_values}
use Rattle.list_laws.proofs.BoolLaws.{and_right}
use Rattle.formats.proofs.FourChecks.{four-1, four-2, four-3, four-4, pass-four}
use Rattle.list_laws.proofs.SliceLaws.{end-part}

-- ---- check 8

module _ (b : List ℕ) (s k : ℕ) where
  pub steps-off : (le32 b 8 ≡ 16 → ⊥) → false ≡ branch_shape b s k
  steps-off f = rw (ne_eqb (le32 b 8) 16 f)

  pub marks-off : le32 b 8 ≡ 16 → (le32 b 12 ≡ 16 + s * k → ⊥) → false ≡ branch_shape b s k
  marks-off e f = rw (eq-eqb (le32 b 8) 16 e, ne_eqb (le32 b 12) (16 + s * k) f)

  pub branch-end : (m : ℕ) → m ≡ 16 + s * k → le32 b 8 ≡ 16 → le32 b 12 ≡ 16 + s * k → eqb (length b) (m + s) ≡ branch_shape b s k
  branch-end m d e f =
      rw (eq-eqb (le32 b 8) 16 e, eq-eqb (le32 b 12) (16 + s * k) f) (ap (λ (i : ℕ). eqb (length b) (i + s)) d)

  -- what its yes means
  pub branch_exact : branch_shape b s k ≡ true → length b ≡ branch_length s k
  branch_exact e =
      let size : Bool = eqb (length b) (branch_length s k) in
      let marks : Bool = eqb (le32 b 12) (16 + s * k) in
      eqb-true (length b) (branch_length s k) (and_right marks size (and_right (eqb (le32 b 8) 16) (marks && size) e))

-- ---- check 9: the answers x, y of the two tests, on the parts that are handed on

module _ (b : List ℕ) (s k m : ℕ) (at : m ≡ 16 + s * k) where
  steps-answer : (x : Bool) → x ≡ all_below s (take (m - 16) (drop 16 b)) → all_below s (take (s * k) (drop 16 b)) ≡ x
  steps-answer x e =
      let d : s * k ≡ m - 16 = omega arith in
      ap (λ (i : ℕ). all_below s (take i (drop 16 b))) d ∙ sym e

  pub values-steps : (x : Bool) → x ≡ all_below s (take (m - 16) (drop 16 b)) → not x ≡ true → false ≡ branch_values b s k
  values-steps x e n = rw (steps-answer x e ∙ not-true x n)

  pub values-branch : length b ≡ branch_length s k → (x y : Bool) → x ≡ all_below s (take (m - 16) (drop 16 b)) → not x ≡ false
      → y ≡ all_below 2 (take (length b - m) (drop m b)) → y ≡ branch_values b s k
  values-branch h x y e n f =
      rw (steps-answer x e ∙ not-false x n)
      (f ∙ ap (all_below 2) (end-part b m s (omega arith)) ∙ ap (λ (i : ℕ). all_below 2 (take s (drop i b))) at)

-- ---- the answers

module _ (r : List ℕ) where
  pub branch-6 : length r < 16 → 6 ≡ first_no (branch_checks r)
  unfolding branch_checks
  branch-6 h =
      sym (four-1 5 6 7 8 (leb 16 (length r)) (counts_fit (state_count r) (label_count r)) (branch_shape r (state_count r) (label_count r))
      (branch_values r (state_count r) (label_count r)) (lt-leb 16 (length r) h))

  module _ (h : 16 ≤ length r) (s k : ℕ) (d : s ≡ state_count r) (e : k ≡ label_count r) where
    counts-at : (x : Bool) → counts_fit s k ≡ x → counts_fit (state_count r) (label_count r) ≡ x
    counts-at x f = ap₂ counts_fit (sym d) (sym e) ∙ f

    shape_at : (x : Bool) → branch_shape r s k ≡ x → branch_shape r (state_count r) (label_count r) ≡ x
    shape_at x f = ap₂ (branch_shape r) (sym d) (sym e) ∙ f

    values-at : (x : Bool) → branch_values r s k ≡ x → branch_values r (state_count r) (label_count r) ≡ x
    values-at x f = ap₂ (branch_values r) (sym d) (sym e) ∙ f

    pub branch-7 : counts_fit s k ≡ false → 7 ≡ first_no (branch_checks r)
    unfolding branch_checks
    branch-7 f =
        sym (four-2 5 6 7 8 (leb 16 (length r)) (counts_fit (state_count r) (label_count r)) (branch_shape r (state_count r) (label_count r))
        (branch_values r (state_count r) (label_count r)) (le-leb 16 (length r) h) (counts-at false f))

    pub branch-8 : counts_fit s k ≡ true → branch_shape r s k ≡ false → 8 ≡ first_no (branch_checks r)
    unfolding branch_checks
    branch-8 f g =
        sym (four-3 5 6 7 8 (leb 16 (length r)) (counts_fit (state_count r) (label_count r)) (branch_shape r (state_count r) (label_count r))
        (branch_values r (state_count r) (label_count r)) (le-leb 16 (length r) h) (counts-at true f) (shape_at false g))

    pub branch-9 : counts_fit s k ≡ true → branch_shape r s k ≡ true → branch_values r s k ≡ false → 9 ≡ first_no (branch_checks r)
    unfolding branch_checks
    branch-9 f g i =
        sym (four-4 5 6 7 8 (leb 16 (length r)) (counts_fit (state_count r) (label_count r)) (branch_shape r (state_count r) (label_count r))
        (branch_values r (state_count r) (label_count r)) (le-leb 16 (length r) h) (counts-at true f) (shape_at true g) (values-at false i))

    pub branch-good : counts_fit s k ≡ true → branch_shape r s k ≡ true → branch_values r s k ≡ true → 0 ≡ first_no (branch_checks r)
    unfolding branch_checks
    branch-good f g i =
        sym (pass-four 5 6 7 8 (leb 16 (length r)) (counts_fit (state_count r) (label_count r)) (branch_shape r (state_count r) (label_count r))
        (branch_values r (state_count r) (label_count r)) (le-leb 16 (length r) h) (counts-at true f) (shape_at true g) (values-at true i))
