-- The number that each refusal of a rule table gives, 6 to 9, and the answers of the functions below, by what the code finds.
--     product-inner               S×K×S is small
--     counts-no, counts-last      check 7 by its parts
--     shape-leaves .. shape-end   check 8 by its parts
--     values-leaves .. values-end check 9 by its parts
--     rules-6 .. rules-good       the answers
use Prim.Native.Nat.{ℕ, ◌+◌, ◌-◌, ◌*◌, ◌≤◌, ◌<◌}
use mathlib.Core.Path.{◌≡◌, sym, ap, ap₂, ◌∙◌}
use mathlib.Core.Bool.{Bool, true, false, not, ◌&&◌}
use mathlib.Core.List.{List}
use native.Mathlib.Omega.{arith}
use native.Mathlib.Nat.{mul-le-mul}
use lib.Dec.{leb, eqb}
use lib.ListN.{length, take, drop}
use borrow.Author.Tests.{le-leb, lt-leb, eq-eqb, ne_eqb, eqb-true, not-true, not-false}
use Rattle.formats.specs.Bytes.{le32}
use Rattle.list_laws.specs.Tests.{all_below}
use Rattle.formats.specs.Limits.{state_limit, label_limit, within}
use Rattle.formats.specs.Rules.{state_count, label_count, rule_length}
use Rattle.formats.specs.Checks.{first_no, rule_checks}
use Rattle.formats.specs.inner.InnerChecks.{counts_fit, rule_shape, rule_values}
use Rattle.list_laws.proofs.BoolLaws.{and_left, and_right, and-no-left, and-no-right}
use Rattle.formats.proofs.FourChecks.{four-1, four-2, four-3, four-4, pass-four}
use Rattle.list_laws.proofs.SliceLaws.{run-part, end-part}
use Rattle.formats.proofs.PlanLaws.{within_low, within-high}

pub product-inner : (s k : ℕ) → s ≤ 16 → k ≤ 64 → (s * k ≤ 1024) × (s * k * s ≤ 16384)
product-inner s k a b =
    let one : s * k ≤ 16 * 64 = mul-le-mul a b in
    let two : s * k * s ≤ 1024 * 16 = mul-le-mul {n₁ = s * k} {m₁ = s} {n₂ = 1024} {m₂ = 16} one a in
    (one, two)

-- ---- check 7

module _ (s k : ℕ) where
  pub counts-states : within 1 state_limit s ≡ false → false ≡ counts_fit s k
  counts-states e = sym (and-no-left (within 1 state_limit s) (within 1 label_limit k) e)

  pub counts-labels : within 1 label_limit k ≡ false → false ≡ counts_fit s k
  counts-labels e = sym (and-no-right (within 1 state_limit s) (within 1 label_limit k) e)

  pub counts-last : 1 ≤ s → s ≤ 16 → 1 ≤ k → leb k 64 ≡ counts_fit s k
  counts-last a b c = rw (le-leb 1 s a, le-leb s 16 b, le-leb 1 k c)

  -- what its yes means
  pub counts-answer : counts_fit s k ≡ true → (1 ≤ s) × (s ≤ 16) × (1 ≤ k) × (k ≤ 64)
  counts-answer e =
      let a : within 1 state_limit s ≡ true = and_left (within 1 state_limit s) (within 1 label_limit k) e in
      let b : within 1 label_limit k ≡ true = and_right (within 1 state_limit s) (within 1 label_limit k) e in
      (within_low 1 state_limit s a, within-high 1 state_limit s a, within_low 1 label_limit k b, within-high 1 label_limit k b)

-- ---- check 8

module _ (b : List ℕ) (s k : ℕ) where
  pub shape-leaves : (le32 b 8 ≡ 20 → ⊥) → false ≡ rule_shape b s k
  shape-leaves f = rw (ne_eqb (le32 b 8) 20 f)

  pub shape-inner : le32 b 8 ≡ 20 → (le32 b 12 ≡ 20 + k → ⊥) → false ≡ rule_shape b s k
  shape-inner e f = rw (eq-eqb (le32 b 8) 20 e, ne_eqb (le32 b 12) (20 + k) f)

  pub shape-marks : le32 b 8 ≡ 20 → le32 b 12 ≡ 20 + k → (le32 b 16 ≡ 20 + k + s * k * s → ⊥) → false ≡ rule_shape b s k
  shape-marks e f g = rw (eq-eqb (le32 b 8) 20 e, eq-eqb (le32 b 12) (20 + k) f, ne_eqb (le32 b 16) (20 + k + s * k * s) g)

  pub shape-end : (m : ℕ) → m ≡ 20 + k + s * k * s → le32 b 8 ≡ 20 → le32 b 12 ≡ 20 + k → le32 b 16 ≡ 20 + k + s * k * s
      → eqb (length b) (m + s) ≡ rule_shape b s k
  shape-end m d e f g =
      rw (eq-eqb (le32 b 8) 20 e, eq-eqb (le32 b 12) (20 + k) f, eq-eqb (le32 b 16) (20 + k + s * k * s) g) (ap (λ (i : ℕ). eqb (length b) (i + s)) d)

  -- what its yes means
  pub shape-exact : rule_shape b s k ≡ true → length b ≡ rule_length s k
  shape-exact e =
      let size : Bool = eqb (length b) (rule_length s k) in
      let marks : Bool = eqb (le32 b 16) (20 + k + s * k * s) in
      let inner : Bool = eqb (le32 b 12) (20 + k) in
      eqb-true (length b) (rule_length s k)
      (and_right marks size (and_right inner (marks && size) (and_right (eqb (le32 b 8) 20) (inner && (marks && size)) e)))

-- ---- check 9: the answers x, y, z of the three tests, on the parts that are handed on

module _ (b : List ℕ) (s k m : ℕ) (at : m ≡ 20 + k + s * k * s) where
  leaves-answer : (x : Bool) → x ≡ all_below s (take (20 + k - 20) (drop 20 b)) → all_below s (take k (drop 20 b)) ≡ x
  leaves-answer x e = ap (all_below s) (sym (run-part b 20 k)) ∙ sym e

  inner-answer : (y : Bool) → y ≡ all_below s (take (m - (20 + k)) (drop (20 + k) b)) → all_below s (take (s * k * s) (drop (20 + k) b)) ≡ y
  inner-answer y e =
      let d : s * k * s ≡ m - (20 + k) = omega arith in
      ap (λ (i : ℕ). all_below s (take i (drop (20 + k) b))) d ∙ sym e

  marks-answer : length b ≡ rule_length s k → (z : Bool) → z ≡ all_below 2 (take (length b - m) (drop m b))
      → all_below 2 (take s (drop (20 + k + s * k * s) b)) ≡ z
  marks-answer h z e =
      ap (λ (i : ℕ). all_below 2 (take s (drop i b))) (sym at) ∙ ap (all_below 2) (sym (end-part b m s (omega arith))) ∙ sym e

  pub values-leaves : (x : Bool) → x ≡ all_below s (take (20 + k - 20) (drop 20 b)) → not x ≡ true → false ≡ rule_values b s k
  values-leaves x e n = rw (leaves-answer x e ∙ not-true x n)

  pub values-inner : (x y : Bool) → x ≡ all_below s (take (20 + k - 20) (drop 20 b)) → not x ≡ false
      → y ≡ all_below s (take (m - (20 + k)) (drop (20 + k) b)) → not y ≡ true → false ≡ rule_values b s k
  values-inner x y e n f o = rw (leaves-answer x e ∙ not-false x n, inner-answer y f ∙ not-true y o)

  pub values-marks : length b ≡ rule_length s k → (x y z : Bool) → x ≡ all_below s (take (20 + k - 20) (drop 20 b)) → not x ≡ false
      → y ≡ all_below s (take (m - (20 + k)) (drop (20 + k) b)) → not y ≡ false
      → z ≡ all_below 2 (take (length b - m) (drop m b)) → z ≡ rule_values b s k
  values-marks h x y z e n f o g =
      rw (leaves-answer x e ∙ not-false x n, inner-answer y f ∙ not-false y o) (sym (marks-answer h z g))

-- ---- the answers

module _ (r : List ℕ) where
  pub rules-6 : length r < 20 → 6 ≡ first_no (rule_checks r)
  unfolding rule_checks
  rules-6 h =
      sym (four-1 5 6 7 8 (leb 20 (length r)) (counts_fit (state_count r) (label_count r)) (rule_shape r (state_count r) (label_count r))
      (rule_values r (state_count r) (label_count r)) (lt-leb 20 (length r) h))

  module _ (h : 20 ≤ length r) (s k : ℕ) (d : s ≡ state_count r) (e : k ≡ label_count r) where
    counts-at : (x : Bool) → counts_fit s k ≡ x → counts_fit (state_count r) (label_count r) ≡ x
    counts-at x f = ap₂ counts_fit (sym d) (sym e) ∙ f

    shape_at : (x : Bool) → rule_shape r s k ≡ x → rule_shape r (state_count r) (label_count r) ≡ x
    shape_at x f = ap₂ (rule_shape r) (sym d) (sym e) ∙ f

    values-at : (x : Bool) → rule_values r s k ≡ x → rule_values r (state_count r) (label_count r) ≡ x
    values-at x f = ap₂ (rule_values r) (sym d) (sym e) ∙ f

    pub rules-7 : counts_fit s k ≡ false → 7 ≡ first_no (rule_checks r)
    unfolding rule_checks
    rules-7 f =
        sym (four-2 5 6 7 8 (leb 20 (length r)) (counts_fit (state_count r) (label_count r)) (rule_shape r (state_count r) (label_count r))
        (rule_values r (state_count r) (label_count r)) (le-leb 20 (length r) h) (counts-at false f))

    pub rules-8 : counts_fit s k ≡ true → rule_shape r s k ≡ false → 8 ≡ first_no (rule_checks r)
    unfolding rule_checks
    rules-8 f g =
        sym (four-3 5 6 7 8 (leb 20 (length r)) (counts_fit (state_count r) (label_count r)) (rule_shape r (state_count r) (label_count r))
        (rule_values r (state_count r) (label_count r)) (le-leb 20 (length r) h) (counts-at true f) (shape_at false g))

    pub rules-9 : counts_fit s k ≡ true → rule_shape r s k ≡ true → rule_values r s k ≡ false → 9 ≡ first_no (rule_checks r)
    unfolding rule_checks
    rules-9 f g i =
        sym (four-4 5 6 7 8 (leb 20 (length r)) (counts_fit (state_count r) (label_count r)) (rule_shape r (state_count r) (label_count r))
        (rule_values r (state_count r) (label_count r)) (le-leb 20 (length r) h) (counts-at true f) (shape_at true g) (values-at false i))

    pub rules-good : counts_fit s k ≡ true → rule_shape r s k ≡ true → rule_values r s k ≡ true → 0 ≡ first_no (rule_checks r)
    unfolding rule_checks
    rules-good f g i =
        sym (pass-four 5 6 7 8 (leb 20 (length r)) (counts_fit (state_count r) (label_count r)) (rule_shape r (state_count r) (label_count r))
        (rule_values r (state_count r) (label_count r)) (le-leb 20 (length r) h) (counts-at true f) (shape_at true g) (values-at true i))
