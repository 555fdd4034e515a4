-- Plans that pass 2 to 5.
--     PlanPasses p                 what the four checks say of a plan, by name; plan-passes, passes-plan: exactly where none fails
--     plan-numbered                no check has the number 0
--     within_low .. within-next    what a test of a range means; product-most: a product of numbers within limits
--     length-kinds_in, length-labels_within, kinds-plan_tree, labels-plan_tree, size-plan_tree
--                                  the two runs of such a plan and its tree
--     labels-part, kinds-part      what `&plan[12..12 + n]` and `&plan[12 + n..]` are to a proof
-- Not here: the numbers that a refusal gives (proofs/plan/check_plan), the way from trees to plans (PlanTheorems).
use Prim.Native.Nat.{ℕ, ◌+◌, ◌-◌, ◌*◌, ◌≤◌, ◌<◌}
use mathlib.Core.Path.{◌≡◌, sym, ap, ◌∙◌}
use mathlib.Core.Bool.{Bool, true, false, ◌&&◌}
use mathlib.Core.List.{List}
use native.Mathlib.Nat.{mul-le-mul_right}
use native.Mathlib.Omega.{arith}
use lib.Dec.{leb, eqb}
use lib.ListN.{length, take, drop}
use borrow.Author.Tests.{leb-true, le-leb, lt-leb, eqb-true, eq-eqb}
use Rattle.trees.specs.Tree.{size, kinds_of, labels_of}
use Rattle.trees.specs.Postorder.{is_postorder}
use Rattle.trees.proofs.PostorderLaws.{tree_of-kinds, tree_of-labels, tree_of-size}
use Rattle.formats.specs.Bytes.{le32}
use Rattle.formats.specs.Limits.{node_limit, within}
use Rattle.formats.specs.Plan.{node_count, plan_length, labels_within, kinds_in, plan_tree}
use Rattle.formats.specs.Checks.{first_no, plan_checks}
use Rattle.formats.proofs.CheckLaws.{Numbered}
use Rattle.list_laws.proofs.BoolLaws.{and_both, and_left, and_right, and-no-left, and-no-right, and-next}
use Rattle.formats.proofs.FourChecks.{four-pass, pass-four}
use Rattle.list_laws.proofs.SliceLaws.{end-part, run-part, length_part}
use Rattle.formats.specs.Passing.{PlanPasses}

-- ---- tests of a range, and of an offset and a length

pub within_low : (low high n : ℕ) → within low high n ≡ true → low ≤ n
within_low low high n e = leb-true low n (and_left (leb low n) (leb n high) e)

pub within-high : (low high n : ℕ) → within low high n ≡ true → n ≤ high
within-high low high n e = leb-true n high (and_right (leb low n) (leb n high) e)

pub is_within : (low high n : ℕ) → low ≤ n → n ≤ high → within low high n ≡ true
is_within low high n h i = and_both (leb low n) (leb n high) (le-leb low n h) (le-leb n high i)

pub within-no-low : (low high n : ℕ) → n < low → within low high n ≡ false
within-no-low low high n h = and-no-left (leb low n) (leb n high) (lt-leb low n h)

pub within-no-high : (low high n : ℕ) → high < n → within low high n ≡ false
within-no-high low high n h = and-no-right (leb low n) (leb n high) (lt-leb n high h)

pub within-next : (low high n : ℕ) → low ≤ n → within low high n ≡ leb n high
within-next low high n h = and-next (leb low n) (leb n high) (le-leb low n h)

pub product-most : (a b m n : ℕ) → a ≤ m → b ≤ n → a * b ≤ m * n
product-most a b m n h l = omega (arith, mul-le-mul_right b h, mul-le-mul_right m l)

pub same_left : (a b : ℕ) (c : Bool) → (eqb a b && c) ≡ true → a ≡ b
same_left a b c e = eqb-true a b (and_left (eqb a b) c e)

pub same-both : (a b : ℕ) (c : Bool) → a ≡ b → c ≡ true → (eqb a b && c) ≡ true
same-both a b c e f = and_both (eqb a b) c (eq-eqb a b e) f

-- ---- the checks

-- check 4 as a test
abbrev pub plan_shape : List ℕ → Bool
plan_shape p = eqb (le32 p 4) 12 && (eqb (le32 p 8) (12 + node_count p) && eqb (length p) (plan_length (node_count p)))

module _ (p : List ℕ) where
  pub plan-passes : first_no (plan_checks p) ≡ 0 → PlanPasses p
  unfolding plan_checks
  plan-passes e =
      let q : (leb 12 (length p) ≡ true) × (within 1 node_limit (node_count p) ≡ true) × (plan_shape p ≡ true) × (is_postorder (kinds_in p) ≡ true) =
      four-pass 1 2 3 4 (leb 12 (length p)) (within 1 node_limit (node_count p)) (plan_shape p) (is_postorder (kinds_in p)) e in
      let end : Bool = eqb (length p) (plan_length (node_count p)) in
      let kinds : Bool = eqb (le32 p 8) (12 + node_count p) && end in
      let later : kinds ≡ true = and_right (eqb (le32 p 4) 12) kinds q.2 in
      record {
        long = leb-true 12 (length p) q.0;
        least = within_low 1 node_limit (node_count p) q.1;
        most = within-high 1 node_limit (node_count p) q.1;
        labels_at = same_left (le32 p 4) 12 kinds q.2;
        kinds_at = same_left (le32 p 8) (12 + node_count p) end later;
        exact = eqb-true (length p) (plan_length (node_count p)) (and_right (eqb (le32 p 8) (12 + node_count p)) end later);
        postorder = q.3;
      }

  pub passes-plan : PlanPasses p → first_no (plan_checks p) ≡ 0
  unfolding plan_checks
  passes-plan h =
      pass-four 1 2 3 4 (leb 12 (length p)) (within 1 node_limit (node_count p)) (plan_shape p) (is_postorder (kinds_in p))
      (le-leb 12 (length p) h.long)
      (is_within 1 node_limit (node_count p) h.least h.most)
      (same-both (le32 p 4) 12 (eqb (le32 p 8) (12 + node_count p) && eqb (length p) (plan_length (node_count p))) h.labels_at
      (same-both (le32 p 8) (12 + node_count p) (eqb (length p) (plan_length (node_count p))) h.kinds_at
      (eq-eqb (length p) (plan_length (node_count p)) h.exact)))
      h.postorder

  pub plan-numbered : Numbered (plan_checks p)
  unfolding plan_checks
  plan-numbered = (omega arith, (omega arith, (omega arith, (omega arith, tt))))

-- ---- the runs of a plan that passes, and its tree

module _ (p : List ℕ) (h : PlanPasses p) where
  pub length-labels_within : length (labels_within p) ≡ node_count p
  length-labels_within = length_part p 12 (node_count p) (omega (arith, h.exact))

  pub length-kinds_in : length (kinds_in p) ≡ node_count p
  length-kinds_in = length_part p (12 + node_count p) (node_count p) (omega (arith, h.exact))

  pub labels-as-kinds : length (labels_within p) ≡ length (kinds_in p)
  labels-as-kinds = length-labels_within ∙ sym length-kinds_in

  pub kinds-plan_tree : kinds_of (plan_tree p) ≡ kinds_in p
  kinds-plan_tree = tree_of-kinds (kinds_in p) (labels_within p) labels-as-kinds h.postorder

  pub labels-plan_tree : labels_of (plan_tree p) ≡ labels_within p
  labels-plan_tree = tree_of-labels (kinds_in p) (labels_within p) labels-as-kinds h.postorder

  pub size-plan_tree : size (plan_tree p) ≡ node_count p
  size-plan_tree = tree_of-size (kinds_in p) (labels_within p) labels-as-kinds h.postorder ∙ length-kinds_in

-- ---- the parts that are handed on

pub labels-part : (p : List ℕ) (n : ℕ) → n ≡ node_count p → take (12 + n - 12) (drop 12 p) ≡ labels_within p
labels-part p n e = run-part p 12 n ∙ ap (λ (i : ℕ). take i (drop 12 p)) e

-- it holds already where the length is exact
pub kinds-part-exact : (p : List ℕ) (n : ℕ) → length p ≡ plan_length (node_count p) → n ≡ node_count p
    → take (length p - (12 + n)) (drop (12 + n) p) ≡ kinds_in p
kinds-part-exact p n h e = end-part p (12 + n) n (omega arith) ∙ ap (λ (i : ℕ). take i (drop (12 + i) p)) e

pub kinds-part : (p : List ℕ) (n : ℕ) → PlanPasses p → n ≡ node_count p → take (length p - (12 + n)) (drop (12 + n) p) ≡ kinds_in p
kinds-part p n h e = kinds-part-exact p n h.exact e
