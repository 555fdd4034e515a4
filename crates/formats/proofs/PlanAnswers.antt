-- The number that each refusal of a plan gives: 2 to 5, by what the code finds.
use Prim.Native.Nat.{ℕ, ◌+◌, ◌≤◌, ◌<◌}
use mathlib.Core.Path.{◌≡◌, sym}
use mathlib.Core.Bool.{Bool, true, false, ◌&&◌}
use mathlib.Core.List.{List}
use lib.Dec.{leb, eqb}
use lib.ListN.{length}
use borrow.Author.Tests.{le-leb, lt-leb, eq-eqb, ne_eqb}
use Rattle.trees.specs.Postorder.{is_postorder}
use Rattle.formats.specs.Bytes.{le32}
use Rattle.formats.specs.Limits.{node_limit, within}
use Rattle.formats.specs.Plan.{node_count, plan_length, kinds_in}
use Rattle.formats.specs.Checks.{first_no, plan_checks}
use Rattle.list_laws.proofs.BoolLaws.{and-no-left, and-no-right}
use Rattle.formats.proofs.FourChecks.{four-1, four-2, four-3, four-4}
use Rattle.formats.proofs.PlanLaws.{passes-plan, plan_shape, is_within, same-both}

pub below-within : (low high n : ℕ) → n < low → within low high n ≡ false
below-within low high n h = and-no-left (leb low n) (leb n high) (lt-leb low n h)

pub above_within : (low high n : ℕ) → high < n → within low high n ≡ false
above_within low high n h = and-no-right (leb low n) (leb n high) (lt-leb n high h)

module _ (p : List ℕ) where
  -- checks 4 and 5 as tests, from their last part
  abbrev plan_end : Bool
  plan_end = eqb (length p) (plan_length (node_count p))

  abbrev plan_kinds_at : Bool
  plan_kinds_at = eqb (le32 p 8) (12 + node_count p) && plan_end

  pub plan-2 : length p < 12 → 2 ≡ first_no (plan_checks p)
  unfolding plan_checks
  plan-2 h =
      sym (four-1 1 2 3 4 (leb 12 (length p)) (within 1 node_limit (node_count p)) (plan_shape p) (is_postorder (kinds_in p)) (lt-leb 12 (length p) h))

  plan-3 : 12 ≤ length p → within 1 node_limit (node_count p) ≡ false → 3 ≡ first_no (plan_checks p)
  unfolding plan_checks
  plan-3 h e =
      sym (four-2 1 2 3 4 (leb 12 (length p)) (within 1 node_limit (node_count p)) (plan_shape p) (is_postorder (kinds_in p)) (le-leb 12 (length p) h) e)

  pub plan-none : 12 ≤ length p → node_count p < 1 → 3 ≡ first_no (plan_checks p)
  plan-none h l = plan-3 h (below-within 1 node_limit (node_count p) l)

  pub plan-many : 12 ≤ length p → 65535 < node_count p → 3 ≡ first_no (plan_checks p)
  plan-many h l = plan-3 h (above_within 1 node_limit (node_count p) l)

  module _ (h : 12 ≤ length p) (low : 1 ≤ node_count p) (high : node_count p ≤ 65535) where
    plan-4 : plan_shape p ≡ false → 4 ≡ first_no (plan_checks p)
    unfolding plan_checks
    plan-4 e =
        sym (four-3 1 2 3 4 (leb 12 (length p)) (within 1 node_limit (node_count p)) (plan_shape p) (is_postorder (kinds_in p))
        (le-leb 12 (length p) h) (is_within 1 node_limit (node_count p) low high) e)

    pub plan-labels-off : (le32 p 4 ≡ 12 → ⊥) → 4 ≡ first_no (plan_checks p)
    plan-labels-off f = plan-4 (and-no-left (eqb (le32 p 4) 12) plan_kinds_at (ne_eqb (le32 p 4) 12 f))

    pub plan-kinds-off : (le32 p 8 ≡ 12 + node_count p → ⊥) → 4 ≡ first_no (plan_checks p)
    plan-kinds-off f =
        plan-4 (and-no-right (eqb (le32 p 4) 12) plan_kinds_at
        (and-no-left (eqb (le32 p 8) (12 + node_count p)) plan_end (ne_eqb (le32 p 8) (12 + node_count p) f)))

    pub plan-inexact : (length p ≡ plan_length (node_count p) → ⊥) → 4 ≡ first_no (plan_checks p)
    plan-inexact f =
        plan-4 (and-no-right (eqb (le32 p 4) 12) plan_kinds_at
        (and-no-right (eqb (le32 p 8) (12 + node_count p)) plan_end (ne_eqb (length p) (plan_length (node_count p)) f)))

    module _ (labels : le32 p 4 ≡ 12) (kinds : le32 p 8 ≡ 12 + node_count p) (exact : length p ≡ plan_length (node_count p)) where
      plan-shape : plan_shape p ≡ true
      plan-shape =
          same-both (le32 p 4) 12 plan_kinds_at labels
          (same-both (le32 p 8) (12 + node_count p) plan_end kinds (eq-eqb (length p) (plan_length (node_count p)) exact))

      pub plan-5 : is_postorder (kinds_in p) ≡ false → 5 ≡ first_no (plan_checks p)
      unfolding plan_checks
      plan-5 e =
          sym (four-4 1 2 3 4 (leb 12 (length p)) (within 1 node_limit (node_count p)) (plan_shape p) (is_postorder (kinds_in p))
          (le-leb 12 (length p) h) (is_within 1 node_limit (node_count p) low high) plan-shape e)

      pub plan-good : is_postorder (kinds_in p) ≡ true → 0 ≡ first_no (plan_checks p)
      plan-good e =
          sym (passes-plan p (record { long = h; least = low; most = high; labels_at = labels; kinds_at = kinds; exact = exact; postorder = e }))
