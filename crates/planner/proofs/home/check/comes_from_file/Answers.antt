-- Each test is one of check 19's, of the plan's labels and of its kinds.
use Rattle.std.proofs.Common.{◌≡◌, ◌∙◌, ◌+◌, ◌-◌, ◌*◌, ℕ, List, length, take, drop, Bool, sym, ap, ap₂, arith}
use Rattle.formats.specs.Plan.{node_count, labels_within, kinds_in}
use Rattle.formats.proofs.PlanLaws.{plan-passes}
use Rattle.planner.specs.inner.ImageTests.{labels_fit, all_runs_fit, one_top}
use Rattle.planner.proofs.home.CheckLoop.{refused-fails, passed, plan-sized, labels-cut, kinds-cut, parts_same}
use Rattle.planner.proofs.home.CheckLoop.{comes-no-plan, comes-no-labels, comes-no-top, comes-runs}
use Rattle.planner.proofs.home.check.comes_from_file.Goals as goal

-- what the tests of the labels and of the kinds say, by the count that was read
labels-answer : (p : List ℕ) (n : ℕ) (x : Bool) → n ≡ node_count p → length p ≡ 12 + 2 * n
    → x ≡ labels_fit (take (12 + n - 12) (drop 12 p)) (take (length p - (12 + n)) (drop (12 + n) p))
    → labels_fit (labels_within p) (kinds_in p) ≡ x
labels-answer p n x e h f = sym (f ∙ ap₂ labels_fit (labels-cut p n e) (kinds-cut p n e h))

top-answer : (p : List ℕ) (n : ℕ) (x : Bool) → n ≡ node_count p → length p ≡ 12 + 2 * n
    → x ≡ one_top (take (length p - (12 + n)) (drop (12 + n) p)) → one_top (kinds_in p) ≡ x
top-answer p n x e h f = sym (f ∙ ap one_top (kinds-cut p n e h))

pub returns-then-is_err : goal.returns-then-is_err
returns-then-is_err c =
    sym (comes-no-plan c.args.plan.now
    (refused-fails c.check_plan.result c.is_err.ensures.value c.if-is_err.true c.check_plan.ensures))

pub read32-n-requires : goal.read32-n-requires
read32-n-requires c =
    omega (
      arith,
      (plan-passes c.args.plan.now (passed c.check_plan.result c.is_err.ensures.value c.if-is_err.false c.check_plan.ensures)).long,
    )

pub overflow_add-n : goal.overflow_add-n
overflow_add-n c =
    omega (
      arith,
      plan-sized c.args.plan.now c.check_plan.result c.is_err.ensures.value c.if-is_err.false
          c.check_plan.ensures c.read32-n.ensures,
    )

pub slice_bounds-labels_fit-count : goal.slice_bounds-labels_fit-count
slice_bounds-labels_fit-count c =
    omega (
      arith,
      plan-sized c.args.plan.now c.check_plan.result c.is_err.ensures.value c.if-is_err.false
          c.check_plan.ensures c.read32-n.ensures,
    )

pub slice_bounds-labels_fit-start : goal.slice_bounds-labels_fit-start
slice_bounds-labels_fit-start c =
    omega (
      arith,
      plan-sized c.args.plan.now c.check_plan.result c.is_err.ensures.value c.if-is_err.false
          c.check_plan.ensures c.read32-n.ensures,
    )

pub slice_bounds-labels_fit-end : goal.slice_bounds-labels_fit-end
slice_bounds-labels_fit-end c =
    omega (
      arith,
      plan-sized c.args.plan.now c.check_plan.result c.is_err.ensures.value c.if-is_err.false
          c.check_plan.ensures c.read32-n.ensures,
    )

pub overflow_add-n-2 : goal.overflow_add-n-2
overflow_add-n-2 c =
    omega (
      arith,
      plan-sized c.args.plan.now c.check_plan.result c.is_err.ensures.value c.if-is_err.false
          c.check_plan.ensures c.read32-n.ensures,
    )

pub slice_bounds-labels_fit-count-2 : goal.slice_bounds-labels_fit-count-2
slice_bounds-labels_fit-count-2 c =
    omega (
      arith,
      plan-sized c.args.plan.now c.check_plan.result c.is_err.ensures.value c.if-is_err.false
          c.check_plan.ensures c.read32-n.ensures,
    )

pub slice_bounds-labels_fit-start-2 : goal.slice_bounds-labels_fit-start-2
slice_bounds-labels_fit-start-2 c =
    omega (
      arith,
      plan-sized c.args.plan.now c.check_plan.result c.is_err.ensures.value c.if-is_err.false
          c.check_plan.ensures c.read32-n.ensures,
    )

pub slice_bounds-labels_fit-end-2 : goal.slice_bounds-labels_fit-end-2
slice_bounds-labels_fit-end-2 c =
    omega (
      arith,
      plan-sized c.args.plan.now c.check_plan.result c.is_err.ensures.value c.if-is_err.false
          c.check_plan.ensures c.read32-n.ensures,
    )

pub labels_fit-requires : goal.labels_fit-requires
labels_fit-requires c =
    parts_same c.args.plan.now _
    (plan-sized c.args.plan.now c.check_plan.result c.is_err.ensures.value c.if-is_err.false
    c.check_plan.ensures c.read32-n.ensures).0

pub returns-then-not-labels_fit : goal.returns-then-not-labels_fit
returns-then-not-labels_fit c =
    let q = (passed c.check_plan.result c.is_err.ensures.value c.if-is_err.false c.check_plan.ensures) in
    let z = plan-sized c.args.plan.now c.check_plan.result c.is_err.ensures.value c.if-is_err.false c.check_plan.ensures
    c.read32-n.ensures in
    sym (comes-no-labels c.args.plan.now q
    (labels-answer c.args.plan.now _ _ c.read32-n.ensures z.0 c.labels_fit.ensures ∙ c.if-not-labels_fit.true))

pub overflow_add-n-3 : goal.overflow_add-n-3
overflow_add-n-3 c =
    omega (
      arith,
      plan-sized c.args.plan.now c.check_plan.result c.is_err.ensures.value c.if-is_err.false
          c.check_plan.ensures c.read32-n.ensures,
    )

pub slice_bounds-one_top-count : goal.slice_bounds-one_top-count
slice_bounds-one_top-count c =
    omega (
      arith,
      plan-sized c.args.plan.now c.check_plan.result c.is_err.ensures.value c.if-is_err.false
          c.check_plan.ensures c.read32-n.ensures,
    )

pub slice_bounds-one_top-start : goal.slice_bounds-one_top-start
slice_bounds-one_top-start c =
    omega (
      arith,
      plan-sized c.args.plan.now c.check_plan.result c.is_err.ensures.value c.if-is_err.false
          c.check_plan.ensures c.read32-n.ensures,
    )

pub slice_bounds-one_top-end : goal.slice_bounds-one_top-end
slice_bounds-one_top-end c =
    omega (
      arith,
      plan-sized c.args.plan.now c.check_plan.result c.is_err.ensures.value c.if-is_err.false
          c.check_plan.ensures c.read32-n.ensures,
    )

pub returns-then-not-one_top : goal.returns-then-not-one_top
returns-then-not-one_top c =
    let q = (passed c.check_plan.result c.is_err.ensures.value c.if-is_err.false c.check_plan.ensures) in
    let z = plan-sized c.args.plan.now c.check_plan.result c.is_err.ensures.value c.if-is_err.false c.check_plan.ensures
    c.read32-n.ensures in
    sym (comes-no-top c.args.plan.now q
    (top-answer c.args.plan.now _ _ c.read32-n.ensures z.0 c.one_top.ensures ∙ c.if-not-one_top.true))

pub overflow_add-n-4 : goal.overflow_add-n-4
overflow_add-n-4 c =
    omega (
      arith,
      plan-sized c.args.plan.now c.check_plan.result c.is_err.ensures.value c.if-is_err.false
          c.check_plan.ensures c.read32-n.ensures,
    )

pub slice_bounds-runs_fit-count : goal.slice_bounds-runs_fit-count
slice_bounds-runs_fit-count c =
    omega (
      arith,
      plan-sized c.args.plan.now c.check_plan.result c.is_err.ensures.value c.if-is_err.false
          c.check_plan.ensures c.read32-n.ensures,
    )

pub slice_bounds-runs_fit-start : goal.slice_bounds-runs_fit-start
slice_bounds-runs_fit-start c =
    omega (
      arith,
      plan-sized c.args.plan.now c.check_plan.result c.is_err.ensures.value c.if-is_err.false
          c.check_plan.ensures c.read32-n.ensures,
    )

pub slice_bounds-runs_fit-end : goal.slice_bounds-runs_fit-end
slice_bounds-runs_fit-end c =
    omega (
      arith,
      plan-sized c.args.plan.now c.check_plan.result c.is_err.ensures.value c.if-is_err.false
          c.check_plan.ensures c.read32-n.ensures,
    )

pub returns : goal.returns
returns c =
    let q = (passed c.check_plan.result c.is_err.ensures.value c.if-is_err.false c.check_plan.ensures) in
    let z = plan-sized c.args.plan.now c.check_plan.result c.is_err.ensures.value c.if-is_err.false c.check_plan.ensures
    c.read32-n.ensures in
    c.runs_fit.ensures
    ∙ ap (λ (l : List ℕ). all_runs_fit 256 l 0) (kinds-cut c.args.plan.now _ c.read32-n.ensures z.0)
    ∙ sym (comes-runs c.args.plan.now q
    (labels-answer c.args.plan.now _ _ c.read32-n.ensures z.0 c.labels_fit.ensures ∙ c.if-not-labels_fit.false)
    (top-answer c.args.plan.now _ _ c.read32-n.ensures z.0 c.one_top.ensures ∙ c.if-not-one_top.false))
