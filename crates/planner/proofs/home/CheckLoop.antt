-- The tests of a plan, and the answers of check 19.
--     size-unimage                                  a tree of 2n+1 nodes is of n planner's nodes
--     refused-fails, passed, plan-sized             the answer of the plan's own checks
--     comes-not, comes-tests                        check 19 from the three tests
use Prim.Native.Nat.{ℕ, ◌+◌, ◌-◌, ◌*◌, ◌≤◌, ◌<◌}
use mathlib.Core.Path.{◌≡◌, refl, sym, ap, ap₂, ◌∙◌}
use mathlib.Core.Bool.{Bool, true, false, ◌&&◌}
use mathlib.Core.List.{List}
use native.Mathlib.Omega.{arith}
use lib.Dec.{eqb}
use lib.ListN.{length, get_or, take, drop}
use borrow.Author.Tests.{eq-eqb, ne_eqb, le-leb, lt-leb}
use Rattle.std.specs.Prelude.{Result, Ok, Err}
use Rattle.std.specs.Result.{is_err}
use Rattle.list_laws.proofs.BoolLaws.{true-false, and-no-left, and-no-right, and-next}
use Rattle.list_laws.proofs.SliceLaws.{run-part, end-part, length_part}
use Rattle.trees.specs.Tree.{Tree, leaf, node, size}
use Rattle.formats.specs.Plan.{node_count, labels_within, kinds_in, plan_tree}
use Rattle.formats.specs.Checks.{first_no, plan_checks}
use Rattle.formats.specs.Refusals.{answer_number}
use Rattle.formats.specs.declared.refusals.Refusal.{Refusal}
use Rattle.formats.proofs.RefusalLaws.{number-not-0}
use Rattle.formats.proofs.PlanLaws.{plan-passes, kinds-plan_tree, labels-plan_tree}
use Rattle.formats.specs.Passing.{PlanPasses}
use Rattle.planner.specs.Siblings.{count, unimage}
use Rattle.planner.specs.File.{comes_from_file}
use Rattle.planner.specs.inner.ImageTests.{labels_fit, all_runs_fit, one_top, passes_tests}
use Rattle.planner.proofs.Theorems.{tests-are-image}

-- ---- one tree at the top

pub top-short : (ks : List ℕ) → length ks < 2 → one_top ks ≡ false
unfolding one_top
top-short ks h = and-no-left _ _ (lt-leb 2 (length ks) h)

pub top-kind : (ks : List ℕ) → 2 ≤ length ks → eqb (get_or ks (length ks - 2) 0) 0 ≡ one_top ks
unfolding one_top
top-kind ks h = sym (and-next _ _ (le-leb 2 (length ks) h))

-- ---- the answer of the plan's own checks

pub refused-fails : (a : Result Unit Refusal) {b : Bool} {n : ℕ} → b ≡ is_err a → b ≡ true → answer_number a ≡ n → n ≡ 0 → ⊥
refused-fails (Ok u) e f g z = true-false (sym f ∙ e)
refused-fails (Err r) e f g z = number-not-0 r (g ∙ z)

pub passed : (a : Result Unit Refusal) {b : Bool} {n : ℕ} → b ≡ is_err a → b ≡ false → answer_number a ≡ n → n ≡ 0
passed (Ok u) e f g = sym g
passed (Err r) e f g = absurd (true-false (sym e ∙ f))

pub plan-sized : (p : List ℕ) (a : Result Unit Refusal) {b : Bool} {n : ℕ} → b ≡ is_err a → b ≡ false
    → answer_number a ≡ first_no (plan_checks p) → n ≡ node_count p → (length p ≡ 12 + 2 * n) × (n ≤ 65535)
plan-sized p a e f g h =
    let P : PlanPasses p = plan-passes p (passed a e f g) in
    (omega (arith, P.exact), omega (arith, P.most))

-- ---- check 19

pub size-unimage : (t : Tree) → size t ≡ 2 * count (unimage t) + 1
size-unimage (leaf a) = refl
size-unimage (node l a r) = omega (arith, size-unimage l, size-unimage r)

module _ (p : List ℕ) where
  pub comes-no-plan : (first_no (plan_checks p) ≡ 0 → ⊥) → comes_from_file p ≡ false
  unfolding comes_from_file
  comes-no-plan h = and-no-left _ _ (ne_eqb (first_no (plan_checks p)) 0 h)

  module _ (e : first_no (plan_checks p) ≡ 0) where
    pub comes-tests : comes_from_file p
        ≡ (labels_fit (labels_within p) (kinds_in p) && (one_top (kinds_in p) && all_runs_fit 256 (kinds_in p) 0))
    unfolding comes_from_file passes_tests
    comes-tests =
        let P : PlanPasses p = plan-passes p e in
        and-next _ _ (eq-eqb (first_no (plan_checks p)) 0 e)
        ∙ sym (tests-are-image (plan_tree p))
        ∙ ap₂ passes_tests (labels-plan_tree p P) (kinds-plan_tree p P)

    pub comes-no-labels : labels_fit (labels_within p) (kinds_in p) ≡ false → comes_from_file p ≡ false
    comes-no-labels f = comes-tests ∙ and-no-left _ _ f

    pub comes-no-top : one_top (kinds_in p) ≡ false → comes_from_file p ≡ false
    comes-no-top f =
        comes-tests
        ∙ and-no-right (labels_fit (labels_within p) (kinds_in p)) (one_top (kinds_in p) && all_runs_fit 256 (kinds_in p) 0)
        (and-no-left (one_top (kinds_in p)) (all_runs_fit 256 (kinds_in p) 0) f)

    pub comes-runs : labels_fit (labels_within p) (kinds_in p) ≡ true → one_top (kinds_in p) ≡ true
        → comes_from_file p ≡ all_runs_fit 256 (kinds_in p) 0
    comes-runs f g = comes-tests ∙ and-next _ _ f ∙ and-next _ _ g

-- ---- the two parts of a plan of r nodes

pub labels-cut : (p : List ℕ) (r : ℕ) → r ≡ node_count p → take (12 + r - 12) (drop 12 p) ≡ labels_within p
labels-cut p r e = run-part p 12 r ∙ ap (λ (i : ℕ). take i (drop 12 p)) e

pub kinds-cut : (p : List ℕ) (r : ℕ) → r ≡ node_count p → length p ≡ 12 + 2 * r
    → take (length p - (12 + r)) (drop (12 + r) p) ≡ kinds_in p
kinds-cut p r e h = end-part p (12 + r) r (omega arith) ∙ ap (λ (i : ℕ). take i (drop (12 + i) p)) e

pub parts_same : (p : List ℕ) (r : ℕ) → length p ≡ 12 + 2 * r
    → length (take (12 + r - 12) (drop 12 p)) ≡ length (take (length p - (12 + r)) (drop (12 + r) p))
parts_same p r h =
    ap length (run-part p 12 r) ∙ length_part p 12 r (omega arith)
    ∙ sym (ap length (end-part p (12 + r) r (omega arith)) ∙ length_part p (12 + r) r (omega arith))
