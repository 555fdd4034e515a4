-- The number that each refusal of a list of changes gives: 12 to 14, by the answers of its three tests.
use Prim.Native.Nat.{ℕ}
use mathlib.Core.Path.{◌≡◌, sym, ◌∙◌}
use mathlib.Core.Bool.{Bool, true, false, not}
use mathlib.Core.List.{List}
use borrow.Author.Tests.{not-true, not-false}
use Rattle.list_laws.specs.Tests.{all_below}
use Rattle.formats.specs.Checks.{first_no, list_checks}
use Rattle.formats.specs.inner.InnerChecks.{lists_fit}
use Rattle.formats.proofs.FourChecks.{three-1, three-2, three-3, pass-three}

module _ (n k : ℕ) (vs bs : List ℕ) where
  pub list-12 : (a : Bool) → a ≡ lists_fit vs bs → not a ≡ true → 12 ≡ first_no (list_checks n k vs bs)
  unfolding list_checks
  list-12 a e f = sym (three-1 11 12 13 (lists_fit vs bs) (all_below n vs) (all_below k bs) (sym e ∙ not-true a f))

  module _ (a : Bool) (fit : a ≡ lists_fit vs bs) (yes-a : not a ≡ false) (b : Bool) (nodes : b ≡ all_below n vs) where
    pub list-13 : not b ≡ true → 13 ≡ first_no (list_checks n k vs bs)
    unfolding list_checks
    list-13 f =
        sym (three-2 11 12 13 (lists_fit vs bs) (all_below n vs) (all_below k bs) (sym fit ∙ not-false a yes-a)
        (sym nodes ∙ not-true b f))

    module _ (yes-b : not b ≡ false) (c : Bool) (labels : c ≡ all_below k bs) where
      pub list-14 : not c ≡ true → 14 ≡ first_no (list_checks n k vs bs)
      unfolding list_checks
      list-14 f =
          sym (three-3 11 12 13 (lists_fit vs bs) (all_below n vs) (all_below k bs) (sym fit ∙ not-false a yes-a)
          (sym nodes ∙ not-false b yes-b) (sym labels ∙ not-true c f))

      pub list-good : not c ≡ false → 0 ≡ first_no (list_checks n k vs bs)
      unfolding list_checks
      list-good f =
          sym (pass-three 11 12 13 (lists_fit vs bs) (all_below n vs) (all_below k bs) (sym fit ∙ not-false a yes-a)
          (sym nodes ∙ not-false b yes-b) (sym labels ∙ not-false c f))
