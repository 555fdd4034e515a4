-- One iteration, and the end, of the loop that closes lists.
--     Closing           the same items are still to be written, to the same places
--     closing-start, closing-iteration, closing_end
--     closing-fits      the places fit 16 bits
use Prim.Native.Nat.{ℕ, suc, ◌+◌, ◌-◌, ◌≤◌}
use mathlib.Core.Path.{◌≡◌, refl, sym, ap, ◌∙◌, subst}
use mathlib.Core.Bool.{Bool, true, false}
use mathlib.Core.List.{List}
use mathlib.Core.Option.{Option}
use native.Mathlib.Omega.{arith}
use lib.ListN.{length, set, length-set}
use Rattle.planner.specs.inner.OutMachine.{Entry, closed, Written, placed}
use Rattle.planner.proofs.OutMachine.{placed-items}
use Rattle.planner.specs.out.inner.Stack.{node_on_top, is_later, stack_of, goes_further, after_leaf, CloseArgs, ListsClosed}
use Rattle.planner.proofs.out.StackLaws.{close-iteration, close-end, top-some}

pub record Closing (p : List ℕ) (depth next : ℕ) (ps : List ℕ) (top at : ℕ) (closing : Bool)
    (qs : List ℕ) : Type 0 where
  pub rest : (k : List Entry → List (Option ℕ))
      → placed (closed k (stack_of p top) closing) at qs ≡ placed (closed k (stack_of p depth) false) next ps
  pub lower : top ≤ depth
  pub same : length qs ≡ length ps

pub closing-start : (p : List ℕ) (depth next : ℕ) (ps : List ℕ) → Closing p depth next ps depth next false ps
closing-start p depth next ps = record { rest = λ k. refl; lower = omega arith; same = refl }

module _ (p : List ℕ) (depth next : ℕ) (ps : List ℕ) (top at : ℕ) (closing : Bool) (qs : List ℕ)
    (C : Closing p depth next ps top at closing qs) where
  -- the stack has one entry less
  iterated : goes_further p top closing ≡ true → (k : List Entry → List (Option ℕ))
      → placed (closed k (stack_of p (top - 1)) (is_later p (top - 1))) (after_leaf closing at + 1)
      (set qs (node_on_top p (top - 1)) (after_leaf closing at))
      ≡ placed (closed k (stack_of p depth) false) next ps
  iterated g k =
      let e : top ≡ suc (top - 1) = omega (arith, top-some p top closing g) in
      sym (close-iteration k p (top - 1) closing at qs (subst (λ (d : ℕ). goes_further p d closing ≡ true) e g))
      ∙ ap (λ (d : ℕ). placed (closed k (stack_of p d) closing) at qs) (sym e)
      ∙ C.rest k

  pub closing-iteration : goes_further p top closing ≡ true
      → Closing p depth next ps (top - 1) (after_leaf closing at + 1) (is_later p (top - 1))
      (set qs (node_on_top p (top - 1)) (after_leaf closing at))
  closing-iteration g =
      record {
        rest = iterated g;
        lower = omega (arith, C.lower);
        same =
            length-set qs (node_on_top p (top - 1)) (after_leaf closing at) ∙ C.same;
      }

  pub closing_end : goes_further p top closing ≡ false → ListsClosed p depth next ps top at qs
  closing_end g = record {
    rest = λ k. ap (λ (l : List (Option ℕ)). placed l at qs) (sym (close-end k p top closing g)) ∙ C.rest k;
    lower = C.lower;
    same = C.same;
  }

  pub closing-fits : CloseArgs p ps depth next → at ≤ 65535
  closing-fits A =
      let e : (placed (closed A.then (stack_of p top) closing) at qs).items
      ≡ (placed (closed A.then (stack_of p depth) false) next ps).items =
      ap (λ (w : Written). w.items) (C.rest A.then) in
      omega (arith, e, placed-items (closed A.then (stack_of p top) closing) at qs, A.fits)

  pub closing-fits-next : CloseArgs p ps depth next → goes_further p top closing ≡ true → after_leaf closing at + 1 ≤ 65535
  closing-fits-next A g =
      let e : (placed (closed A.then (stack_of p (top - 1)) (is_later p (top - 1))) (after_leaf closing at + 1)
      (set qs (node_on_top p (top - 1)) (after_leaf closing at))).items
      ≡ (placed (closed A.then (stack_of p depth) false) next ps).items =
      ap (λ (w : Written). w.items) (iterated g A.then) in
      omega (
        arith,
        e,
        placed-items (closed A.then (stack_of p (top - 1)) (is_later p (top - 1))) (after_leaf closing at + 1)
            (set qs (node_on_top p (top - 1)) (after_leaf closing at)),
        A.fits,
      )
