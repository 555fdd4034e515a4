-- No count, product or partial sum of a part is above k ^ m: with 26 passed, at most 10 ^ 18, which fits 63 bits.
--     root-total     the root's total is k ^ m
--     total-fits     every node's total is at most k ^ m
--     counts-fit     so is every count
-- A partial sum of a part adds products of counts and is at most the part's own total (total-inner, convolved,
-- pushed).
use Prim.Native.Nat.{ℕ, ◌+◌, ◌^◌, ◌-◌, ◌≤◌, ◌<◌}
use mathlib.Core.Path.{◌≡◌, sym, ◌∙◌, subst}
use mathlib.Core.Bool.{Bool, true, false, cond}
use mathlib.Core.List.{List}
use native.Mathlib.Omega.{arith}
use lib.ListN.{length}
use Rattle.trees.specs.Tree.{Tree, size, labels_of}
use Rattle.trees.specs.Automaton.{Automaton}
use Rattle.trees.proofs.NodeLaws.{length-labels, size-pos}
use Rattle.list_laws.specs.Tests.{all_below, holds, distinct}
use Rattle.choices.specs.assignments.Sums.{sum_to, LabelSum, open_sum, one}
use Rattle.choices.specs.assignments.inner.Weights.{weighed_at}
use Rattle.choices.proofs.assignments.SumLaws.{sum-const}
use Rattle.choices.proofs.assignments.WeighLaws.{open-linear, open-scales}
use Rattle.choices.proofs.assignments.TriedAll.{tried-all, all_one}
use Rattle.choices.proofs.assignments.PartWeights.{at_root}
use Rattle.choices.proofs.assignments.Vectors.{total, count_most, total-most}

module _ (A : Automaton) (init : (a : ℕ) → A.ι a < A.states) (next : (p a q : ℕ) → A.δ p a q < A.states) (k : ℕ)
    (some-labels : 1 ≤ k)
    (t : Tree) (vs : List ℕ) (inside : all_below (size t) vs ≡ true) (different : distinct vs ≡ true) where
  abbrev ch : LabelSum
  ch = open_sum k (λ v. holds v vs) (labels_of t)

  some-label : (v : ℕ) → 1 ≤ ch v (λ b. 1)
  unfolding open_sum
  some-label v = go (holds v vs)
    where
      go : (b : Bool) → 1 ≤ cond b (sum_to k (λ c. 1)) 1
      go true = omega (arith, sum-const k 1)
      go false = omega arith

  abbrev most : ℕ → ℕ
  most v = total A init next ch (open-linear k (λ v. holds v vs) (labels_of t))
      (open-scales k (λ v. holds v vs) (labels_of t)) t v

  pub root-total : (v : ℕ) → v + 1 ≡ size t → most v ≡ k ^ length vs
  unfolding total
  root-total v e =
      at_root A ch t v (λ c. 1) e ∙ sym (tried-all A k t (λ c. 1) vs (labels_of t) (length-labels t) inside different)
      ∙ all_one k vs (labels_of t)

  pub total-fits : (v : ℕ) → v < size t → most v ≤ k ^ length vs
  total-fits v h =
      let e : size t - 1 + 1 ≡ size t = omega (arith, size-pos t) in
      subst (λ (n : ℕ). most v ≤ n) (root-total (size t - 1) e)
      (total-most A init next ch (open-linear k (λ v. holds v vs) (labels_of t))
      (open-scales k (λ v. holds v vs) (labels_of t)) t some-label v h)

  pub counts-fit : (v s : ℕ) → v < size t → s < A.states → weighed_at A ch t v (one s) ≤ k ^ length vs
  counts-fit v s h l =
      omega (
        arith,
        count_most A init next ch (open-linear k (λ v. holds v vs) (labels_of t))
            (open-scales k (λ v. holds v vs) (labels_of t)) t v s l,
        total-fits v h,
      )
