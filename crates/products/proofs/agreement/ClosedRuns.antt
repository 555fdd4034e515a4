-- What holds of every leaf's state and height, and is kept by every inner node, holds of every plan's.
--     Stable       such a relation between states and heights
--     runs-in      it holds of every plan
use Prim.Native.Nat.{ℕ, suc, ◌<◌, max}
use Rattle.trees.specs.Tree.{Tree, leaf, node, height}
use Rattle.trees.specs.Automaton.{Automaton, state}
use Rattle.products.specs.Plans.{PlanOf}
use Rattle.products.proofs.PlanParts.{Parts, plan-parts, one_below}

pub record Stable (A : Automaton) (k : ℕ) (C : ℕ → ℕ → Type 0) : Type 0 where
  pub has-leaves : (a : ℕ) → a < k → C (A.ι a) 0
  pub has-steps : (p g a q h : ℕ) → C p g → a < k → C q h → C (A.δ p a q) (suc (max g h))

pub runs-in : (A : Automaton) (k : ℕ) (C : ℕ → ℕ → Type 0) → Stable A k C → (t : Tree) → PlanOf k t → C (state A t) (height t)
unfolding height
runs-in A k C S (leaf a) e = S.has-leaves a (one_below k a e)
runs-in A k C S (node l a r) e =
    let p : Parts k l a r = plan-parts k l a r e in
    S.has-steps (state A l) (height l) a (state A r) (height r) (runs-in A k C S l p.left) p.label (runs-in A k C S r
    p.right)
