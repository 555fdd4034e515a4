-- Where a climb gives nothing.
--     next-out-of-range            a move that is not made is a stray link
--     Failed, carried_none  climb and carry together give nothing only by a stray link or by a move that makes nothing of its value
--     tree-links-in-range        a tree has no stray link
use Prim.Native.Nat.{ℕ, zero, suc, ◌+◌, ◌≤◌, ◌<◌}
use mathlib.Core.Path.{◌≡◌, refl, sym, ap, ◌∙◌, subst}
use mathlib.Core.Bool.{Bool, true, false, cond, ◌&&◌}
use mathlib.Core.List.{List, []}
use mathlib.Core.Logic.{◌⊎◌, inl, inr}
use mathlib.Core.Option.{Option, none, some}
use native.Mathlib.Omega.{arith}
use native.Mathlib.Decide.{ℕ_discrete}
use lib.Dec.{leb, ltb}
use borrow.Author.Tests.{ltb-true, ltb-false}
use Rattle.trees.specs.Tree.{Tree, size}
use Rattle.trees.specs.Numbering.{parent, depth}
use Rattle.trees.specs.Jumps.{jump}
use Rattle.trees.specs.Climb.{Forest, forest_of, Move, via_jump, to_parent, target, rising, next_move}
use Rattle.trees.specs.Climb.{and_then, before, climb_in, climb, carry}
use Rattle.trees.specs.LinkOutOfRange.{LinkOutOfRange, jump_outside, jump_flat, parent_outside, parent_flat}
use Rattle.list_laws.proofs.Choice.{by-test}
use Rattle.trees.proofs.NodeLaws.{up, parent-root, below_root}
use Rattle.trees.proofs.JumpLaws.{jump_in, depth-jump}
use Rattle.trees.proofs.SkewBinary.{jump_depth-lt}
use Rattle.trees.proofs.MoveLaws.{none-some, chosen, next-inside}
use Rattle.trees.proofs.CarryLaws.{carried}

module _ (F : Forest) where
  flat : (v : ℕ) (m : Move) → rising F v m ≡ none → (F.nodes ≤ target F m) ⊎ (F.depth v ≤ F.depth (target F m))
  flat v m = go (ltb (target F m) F.nodes) (ltb (F.depth (target F m)) (F.depth v)) refl refl
    where
      go : (a b : Bool) → ltb (target F m) F.nodes ≡ a → ltb (F.depth (target F m)) (F.depth v) ≡ b
          → cond (a && b) (some m) none ≡ none → (F.nodes ≤ target F m) ⊎ (F.depth v ≤ F.depth (target F m))
      go true true p q e = absurd (none-some (sym e))
      go true false p q e = inr (ltb-false (F.depth (target F m)) (F.depth v) q)
      go false b p q e = inl (ltb-false (target F m) F.nodes p)

  module _ (v : ℕ) (inside : v < F.nodes) (below_top : 0 < F.depth v) where
    pub next-out-of-range : (m : Move) → (m ≡ via_jump v) ⊎ (m ≡ to_parent v)
        → cond (ltb (F.jump v) F.nodes) (rising F v m) none ≡ none → LinkOutOfRange F
    next-out-of-range m i = go (ltb (F.jump v) F.nodes) refl
      where
        by_jump : (F.nodes ≤ F.jump v) ⊎ (F.depth v ≤ F.depth (F.jump v)) → LinkOutOfRange F
        by_jump (inl h) = jump_outside v inside h
        by_jump (inr h) = jump_flat v inside below_top h

        to-parent : (F.nodes ≤ F.parent v) ⊎ (F.depth v ≤ F.depth (F.parent v)) → LinkOutOfRange F
        to-parent (inl h) = parent_outside v inside h
        to-parent (inr h) = parent_flat v inside below_top h

        go : (b : Bool) → ltb (F.jump v) F.nodes ≡ b → cond b (rising F v m) none ≡ none → LinkOutOfRange F
        go true q e = elim i [
          | inl j ↦ by_jump (flat v (via_jump v) (subst (λ (x : Move). rising F v x ≡ none) j e))
          | inr j ↦ to-parent (flat v (to_parent v) (subst (λ (x : Move). rising F v x ≡ none) j e))
        ]
        go false q e = jump_outside v inside (ltb-false (F.jump v) F.nodes q)

    move-out-of-range : (t : ℕ) → next_move F v t ≡ none → LinkOutOfRange F
    unfolding next_move
    move-out-of-range t = next-out-of-range (chosen F v t)
        (by-test (λ (m : Move). (m ≡ via_jump v) ⊎ (m ≡ to_parent v)) (leb t (F.depth (F.jump v))) (λ _. inl refl) (λ _. inr refl))

-- ---- climb and carry together

-- every value carried has P
module _ {X : Type 0} (F : Forest) (act : Move → X → Option X) (P : X → Type 0)
    (keeps : (m : Move) (x y : X) → P x → act m x ≡ some y → P y) (t : ℕ) where
  pub record Failed : Type 0 where
    pub node : ℕ
    pub move : Move
    pub value : X
    pub inside : node < F.nodes
    pub deeper : t < F.depth node
    pub next : next_move F node t ≡ some move
    pub good : P value
    pub nothing : act move value ≡ none

  abbrev Onward : ℕ → Type 0
  Onward f = (v : ℕ) (x : X) → v < F.nodes → P x → and_then (climb_in f F v t) (λ ms. carry act ms x) ≡ none → LinkOutOfRange F ⊎ Failed

  in-none : (f : ℕ) → Onward f
  unfolding climb_in
  in-none zero v x h p e = absurd (none-some (sym e))
  in-none (suc f) v x h p e = iteration (ltb t (F.depth v)) refl (next_move F v t) refl e (in-none f)
    where
      moved : (m : Move) (y : X) → act m x ≡ some y → (o : Option (List Move))
          → and_then (before m o) (λ ms. carry act ms x) ≡ none → and_then o (λ ms. carry act ms y) ≡ none
      moved m y a none i = refl
      moved m y a (some ms) i = sym (ap (λ (z : Option X). and_then z (carry act ms)) a) ∙ i

      made : (m : Move) → t < F.depth v → next_move F v t ≡ some m → (o : Option X) → act m x ≡ o
          → and_then (before m (climb_in f F (target F m) t)) (λ ms. carry act ms x) ≡ none → Onward f → LinkOutOfRange F ⊎ Failed
      made m d n none a i ih = inr (record { node = v; move = m; value = x; inside = h; deeper = d; next = n; good = p; nothing = a })
      made m d n (some y) a i ih =
          ih (target F m) y (next-inside F v t m n) (keeps m x y p a) (moved m y a (climb_in f F (target F m) t) i)

      iteration : (b : Bool) → ltb t (F.depth v) ≡ b → (o : Option Move) → next_move F v t ≡ o
          → and_then (cond b (and_then o (λ m. before m (climb_in f F (target F m) t))) (some [])) (λ ms. carry act ms x) ≡ none
          → Onward f → LinkOutOfRange F ⊎ Failed
      iteration false d o n i ih = absurd (none-some (sym i))
      iteration true d none n i ih = inl (move-out-of-range F v h (omega (arith, ltb-true t (F.depth v) d)) t n)
      iteration true d (some m) n i ih = made m (ltb-true t (F.depth v) d) n (act m x) refl i ih

  pub carried_none : (v : ℕ) (x : X) → v < F.nodes → P x → carried F act v t x ≡ none → LinkOutOfRange F ⊎ Failed
  unfolding climb
  carried_none v x h p e = in-none (F.depth v) v x h p e

-- ---- a tree

pub tree-links-in-range : (t : Tree) → LinkOutOfRange (forest_of t) → ⊥
tree-links-in-range t (jump_outside v h o) = omega (arith, jump_in t v h)
tree-links-in-range t (jump_flat v h d e) = omega (arith, depth-jump t v h, jump_depth-lt (depth t v) d)
tree-links-in-range t (parent_outside v h o) = elim (ℕ_discrete (v + 1) (size t)) [
  | yes e ↦ omega (arith, parent-root t v e)
  | no e ↦ omega (arith, (up t v (omega arith)).below)
]
tree-links-in-range t (parent_flat v h d e) = omega (arith, (up t v (below_root t v h d)).deeper)
