-- One node read, and the invariant of the loop over all nodes.
--     node-inner, node-leaf     a node with children, and one without
--     leaf-args, next_fits      what closing the lists needs
--     Placing                   the same items are still to be written, to the same places
--     placing-start             its start
use Prim.Native.Nat.{ℕ, zero, suc, ◌+◌, ◌-◌, ◌*◌, ◌≤◌}
use mathlib.Core.Path.{◌≡◌, refl, sym, ap, ◌∙◌}
use mathlib.Core.Bool.{true, false}
use mathlib.Core.List.{List, [], ◌∷◌}
use mathlib.Core.Option.{Option}
use native.Mathlib.Omega.{arith}
use lib.Dec.{eqb}
use lib.ListN.{length, get_or, drop}
use Rattle.planner.specs.inner.OutMachine.{Entry, entry, to_come, closed, outward, Written, placed}
use Rattle.planner.proofs.OutMachine.{placed-items}
use Rattle.planner.specs.out.inner.Stack.{stack_of, after_top, Pushed, CloseArgs, ListsClosed, NodeArgs, NodeRead}
use Rattle.planner.proofs.out.StackLaws.{after_top-to_come}

-- what the loop gives after lists were closed
abbrev resumed : List ℕ → ℕ → List Entry → List (Option ℕ)
resumed cs v st = outward cs v (to_come st) false st

module _ (v depth next left first s : ℕ) (p ps q : List ℕ) (e : s ≡ left - 1) (P : Pushed depth v s first p q) where
  pushed-is : stack_of q (depth + 1) ≡ entry v (left - 1) (eqb first 1) ∷ stack_of p depth
  pushed-is = P.stack ∙ ap (λ (n : ℕ). entry v n (eqb first 1) ∷ stack_of p depth) e

  inner-rest : (c : ℕ) → (c ≡ 0 → ⊥) → (cs : List ℕ)
      → placed (outward cs (v + 1) c true (stack_of q (depth + 1))) next ps
      ≡ placed (outward (c ∷ cs) v left (eqb first 1) (stack_of p depth)) next ps
  inner-rest zero h cs = absurd (h refl)
  inner-rest (suc c) h cs = ap (λ (st : List Entry). placed (outward cs (v + 1) (suc c) true st) next ps) pushed-is

  pub node-inner : (c : ℕ) → (c ≡ 0 → ⊥) → NodeRead v c depth next left first p ps (depth + 1) next c 1 q ps
  node-inner c h = record {
    rest = inner-rest c h;
    deeper = omega arith;
    same = P.same;
    kept = P.kept;
    same_places = refl;
  }

  leaf-rest : (cs : List ℕ)
      → placed (closed (resumed cs (v + 1)) (stack_of q (depth + 1)) false) (next + 1) ps
      ≡ placed (outward (0 ∷ cs) v left (eqb first 1) (stack_of p depth)) next ps
  leaf-rest cs = ap (λ (st : List Entry). placed (closed (resumed cs (v + 1)) st false) (next + 1) ps) pushed-is

  pub node-leaf : (c depth₁ next₁ left₁ : ℕ) (qs : List ℕ) → c ≡ 0
      → ListsClosed q (depth + 1) (next + 1) ps depth₁ next₁ qs
      → left₁ ≡ after_top q depth₁ → NodeRead v c depth next left first p ps depth₁ next₁ left₁ 0 q qs
  node-leaf c depth₁ next₁ left₁ qs h L f = record {
    rest = λ cs. ap (λ (n : ℕ). placed (outward cs (v + 1) n false (stack_of q depth₁)) next₁ qs)
        (f ∙ after_top-to_come q depth₁)
        ∙ L.rest (resumed cs (v + 1)) ∙ leaf-rest cs
        ∙ ap (λ (n : ℕ). placed (outward (n ∷ cs) v left (eqb first 1) (stack_of p depth)) next ps) (sym h);
    deeper = L.lower;
    same = P.same;
    kept = P.kept;
    same_places = L.same;
  }

  pub leaf-args : (c : ℕ) → c ≡ 0 → NodeArgs p ps v c depth next left first → CloseArgs q ps (depth + 1) (next + 1)
  leaf-args c h A = record {
    room = omega (arith, P.same, A.room);
    then = resumed A.counts (v + 1);
    fits =
        let e : (placed (closed (resumed A.counts (v + 1)) (stack_of q (depth + 1)) false) (next + 1) ps).items
        ≡ (placed (outward (c ∷ A.counts) v left (eqb first 1) (stack_of p depth)) next ps).items =
        ap (λ (w : Written). w.items) (leaf-rest A.counts
        ∙ ap (λ (n : ℕ). placed (outward (n ∷ A.counts) v left (eqb first 1) (stack_of p depth)) next ps) (sym h)) in
        omega (arith, e, A.fits);
  }

pub next_fits : (p ps : List ℕ) (v c depth next left first : ℕ) → NodeArgs p ps v c depth next left first → next ≤ 65535
next_fits p ps v c depth next left first A =
    omega (arith, A.fits, placed-items (outward (c ∷ A.counts) v left (eqb first 1) (stack_of p depth)) next ps)

-- ---- all nodes

pub record Placing (cs p ps q qs : List ℕ) (depth next left first v : ℕ) : Type 0 where
  pub rest : placed (outward (drop v cs) v left (eqb first 1) (stack_of q depth)) next qs
      ≡ placed (outward cs 0 1 true []) 0 ps
  pub shallow : depth ≤ v
  pub same : length q ≡ length p
  pub same_places : length qs ≡ length ps
  pub kept : (j : ℕ) → length cs * 4 ≤ j → get_or q j 0 ≡ get_or p j 0

pub placing-start : (cs p ps : List ℕ) → Placing cs p ps p ps 0 0 1 1 0
unfolding stack_of
placing-start cs p ps = record {
  rest = refl;
  shallow = omega arith;
  same = refl;
  same_places = refl;
  kept = λ j h. refl;
}
