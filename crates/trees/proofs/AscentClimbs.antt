-- Climbs over any parents that ascend: never stuck, to the node at the target depth, in move_count many moves.
--     up-next-jump, up-next-parent   the next move
--     climb-up                       there is a climb to each depth above; its end and its number of moves
use Prim.Native.Nat.{ℕ, zero, suc, ◌+◌, ◌-◌, ◌≤◌, ◌<◌}
use mathlib.Core.Path.{◌≡◌, refl, sym, ap, ◌∙◌}
use mathlib.Core.List.{List, [], ◌∷◌}
use mathlib.Core.Option.{some}
use native.Mathlib.Omega.{arith}
use native.Mathlib.Nat.{le_refl}
use lib.ListN.{length}
use Rattle.trees.specs.Jumps.{jump_depth}
use Rattle.trees.specs.Climb.{Move, via_jump, to_parent, target, next_move, before, climb, climb_end}
use Rattle.trees.specs.Climb.{next_depth, move_count}
use Rattle.list_laws.proofs.Choice.{le-or}
use Rattle.trees.proofs.SkewBinary.{jump_depth-lt}
use Rattle.trees.proofs.MoveCount.{next_depth-jump, next_depth-parent, next_depth-lt, next_depth-ge}
use Rattle.trees.proofs.MoveCount.{move_count-done, move_count-move}
use Rattle.trees.proofs.MoveLaws.{next-jump, next-parent}
use Rattle.trees.proofs.ClimbLaws.{climb-done, climb-move}
use Rattle.trees.specs.Ascents.{rise, jump_by, forest_by, Ascends}
use Rattle.trees.proofs.AscentLaws.{rise-in, rise-depth, rise-add, jump_by-is, jump_by-in, depth-jump_by}

module _ (n : ℕ) (up deep : ℕ → ℕ) (A : Ascends n up deep) where
  -- ---- the next move

  pub up-next-jump : (v to : ℕ) → v < n → to < deep v → to ≤ jump_depth (deep v)
      → next_move (forest_by n up deep) v to ≡ some (via_jump v)
  up-next-jump v to h l p =
      let j : deep (jump_by up deep v) ≡ jump_depth (deep v) = depth-jump_by n up deep A v h in
      next-jump (forest_by n up deep) v to (jump_by-in n up deep A v h) (omega arith)
      (omega (arith, jump_depth-lt (deep v) (omega arith)))

  pub up-next-parent : (v to : ℕ) → v < n → to < deep v → jump_depth (deep v) < to
      → next_move (forest_by n up deep) v to ≡ some (to_parent v)
  up-next-parent v to h l p =
      let j : deep (jump_by up deep v) ≡ jump_depth (deep v) = depth-jump_by n up deep A v h in
      let d : deep (up v) + 1 ≡ deep v = A.rises v h (omega arith) in
      next-parent (forest_by n up deep) v to (jump_by-in n up deep A v h) (omega arith) (A.inside v h) (omega arith)

  -- it leads to the node at depth next_depth
  record Onward (v to : ℕ) : Type 0 where
    pub move : Move
    pub next : next_move (forest_by n up deep) v to ≡ some move
    pub leads : target (forest_by n up deep) move ≡ rise up v (deep v - next_depth (deep v) to)

  onward : (v to : ℕ) → v < n → to < deep v → Onward v to
  unfolding rise
  onward v to h l =
      le-or to (jump_depth (deep v))
      (λ p. record {
        move = via_jump v;
        next = up-next-jump v to h l p;
        leads = jump_by-is n up deep A v (next_depth (deep v) to) h (sym (next_depth-jump (deep v) to p));
      })
      (λ p.
      let e : 1 ≡ deep v - next_depth (deep v) to = omega (arith, next_depth-parent (deep v) to p) in
      record { move = to_parent v; next = up-next-parent v to h l p; leads = ap (rise up v) e })

  -- ---- the climb

  pub record Climbed (w to : ℕ) : Type 0 where
    pub moves : List Move
    pub found : climb (forest_by n up deep) w to ≡ some moves
    pub ends : climb_end (forest_by n up deep) w moves ≡ rise up w (deep w - to)
    pub count : length moves ≡ move_count (deep w) to

  arrived : (w to : ℕ) → deep w ≤ to → Climbed w to
  unfolding rise
  arrived w to h =
      let e : 0 ≡ deep w - to = omega arith in
      record {
        moves = [];
        found = climb-done (forest_by n up deep) w to h;
        ends = ap (rise up w) e;
        count = sym (move_count-done (deep w) to h);
      }

  -- one move of k steps, and the rest
  one_more : (w to k : ℕ) (m : Move) → w < n → to < deep w → deep w - next_depth (deep w) to ≡ k
      → next_move (forest_by n up deep) w to ≡ some m → target (forest_by n up deep) m ≡ rise up w k
      → Climbed (rise up w k) to → Climbed w to
  one_more w to k m h l i e q c =
      let F = forest_by n up deep in
      let u : ℕ = rise up w k in
      let d : deep u + k ≡ deep w = rise-depth n up deep A w k h (omega arith) in
      let g : next_depth (deep w) to < deep w = next_depth-lt (deep w) to l in
      let r : deep u ≡ next_depth (deep w) to = omega arith in
      let z : deep u - to + k ≡ deep w - to = omega (arith, next_depth-ge (deep w) to l) in
      record {
        moves = m ∷ c.moves;
        found = climb-move F w to m l e ∙ ap (λ (x : ℕ). before m (climb F x to)) q ∙ ap (before m) c.found;
        ends = ap (λ (x : ℕ). climb_end F x c.moves) q ∙ c.ends
            ∙ rise-add n up deep A w k (deep u - to) ∙ ap (rise up w) z;
        count = ap suc (c.count ∙ ap (λ (x : ℕ). move_count x to) r) ∙ sym (move_count-move (deep w) to l);
      }

  counted : (f w to : ℕ) → deep w ≤ f → w < n → to ≤ deep w → Climbed w to
  counted zero w to g h l = arrived w to (omega arith)
  counted (suc f) w to g h l =
      le-or (deep w) to (arrived w to)
      (λ p.
      let o : Onward w to = onward w to h p in
      let a : next_depth (deep w) to < deep w = next_depth-lt (deep w) to p in
      let b : to ≤ next_depth (deep w) to = next_depth-ge (deep w) to p in
      let k : ℕ = deep w - next_depth (deep w) to in
      let d : deep (rise up w k) + k ≡ deep w = rise-depth n up deep A w k h (omega arith) in
      one_more w to k o.move h p refl o.next o.leads
      (counted f (rise up w k) to (omega arith) (rise-in n up deep A w k h) (omega arith)))

  pub climb-up : (w to : ℕ) → w < n → to ≤ deep w → Climbed w to
  climb-up w to h l = counted (deep w) w to (le_refl _) h l
