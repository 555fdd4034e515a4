-- The iterations of the pass down that writes depths and jumps.
--     put_other .. put-jump             what an iteration leaves unchanged and what it writes
--     parent-depth .. jump-args         the cells of a node's parent, of its jump and of that one's jump
--     depth-of, jump-of, args_of        a node's depth and jump, by its parent's cells
--     node-turns, root-turns            one node more, of every tree with these parents, as the loop has it
use Prim.Native.Nat.{ℕ, ◌+◌, ◌*◌, ◌≤◌, ◌<◌}
use mathlib.Core.Path.{◌≡◌, refl, sym, ap, ◌∙◌, subst}
use mathlib.Core.List.{List}
use native.Mathlib.Decide.{ℕ_discrete}
use native.Mathlib.Omega.{arith}
use lib.ListN.{length, get_or, set, length-set}
use lib.Seq.{get_or-set_same, get_or-set_other}
use Rattle.trees.specs.Tree.{Tree, size}
use Rattle.trees.specs.Numbering.{parent, depth}
use Rattle.trees.specs.Jumps.{jump, jump_within, jump_depth, two_distances}
use Rattle.trees.proofs.NodeLaws.{up, depth-root, depth_small, size-pos}
use Rattle.trees.proofs.JumpLaws.{jump_in, jump_above, jump-rule, jump-root, depth-jump, jump_depth-le}
use Rattle.tables.specs.node_tables.Cells.{parent_cell, jump_cell, depth_cell}
use Rattle.tables.specs.node_tables.NodeCells.{DownFrom, Parents, DownWritten}
use Rattle.list_laws.proofs.Choice.{by-lt}
use Rattle.tables.proofs.node_tables.JumpLengthLaws.{length-choice}
use Rattle.tables.specs.node_tables.inner.DownPass.{by_distances, by_length, child_jump, put, node_iteration, JumpArgs, NodeArgs, DownArgs}

-- ---- what an iteration leaves unchanged and what it writes

module _ (b : List ℕ) (v x y : ℕ) where
  put_other : (j : ℕ) → (j ≡ v * 4 + 1 → ⊥) → (j ≡ v * 4 + 2 → ⊥) → get_or (put b v x y) j 0 ≡ get_or b j 0
  put_other j c d = get_or-set_other (set b (v * 4 + 1) x) (v * 4 + 2) j y 0 d ∙ get_or-set_other b (v * 4 + 1) j x 0 c

  put-depth : v * 4 + 4 ≤ length b → depth_cell (put b v x y) v ≡ y
  put-depth room = get_or-set_same (set b (v * 4 + 1) x) (v * 4 + 2) y 0 (simp length-set (omega arith))

  put-jump : v * 4 + 4 ≤ length b → jump_cell (put b v x y) v ≡ x
  put-jump room =
      get_or-set_other (set b (v * 4 + 1) x) (v * 4 + 2) (v * 4 + 1) y 0 (omega arith)
      ∙ get_or-set_same b (v * 4 + 1) x 0 (omega arith)

-- one node more, from the right jump and depth
put-iteration : (t : Tree) (v : ℕ) (b₀ b : List ℕ) → DownWritten t (v + 1) b₀ b → v < size t → v * 4 + 4 ≤ length b
    → DownWritten t v b₀ (put b v (jump t v) (depth t v))
put-iteration t v b₀ b d h room = record {
  cells = record {
    depths = λ u l q. elim (ℕ_discrete u v) [
      | yes e ↦ rw e (put-depth b v (jump t v) (depth t v) room)
      | no e ↦ put_other b v (jump t v) (depth t v) (u * 4 + 2) (omega arith) (omega arith)
          ∙ d.cells.depths u (omega arith) q
    ];
    jumps = λ u l q. elim (ℕ_discrete u v) [
      | yes e ↦ rw e (put-jump b v (jump t v) (depth t v) room)
      | no e ↦ put_other b v (jump t v) (depth t v) (u * 4 + 1) (omega arith) (omega arith)
          ∙ d.cells.jumps u (omega arith) q
    ];
  };
  kept = λ j a. put_other b v (jump t v) (depth t v) j (a v h).0 (a v h).1 ∙ d.kept j a;
}

-- at the top the jump is the node itself
top-jump : (t : Tree) (v : ℕ) → depth t v ≡ 0 → jump t v ≡ v
unfolding jump jump_within
top-jump t v e = rw e

-- ---- the cells above node v, in a table that has the depths and jumps of the nodes after it

module _ (t : Tree) (v : ℕ) (b : List ℕ) (d : DownFrom t (v + 1) b) (p : ℕ) (hp : v < p) (hs : p < size t) where
  jump-once : jump_cell b p ≡ jump t p
  jump-once = d.jumps p (omega arith) hs

  jump-twice : jump_cell b (jump_cell b p) ≡ jump t (jump t p)
  jump-twice = ap (jump_cell b) jump-once ∙ d.jumps (jump t p) (omega (arith, jump_above t p hs)) (jump_in t p hs)

  parent-depth : depth_cell b p ≡ depth t p
  parent-depth = d.depths p (omega arith) hs

  depth-once : depth_cell b (jump_cell b p) ≡ depth t (jump t p)
  depth-once = ap (depth_cell b) jump-once ∙ d.depths (jump t p) (omega (arith, jump_above t p hs)) (jump_in t p hs)

  depth-twice : depth_cell b (jump_cell b (jump_cell b p)) ≡ depth t (jump t (jump t p))
  depth-twice =
      ap (depth_cell b) jump-twice
      ∙ d.depths (jump t (jump t p)) (omega (arith, jump_above t p hs, jump_above t (jump t p) (jump_in t p hs)))
      (jump_in t (jump t p) (jump_in t p hs))

  distances : by_distances b p
      ≡ two_distances (depth t p) (depth t (jump t p)) (depth t (jump t (jump t p))) (jump t (jump t p)) p
  distances = rw (depth-twice, depth-once, parent-depth, jump-twice)

  -- where the parent is the root, so is its jump's jump
  root-jumps : depth t p ≡ 0 → jump t (jump t p) ≡ p
  root-jumps e = ap (jump t) (top-jump t p e) ∙ top-jump t p e

  lengths : depth t p + 1 < 1024 → by_length b p
      ≡ two_distances (depth t p) (depth t (jump t p)) (depth t (jump t (jump t p))) (jump t (jump t p)) p
  lengths h =
      let once : depth t (jump t p) ≡ jump_depth (depth t p) = depth-jump t p hs in
      let twice : depth t (jump t (jump t p)) ≡ jump_depth (jump_depth (depth t p)) =
      depth-jump t (jump t p) (jump_in t p hs) ∙ ap jump_depth once in
      rw (parent-depth, jump-twice, twice, once) (length-choice (depth t p) (jump t (jump t p)) p h root-jumps)

  child-jump : child_jump b p
      ≡ two_distances (depth t p) (depth t (jump t p)) (depth t (jump t (jump t p))) (jump t (jump t p)) p
  child-jump =
      by-lt (λ (x : ℕ). x ≡ two_distances (depth t p) (depth t (jump t p)) (depth t (jump t (jump t p))) (jump t (jump t p)) p)
      (depth_cell b p + 1) 1024 (λ h. lengths (omega (arith, parent-depth))) (λ h. distances)

  jump-args : size t ≤ 65535 → size t * 4 ≤ length b → JumpArgs b p
  jump-args m room = record {
    small = omega arith;
    at = omega arith;
    once = omega (arith, jump-once, jump_in t p hs);
    twice = omega (arith, jump-twice, jump_in t (jump t p) (jump_in t p hs));
    falls = omega (arith, parent-depth, depth-once, depth-jump t p hs, jump_depth-le (depth t p));
    falls_again =
        omega (arith, depth-once, depth-twice, depth-jump t (jump t p) (jump_in t p hs), jump_depth-le (depth t (jump t p)));
  }

-- ---- a node's depth and jump, by its parent's cells

module _ (t : Tree) (v : ℕ) (b : List ℕ) (d : DownFrom t (v + 1) b) (h : v + 1 < size t)
    (e : parent_cell b v ≡ parent t v) where
  pub jump-of : child_jump b (parent_cell b v) ≡ jump t v
  jump-of =
      ap (child_jump b) e ∙ child-jump t v b d (parent t v) (up t v h).above (up t v h).below ∙ sym (jump-rule t v h)

  pub depth-of : depth_cell b (parent_cell b v) + 1 ≡ depth t v
  depth-of =
      let p : depth_cell b (parent t v) ≡ depth t (parent t v) =
      parent-depth t v b d (parent t v) (up t v h).above (up t v h).below in
      rw e (omega (arith, (up t v h).deeper))

  pub args_of : size t ≤ 65535 → size t * 4 ≤ length b → NodeArgs b v
  args_of m room = record {
    at = omega arith;
    fits = omega (arith, depth-of, depth_small t v (omega arith));
    up = rw e (jump-args t v b d (parent t v) (up t v h).above (up t v h).below m room);
  }

-- ---- the same of every tree with these parents

abbrev pub DownsWritten : ℕ → ℕ → List ℕ → List ℕ → Type 0
DownsWritten n i b₀ b = (t : Tree) → Parents t n b₀ → DownWritten t i b₀ b

-- the parents are still there
parent-cell : (t : Tree) (n i v : ℕ) (b₀ b : List ℕ) → Parents t n b₀ → DownWritten t i b₀ b → v < n
    → parent_cell b v ≡ parent t v
parent-cell t n i v b₀ b ps d h = d.kept (v * 4) (λ u l. (omega arith, omega arith)) ∙ ps.are v h

module _ (n v : ℕ) (b₀ b : List ℕ) (all : DownsWritten n (v + 1) b₀ b) (h : v + 1 < n) (room : n * 4 ≤ length b) where
  pub node-turns : DownsWritten n v b₀ (node_iteration b v)
  node-turns t ps =
      let d : DownWritten t (v + 1) b₀ b = all t ps in
      let hs : v + 1 < size t = omega (arith, ps.count) in
      let e : parent_cell b v ≡ parent t v = parent-cell t n (v + 1) v b₀ b ps d (omega arith) in
      rw (jump-of t v b d.cells hs e, depth-of t v b d.cells hs e)
      (put-iteration t v b₀ b d (omega arith) (omega arith))

  pub node-args : DownArgs n b₀ → NodeArgs b v
  node-args a =
      let t : Tree = a.tree in
      let ps : Parents t n b₀ = a.parents in
      let d : DownWritten t (v + 1) b₀ b = all t ps in
      args_of t v b d.cells (omega (arith, ps.count)) (parent-cell t n (v + 1) v b₀ b ps d (omega arith))
      (omega (arith, ps.count, a.most)) (omega (arith, ps.count))

pub root-turns : (n v : ℕ) (b : List ℕ) → v + 1 ≡ n → n * 4 ≤ length b → DownsWritten n v b (put b v v 0)
root-turns n v b e room t ps =
    subst (λ (x : ℕ). DownWritten t v b (put b v x 0)) (jump-root t v (omega (arith, ps.count)))
    (subst (λ (y : ℕ). DownWritten t v b (put b v (jump t v) y)) (depth-root t v (omega (arith, ps.count)))
    (put-iteration t v b b
    (record {
      cells = record {
        depths = λ u l q. absurd (omega (arith, ps.count));
        jumps = λ u l q. absurd (omega (arith, ps.count));
      };
      kept = λ j a. refl;
    })
    (omega (arith, ps.count)) (omega arith)))

pub down_pos : (n : ℕ) (b : List ℕ) → DownArgs n b → 0 < n
down_pos n b a = omega (arith, size-pos a.tree, a.parents.count)
