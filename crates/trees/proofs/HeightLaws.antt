-- The height of a tree is the greatest depth of its nodes.
--     depth-height    no node is deeper
--     height-reached  some node is as deep
--     height-size     2 * height t + 1 ≤ size t
--     height-limit, depth-limit   so with at most 65,535 nodes no depth is above 32,767
use Prim.Native.Nat.{ℕ, ◌+◌, ◌*◌, ◌≤◌, ◌<◌}
use mathlib.Core.Path.{◌≡◌, refl}
use native.Mathlib.Omega.{arith}
use Rattle.trees.specs.Tree.{Tree, leaf, node, size, height}
use Rattle.trees.specs.Numbering.{depth}
use Rattle.list_laws.proofs.Choice.{le-or}
use Rattle.trees.proofs.NodeLaws.{Place, in_l, in_r, top, place, size-pos, depth-root}
use Rattle.trees.proofs.NodeLaws.{depth-left, depth-right, depth-top}

pub depth-height : (t : Tree) (v : ℕ) → v < size t → depth t v ≤ height t
unfolding height
depth-height (leaf a) v h = omega (arith, depth-root (leaf a) v (omega arith))
depth-height (node l a r) v h = go (place l a r v h) (depth-height l v) (λ j. depth-height r j)
  where
    go : Place l r v → (v < size l → depth l v ≤ height l) → ((j : ℕ) → j < size r → depth r j ≤ height r)
        → depth (node l a r) v ≤ height (node l a r)
    go (in_l p) il ir = omega (arith, depth-left l a r v p, il p)
    go (in_r j q p) il ir = omega (arith, depth-right l a r v j q p, ir j p)
    go (top q) il ir = omega (arith, depth-top l a r v q)

abbrev pub Deepest : Tree → Type 0
Deepest t = (v : ℕ) × (v < size t) × (depth t v ≡ height t)

pub height-reached : (t : Tree) → Deepest t
unfolding height
height-reached (leaf a) = (0, omega arith, depth-root (leaf a) 0 refl)
height-reached (node l a r) = go (height-reached l) (height-reached r)
  where
    go : Deepest l → Deepest r → Deepest (node l a r)
    go x y =
        le-or (height r) (height l)
        (λ h. (x.0, omega (arith, x.1), omega (arith, depth-left l a r x.0 x.1, x.2)))
        (λ h. (
          size l + y.0,
          omega (arith, y.1),
          omega (arith, depth-right l a r (size l + y.0) y.0 refl y.1, y.2),
        ))

pub height-size : (t : Tree) → 2 * height t + 1 ≤ size t
unfolding height
height-size (leaf a) = omega arith
height-size (node l a r) = omega (arith, height-size l, height-size r, size-pos l, size-pos r)

-- "Greatest depth 32,767 (root 0)", for "N 1 to 65,535"
pub height-limit : (t : Tree) → size t ≤ 65535 → height t ≤ 32767
height-limit t h = omega (arith, height-size t)

pub depth-limit : (t : Tree) (v : ℕ) → size t ≤ 65535 → v < size t → depth t v ≤ 32767
depth-limit t v h l = omega (arith, height-limit t h, depth-height t v l)
