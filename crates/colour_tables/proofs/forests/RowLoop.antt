-- A node's row in a colour's table is that of the forest of marked nodes.
--     next-is      node v's row, from those of the nodes above its number
--     rows-args    what it needs
use Prim.Native.Nat.{ℕ, ◌+◌, ◌*◌, ◌≤◌, ◌<◌}
use mathlib.Core.Path.{◌≡◌, refl, sym, ap, ◌∙◌}
use mathlib.Core.Bool.{Bool, true, false}
use mathlib.Core.List.{List}
use native.Mathlib.Omega.{arith}
use native.Mathlib.Decide.{ℕ_discrete}
use lib.Dec.{ltb}
use lib.ListN.{length}
use borrow.Author.Tests.{ltb-true, ltb-false}
use Rattle.trees.specs.Tree.{Tree, size}
use Rattle.trees.specs.Numbering.{parent}
use Rattle.trees.specs.Jumps.{two_distances}
use Rattle.trees.proofs.NodeLaws.{up, depth_small}
use Rattle.colours.specs.marks.Marks.{marks_above}
use Rattle.colours.proofs.marks.MarkLaws.{marks_above-le}
use Rattle.colours.proofs.marks.RowLaws.{Row as MarkedRow, marked_jump, row-root, row-marked, row-none, row_same}
use Rattle.colours.proofs.marks.RowLaws.{jump_above, jump_inside, jump-depth}
use Rattle.tables.specs.node_tables.Cells.{jump_cell, depth_cell, size_cell}
use Rattle.tables.specs.node_tables.inner.DownPass.{by_distances, JumpArgs}
use Rattle.colour_tables.specs.ColourCells.{colour_part}
use Rattle.colour_tables.specs.forests.Rows.{row_below, next_row, BelowArgs, NextArgs, Given, RowIs}
use Rattle.colour_tables.proofs.forests.RowCells.{below-marked, below_none, below-same, next-root, next-below}
use Rattle.colour_tables.proofs.forests.RowCells.{part_length}

module _ (t : Tree) (m : ℕ → Bool) (n c : ℕ) (nums : List ℕ) (v : ℕ) (G : Given t m n c v nums)
    (room : c * (n * 4) + n * 4 ≤ length nums) (h : v < n) where
  abbrev b : List ℕ
  b = colour_part n c nums

  module _ (l : v + 1 < n) where
    abbrev p : ℕ
    p = parent t v

    hv : v + 1 < size t
    hv = omega (arith, G.count)

    hp : p < size t
    hp = (up t v hv).below

    row_at : (u : ℕ) → p ≤ u → u < size t → RowIs t m b u
    row_at u a q = G.rows u (omega (arith, (up t v hv).above)) (omega (arith, G.count))

    jump_in : marked_jump t m p < size t
    jump_in = jump_inside t m p hp

    -- the parent's row, its jump's and that one's jump's
    row-p : RowIs t m b p
    row-p = row_at p (omega arith) hp

    row-j : RowIs t m b (marked_jump t m p)
    row-j = row_at (marked_jump t m p) (jump_above t m p hp) jump_in

    row-jj : RowIs t m b (marked_jump t m (marked_jump t m p))
    row-jj =
        row_at (marked_jump t m (marked_jump t m p))
        (omega (arith, jump_above t m p hp, jump_above t m (marked_jump t m p) jump_in))
        (jump_inside t m (marked_jump t m p) jump_in)

    child-is : by_distances b p
        ≡ two_distances (marks_above t m p) (marks_above t m (marked_jump t m p))
        (marks_above t m (marked_jump t m (marked_jump t m p))) (marked_jump t m (marked_jump t m p)) p
    child-is =
        let one : jump_cell b p ≡ marked_jump t m p = row-p.jumps in
        let two : jump_cell b (jump_cell b p) ≡ marked_jump t m (marked_jump t m p) =
        ap (jump_cell b) one ∙ row-j.jumps in
        rw (two, one, row-p.depths, row-j.depths, row-jj.depths)

    mark-p : ltb (size_cell b p) c ≡ m p
    mark-p = G.marks p (omega (arith, (up t v hv).above)) (omega (arith, G.count, hp))

    -- the row of node v
    row_is : MarkedRow t m v (row_below b c v p).up (row_below b c v p).jump (row_below b c v p).depth
    row_is = go (m p) refl
      where
        go : (x : Bool) → m p ≡ x → MarkedRow t m v (row_below b c v p).up (row_below b c v p).jump
            (row_below b c v p).depth
        go true e =
            rw (
              below-marked b c v p (size_cell b p) refl
                  (ltb-true (size_cell b p) c (mark-p ∙ e)),
              child-is,
              row-p.depths,
            )
            (row-marked t m v hv e)
        go false e =
            let k : c ≤ size_cell b p = ltb-false (size_cell b p) c (mark-p ∙ e) in
            elim (ℕ_discrete (marks_above t m p) 0) [
              | yes z ↦ rw (below_none b c v p (size_cell b p) refl k (row-p.depths ∙ z)) (row-none t m v hv e z)
              | no z ↦ rw (
                below-same b c v p (size_cell b p) refl k (λ y. z (sym row-p.depths ∙ y)),
                row-p.parents,
                row-p.jumps,
                row-p.depths,
              ) (row_same t m v hv e (omega arith))
            ]

    -- ---- what its iteration needs

    jump-args : n ≤ 65535 → JumpArgs b p
    jump-args most =
        let one : jump_cell b p ≡ marked_jump t m p = row-p.jumps in
        let two : jump_cell b (jump_cell b p) ≡ marked_jump t m (marked_jump t m p) = ap (jump_cell b) one ∙ row-j.jumps in
        let d : depth_cell b (jump_cell b p) ≡ marks_above t m (marked_jump t m p) = ap (depth_cell b) one ∙ row-j.depths in
        let e : depth_cell b (jump_cell b (jump_cell b p)) ≡ marks_above t m (marked_jump t m (marked_jump t m p)) =
        ap (depth_cell b) two ∙ row-jj.depths in
        let len : length b ≡ n * 4 = part_length n c nums room in
        record {
          small = omega (arith, hp, G.count);
          at = omega (arith, hp, G.count);
          once = omega (arith, jump_in, G.count);
          twice = omega (arith, jump_inside t m (marked_jump t m p) jump_in, G.count);
          falls = omega (arith, row-p.depths, jump-depth t m p hp);
          falls_again = omega (arith, jump-depth t m (marked_jump t m p) jump_in);
        }

    below-args : n ≤ 65535 → BelowArgs b c v p
    below-args most =
        let len : length b ≡ n * 4 = part_length n c nums room in
        record {
          small = omega arith;
          at = omega (arith, hp, G.count);
          fits = omega (arith, row-p.depths, marks_above-le t m p, depth_small t p hp, G.count);
          up = jump-args most;
        }

  pub rows-args : n ≤ 65535 → c ≤ 15 → NextArgs nums n c v
  rows-args most few = record {
    most = most;
    few = few;
    at = h;
    room = room;
    below = λ ne. (let l : v + 1 < n = omega arith in rw (G.parents l) (below-args l most));
  }

  -- ---- the row itself

  pub next-is : MarkedRow t m v (next_row nums n c v).up (next_row nums n c v).jump (next_row nums n c v).depth
  next-is = elim (ℕ_discrete (v + 1) n) [
    | yes e ↦ rw (next-root nums n c v e) (row-root t m v (omega (arith, G.count)))
    | no e ↦ (let l : v + 1 < n = omega arith in rw (next-below nums n c v e, G.parents l) (row_is l))
  ]
