-- The cells of a row and of the table it is put into.
--     below-marked, -none, -same, next-root, next-below   the row of a node, by the tests on the way
--     part_length                                         a colour's table among all numbers
--     put-cell, put-apart                                 what is in the numbers after a row was put into them
--     colour-none, colour-put, colour-length              the same for a colour's table
use Prim.Native.Nat.{ℕ, zero, suc, ◌+◌, ◌*◌, ◌≤◌, ◌<◌}
use mathlib.Core.Path.{◌≡◌, ap, ◌∙◌}
use mathlib.Core.List.{List}
use native.Mathlib.Omega.{arith}
use lib.ListN.{length, get_or, drop, set, length-set, length-drop}
use lib.Seq.{length-take-le, get_or-set_same, get_or-set_other}
use borrow.Author.Tests.{lt-ltb, le-ltb, eq-eqb, ne_eqb}
use Rattle.tables.specs.node_tables.Cells.{parent_cell, jump_cell, depth_cell, size_cell}
use Rattle.tables.specs.node_tables.inner.DownPass.{by_distances}
use Rattle.colour_tables.specs.declared.forests.rows.Row.{Row}
use Rattle.colour_tables.specs.ColourCells.{colour_part}
use Rattle.colour_tables.specs.forests.Rows.{row, row_below, next_row, row_cells, put_row, put_colour}

-- ---- the row of a node

module _ (b : List ℕ) (c v p : ℕ) where
  pub below-marked : (s : ℕ) → s ≡ size_cell b p → s < c → row_below b c v p ≡ row p (by_distances b p) (depth_cell b p + 1)
  unfolding row_below
  below-marked s e h = rw (lt-ltb (size_cell b p) c (omega arith))

  pub below_none : (s : ℕ) → s ≡ size_cell b p → c ≤ s → depth_cell b p ≡ 0 → row_below b c v p ≡ row v v 0
  unfolding row_below
  below_none s e h z = rw (le-ltb (size_cell b p) c (omega arith), eq-eqb (depth_cell b p) 0 z)

  pub below-same : (s : ℕ) → s ≡ size_cell b p → c ≤ s → (depth_cell b p ≡ 0 → ⊥)
      → row_below b c v p ≡ row (parent_cell b p) (jump_cell b p) (depth_cell b p)
  unfolding row_below
  below-same s e h z = rw (le-ltb (size_cell b p) c (omega arith), ne_eqb (depth_cell b p) 0 z)

module _ (nums : List ℕ) (n c v : ℕ) where
  pub next-root : v + 1 ≡ n → next_row nums n c v ≡ row v v 0
  unfolding next_row
  next-root e = rw (eq-eqb (v + 1) n e)

  pub next-below : (v + 1 ≡ n → ⊥) → next_row nums n c v ≡ row_below (colour_part n c nums) c v (parent_cell nums v)
  unfolding next_row
  next-below e = rw (ne_eqb (v + 1) n e)

-- ---- a colour's table among all numbers

module _ (n c : ℕ) (nums : List ℕ) where
  pub part_length : c * (n * 4) + n * 4 ≤ length nums → length (colour_part n c nums) ≡ n * 4
  part_length h =
      length-take-le (n * 4) (drop (c * (n * 4)) nums) (omega (arith, length-drop (c * (n * 4)) nums))

-- ---- after a row was put

module _ (b : List ℕ) (at : ℕ) (r : Row) (l : ℕ) where
  abbrev one : List ℕ
  one = set b at r.up

  abbrev two : List ℕ
  two = set one (at + 1) r.jump

  abbrev three : List ℕ
  three = set two (at + 2) r.depth

  pub put-apart : (j : ℕ) → ((i : ℕ) → i < 4 → j ≡ at + i → ⊥) → get_or (put_row b at r l) j 0 ≡ get_or b j 0
  put-apart j n =
      get_or-set_other three (at + 3) j l 0 (n 3 (omega arith))
      ∙ get_or-set_other two (at + 2) j r.depth 0 (n 2 (omega arith))
      ∙ get_or-set_other one (at + 1) j r.jump 0 (n 1 (omega arith))
      ∙ get_or-set_other b at j r.up 0 (λ e. n 0 (omega arith) (omega arith))

  module _ (h : at + 4 ≤ length b) where
    inside : (at + 1 < length one) × (at + 2 < length two) × (at + 3 < length three)
    inside =
        let x : length one ≡ length b = length-set b at r.up in
        let y : length two ≡ length one = length-set one (at + 1) r.jump in
        let z : length three ≡ length two = length-set two (at + 2) r.depth in
        (omega arith, omega arith, omega arith)

    pub put-cell : (i : ℕ) → i < 4 → get_or (put_row b at r l) (at + i) 0 ≡ get_or (row_cells r l) i 0
    put-cell zero k =
        let z : at + 0 ≡ at = omega arith in
        ap (λ (x : ℕ). get_or (put_row b at r l) x 0) z
        ∙ get_or-set_other three (at + 3) at l 0 (λ e. omega arith)
        ∙ get_or-set_other two (at + 2) at r.depth 0 (λ e. omega arith)
        ∙ get_or-set_other one (at + 1) at r.jump 0 (λ e. omega arith)
        ∙ get_or-set_same b at r.up 0 (omega arith)
    put-cell (suc zero) k =
        get_or-set_other three (at + 3) (at + 1) l 0 (λ e. omega arith)
        ∙ get_or-set_other two (at + 2) (at + 1) r.depth 0 (λ e. omega arith)
        ∙ get_or-set_same one (at + 1) r.jump 0 inside.0
    put-cell (suc (suc zero)) k =
        get_or-set_other three (at + 3) (at + 2) l 0 (λ e. omega arith)
        ∙ get_or-set_same two (at + 2) r.depth 0 inside.1
    put-cell (suc (suc (suc zero))) k = get_or-set_same three (at + 3) l 0 inside.2
    put-cell (suc (suc (suc (suc i)))) k = absurd (omega arith)

-- ---- a colour's row

module _ (nums : List ℕ) (n c v l : ℕ) where
  pub colour-none : c < 1 → put_colour nums n c v l ≡ nums
  unfolding put_colour
  colour-none h = rw (lt-ltb c 1 h)

  pub colour-put : 1 ≤ c → put_colour nums n c v l ≡ put_row nums (c * (n * 4) + v * 4) (next_row nums n c v) l
  unfolding put_colour
  colour-put h = rw (le-ltb c 1 h)
