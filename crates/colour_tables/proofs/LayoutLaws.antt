-- The tables of colours cell by cell and as whole lists.
--     length-numbers, length-copies   how long they are
--     part_at                         a number of a colour's table among all
--     numbers-over, copies-over       a buffer with these cells, and the rest as before, is the table and the excess
--     numbers-cells, copies-cells     and back: a buffer that begins with the table has its cells
use Prim.Native.Nat.{ℕ, zero, suc, ◌+◌, ◌*◌, ◌≤◌, ◌<◌}
use mathlib.Core.Path.{◌≡◌, refl, sym, ap, ◌∙◌}
use mathlib.Core.List.{List, ◌++◌}
use native.Mathlib.Omega.{arith}
use lib.ListN.{length, get_or, take, drop}
use lib.Seq.{get_or-take, get_or-drop}
use Rattle.list_laws.specs.Rows.{rows}
use Rattle.list_laws.proofs.RowLaws.{Cell, cell-split, length-rows, get_d_rows, rows-over, cells-of-rows}
use Rattle.trees.specs.Tree.{Tree, size}
use Rattle.trees.specs.Tables.{node_table_of}
use Rattle.tables.proofs.node_tables.CellLaws.{length-node_table_of}
use Rattle.colours.specs.Copies.{copy}
use Rattle.colours.proofs.CopyLaws.{copy-colouring}
use Rattle.colour_tables.specs.Layout.{colour_row, colour_table, colour_numbers_of, copies_of}
use Rattle.colour_tables.specs.ColourCells.{colour_part}
use Rattle.colour_tables.specs.AsBuilt.{ColourRow, ColourCells}

pub part_at : (n c : ℕ) (numbers : List ℕ) (i : ℕ) → i < n * 4
    → get_or (colour_part n c numbers) i 0 ≡ get_or numbers (c * (n * 4) + i) 0
part_at n c numbers i h =
    get_or-take (n * 4) (drop (c * (n * 4)) numbers) i 0 h ∙ get_or-drop (c * (n * 4)) numbers i 0

module _ (n : ℕ) (step : ℕ → ℕ → ℕ) (t : Tree) where
  -- ---- the numbers

  length-table : (c : ℕ) → length (colour_table n step t c) ≡ size t * 4
  unfolding colour_table
  length-table zero = length-node_table_of t
  length-table (suc c) = length-rows (size t) 4 (colour_row n step t (suc c)) (λ v h. refl)

  pub length-numbers : length (colour_numbers_of n step t) ≡ n * (size t * 4)
  unfolding colour_numbers_of
  length-numbers = length-rows n (size t * 4) (colour_table n step t) (λ c h. length-table c)

  -- the four numbers of a row, from its record
  row-cells : (part : List ℕ) (c v : ℕ) → ColourRow n step t part c v → (j : ℕ) → j < 4
      → get_or part (v * 4 + j) 0 ≡ get_or (colour_row n step t c v) j 0
  row-cells part c v r zero h = let e : v * 4 + 0 ≡ v * 4 = omega arith in ap (λ (i : ℕ). get_or part i 0) e ∙ r.parents
  row-cells part c v r (suc zero) h = r.jumps
  row-cells part c v r (suc (suc zero)) h = r.depths
  row-cells part c v r (suc (suc (suc zero))) h = r.lands
  row-cells part c v r (suc (suc (suc (suc j)))) h = absurd (omega arith)

  -- any number of a colour's table
  table_at : (part : List ℕ) (c : ℕ) → ((v : ℕ) → v < size t → ColourRow n step t part (suc c) v) → (j : ℕ)
      → j < size t * 4
      → get_or part j 0 ≡ get_or (colour_table n step t (suc c)) j 0
  unfolding colour_table
  table_at part c r j h =
      let d : Cell 4 (size t) j = cell-split 4 (size t) j h in
      ap (λ (i : ℕ). get_or part i 0) d.is
      ∙ row-cells part (suc c) d.row (r d.row d.row_in) d.column d.column-in
      ∙ sym (ap (λ (i : ℕ). get_or (rows (size t) (colour_row n step t (suc c))) i 0) d.is
      ∙ get_d_rows (size t) 4 (colour_row n step t (suc c)) (λ v q. refl) d.row d.column d.row_in d.column-in)

  pub numbers-over : (before after : List ℕ) → length after ≡ length before → n * (size t * 4) ≤ length before
      → ((j : ℕ) → j < size t * 4 → get_or after j 0 ≡ get_or (node_table_of t) j 0)
      → ColourCells n step t after
      → ((j : ℕ) → n * (size t * 4) ≤ j → get_or after j 0 ≡ get_or before j 0)
      → after ≡ colour_numbers_of n step t ++ drop (n * (size t * 4)) before
  unfolding colour_numbers_of colour_table
  numbers-over before after e room first cells kept =
      rows-over n (size t * 4) (colour_table n step t) (λ c h. length-table c) before after e room each kept
    where
      each : (c j : ℕ) → c < n → j < size t * 4
          → get_or after (c * (size t * 4) + j) 0 ≡ get_or (colour_table n step t c) j 0
      each zero j h l =
          let z : 0 * (size t * 4) + j ≡ j = omega arith in ap (λ (i : ℕ). get_or after i 0) z ∙ first j l
      each (suc c) j h l =
          sym (part_at (size t) (suc c) after j l)
          ∙ table_at (colour_part (size t) (suc c) after) c (λ v q. cells (suc c) (omega arith) h v q) j l

  -- back: the cells of a buffer that begins with them
  table-cell : (c v j : ℕ) → v < size t → j < 4
      → get_or (colour_table n step t (suc c)) (v * 4 + j) 0 ≡ get_or (colour_row n step t (suc c) v) j 0
  unfolding colour_table
  table-cell c v j h l = get_d_rows (size t) 4 (colour_row n step t (suc c)) (λ w q. refl) v j h l

  pub numbers-cells : (b : List ℕ) → take (n * (size t * 4)) b ≡ colour_numbers_of n step t → ColourCells n step t b
  unfolding colour_numbers_of
  numbers-cells b e zero p h v l = absurd (omega arith)
  numbers-cells b e (suc c) p h v l =
      let at : (j : ℕ) → j < 4
      → get_or (colour_part (size t) (suc c) b) (v * 4 + j) 0 ≡ get_or (colour_row n step t (suc c) v) j 0 =
      λ j i. part_at (size t) (suc c) b (v * 4 + j) (omega arith)
      ∙ cells-of-rows n (size t * 4) (colour_table n step t) (λ d q. length-table d) b e (suc c) (v * 4 + j) h
      (omega arith)
      ∙ table-cell c v j l i in
      let z : v * 4 ≡ v * 4 + 0 = omega arith in
      record {
        parents = ap (λ (i : ℕ). get_or (colour_part (size t) (suc c) b) i 0) z ∙ at 0 (omega arith);
        jumps = at 1 (omega arith);
        depths = at 2 (omega arith);
        lands = at 3 (omega arith);
      }

  -- ---- the bytes

  module _ (keeps : (v q : ℕ) → q < n → step v q < n) where
    wide : (v : ℕ) → v < size t → length (copy n step t v) ≡ n
    wide v h = (copy-colouring n step t keeps v).count

    pub length-copies : length (copies_of n step t) ≡ size t * n
    unfolding copies_of
    length-copies = length-rows (size t) n (copy n step t) wide

    pub copies-over : (before after : List ℕ) → length after ≡ length before → size t * n ≤ length before
        → ((v c : ℕ) → v < size t → c < n → get_or after (v * n + c) 0 ≡ get_or (copy n step t v) c 0)
        → ((j : ℕ) → size t * n ≤ j → get_or after j 0 ≡ get_or before j 0)
        → after ≡ copies_of n step t ++ drop (size t * n) before
    unfolding copies_of
    copies-over before after e room cells kept =
        rows-over (size t) n (copy n step t) wide before after e room cells kept

    pub copies-cells : (b : List ℕ) → take (size t * n) b ≡ copies_of n step t → (v c : ℕ) → v < size t → c < n
        → get_or b (v * n + c) 0 ≡ get_or (copy n step t v) c 0
    unfolding copies_of
    copies-cells b e = cells-of-rows (size t) n (copy n step t) wide b e
