-- One node's rows, colour after colour: the row of each colour is made of what was there before the first.
--     ColouredTo                     the rows of the colours below k, and nothing else is changed
--     coloured-start, coloured-turn  before the lowest colour, and after one more
--     args-same                      what the next colour's row needs
use Prim.Native.Nat.{ℕ, ◌+◌, ◌*◌, ◌≤◌, ◌<◌}
use mathlib.Core.Path.{◌≡◌, refl, sym, ap, ap₂, subst, ◌∙◌}
use mathlib.Core.Bool.{cond}
use mathlib.Core.List.{List}
use native.Mathlib.Omega.{arith}
use native.Mathlib.Decide.{ℕ_discrete}
use lib.Dec.{eqb}
use lib.ListN.{length, get_or, set}
use lib.Seq.{ext_get_or, get_or-set_same, get_or-set_other}
use Rattle.list_laws.proofs.RowLaws.{stride, cells-apart}
use Rattle.tables.specs.node_tables.Cells.{parent_cell}
use Rattle.colour_tables.specs.declared.forests.rows.Row.{Row}
use Rattle.colour_tables.specs.ColourCells.{colour_part}
use Rattle.colour_tables.specs.forests.Rows.{row, row_below, next_row, row_cells, put_row, put_colour, NextArgs}
use Rattle.colour_tables.proofs.LayoutLaws.{part_at}
use Rattle.colour_tables.proofs.forests.RowCells.{part_length, put-cell, put-apart, colour-none, colour-put}

pub record ColouredTo (landed : List ℕ) (n v k : ℕ) (before after : List ℕ) : Type 0 where
  pub cells : (c i : ℕ) → 0 < c → c < k → i < 4
      → get_or after (c * (n * 4) + (v * 4 + i)) 0 ≡ get_or (row_cells (next_row before n c v) (get_or landed c 0)) i 0
  pub kept : (j : ℕ) → ((c i : ℕ) → 0 < c → c < k → i < 4 → j ≡ c * (n * 4) + (v * 4 + i) → ⊥)
      → get_or after j 0 ≡ get_or before j 0

module _ (n v : ℕ) (h : v < n) where
  pub coloured-start : (landed b : List ℕ) → ColouredTo landed n v 0 b b
  coloured-start landed b = record { cells = λ c i p l. absurd (omega arith); kept = λ j f. refl }

  -- a cell of another colour's table
  other : (c d i j : ℕ) → (c ≡ d → ⊥) → j < n * 4 → i < 4 → c * (n * 4) + j ≡ d * (n * 4) + (v * 4 + i) → ⊥
  other c d i j ne l r z = cells-apart (n * 4) c d j (v * 4 + i) l (omega arith) ne z

  module _ (landed : List ℕ) (c : ℕ) (e b : List ℕ) (C : ColouredTo landed n v c e b) (same : length b ≡ length e) where
    module _ (A : NextArgs e n c v) where
      parent-same : parent_cell b v ≡ parent_cell e v
      parent-same = C.kept (v * 4) (λ d i p l r z. omega (arith, stride (n * 4) 0 d p))

      part_same : colour_part n c b ≡ colour_part n c e
      part_same =
          let x : length (colour_part n c b) ≡ n * 4 = part_length n c b (omega (arith, A.room)) in
          let y : length (colour_part n c e) ≡ n * 4 = part_length n c e A.room in
          ext_get_or 0 (colour_part n c b) (colour_part n c e) (x ∙ sym y)
          (λ j l. let k : j < n * 4 = omega arith in
          part_at n c b j k
          ∙ C.kept (c * (n * 4) + j) (λ d i p q r z. other c d i j (λ w. omega arith) k r z)
          ∙ sym (part_at n c e j k))

      next-same : next_row b n c v ≡ next_row e n c v
      unfolding next_row
      next-same =
          ap₂ (λ (x : List ℕ) (p : ℕ). cond (eqb (v + 1) n) (row v v 0) (row_below x c v p)) part_same parent-same

      pub args-same : NextArgs b n c v
      args-same = record {
        most = A.most;
        few = A.few;
        at = A.at;
        room = omega (arith, A.room);
        below = λ ne. rw (part_same, parent-same) (A.below ne);
      }

    pub coloured-turn : (l : ℕ) → c < length landed → (0 < c → NextArgs e n c v)
        → ColouredTo (set landed c l) n v (c + 1) e (put_colour b n c v l)
    coloured-turn l long A = elim (ℕ_discrete c 0) [
      | yes z ↦ rw (colour-none b n c v l (omega arith)) (record {
        cells = λ d i p q. absurd (omega arith);
        kept = λ j f. C.kept j (λ d i p q. absurd (omega arith));
      })
      | no z ↦ (let low : 0 < c = omega arith in
          let at : ℕ = c * (n * 4) + v * 4 in
          let r : Row = next_row e n c v in
          let space : at + 4 ≤ length b = omega (arith, (A low).room) in
          rw (colour-put b n c v l low, next-same (A low)) (record {
            cells = λ d i p q w. elim (ℕ_discrete d c) [
              | yes y ↦ (let x : c * (n * 4) + (v * 4 + i) ≡ at + i = omega arith in
                  subst (λ (u : ℕ). get_or (put_row b at r l) (u * (n * 4) + (v * 4 + i)) 0
                  ≡ get_or (row_cells (next_row e n u v) (get_or (set landed c l) u 0)) i 0) (sym y)
                  (ap (λ (u : ℕ). get_or (put_row b at r l) u 0) x ∙ put-cell b at r l space i w
                  ∙ ap (λ (u : ℕ). get_or (row_cells r u) i 0) (sym (get_or-set_same landed c l 0 long))))
              | no y ↦ put-apart b at r l (d * (n * 4) + (v * 4 + i))
                  (λ u g x. other d c u (v * 4 + i) y (omega arith) g (omega arith))
                  ∙ C.cells d i p (omega arith) w
                  ∙ ap (λ (u : ℕ). get_or (row_cells (next_row e n d v) u) i 0) (sym (get_or-set_other landed c d l 0 y))
            ];
            kept = λ j f. put-apart b at r l j (λ i g x. f c i low (omega arith) g (omega arith))
                ∙ C.kept j (λ d i p q g. f d i p (omega arith) g);
          }))
    ]
