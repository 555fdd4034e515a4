-- The loop over the nodes, from the root down: each node's copy from the one above it.
--     first-elsewhere, past-elsewhere   where there is no colour's row
--     above-is                   the row above a node is the copy above it
--     successors-is                     the states led to, as a list
--     copies-start, copies-next  before the root, and one node more
--     above_in, place_in         what the functions of one node need
--     copies-colours             after the last node the numbers have the colours' tables
-- Any count of states and any steps.
use Prim.Native.Nat.{ℕ, ◌+◌, ◌*◌, ◌≤◌, ◌<◌}
use mathlib.Core.Path.{◌≡◌, refl, sym, ap, ◌∙◌}
use mathlib.Core.List.{List, map}
use native.Mathlib.Omega.{arith}
use native.Mathlib.Decide.{ℕ_discrete}
use lib.Dec.{ltb}
use lib.ListN.{length, get_or, take, length-map}
use lib.Seq.{ext_get_or, length-take-le, get_or-take}
use borrow.Author.Tests.{eq-eqb, ne_eqb}
use Rattle.list_laws.proofs.RowLaws.{stride, cells-apart, cell_in}
use Rattle.trees.specs.Tree.{Tree, size}
use Rattle.trees.specs.Numbering.{parent}
use Rattle.trees.proofs.NodeLaws.{Up, up}
use Rattle.tables.specs.node_tables.Cells.{parent_cell}
use Rattle.colours.specs.Colouring.{recolour, lands}
use Rattle.colours.specs.Copies.{copy, copy_above, lands_at, falls_at}
use Rattle.colours.proofs.CopyLaws.{top-at, copy-recolour, copy_above-root, copy_above-down, copy_above-colouring}
use Rattle.colours.proofs.TurnLaws.{map_at, recolour-map, lands-map}
use Rattle.colours.proofs.marks.RowLaws.{Row as MarkedRow}
use Rattle.colour_tables.specs.AsBuilt.{ColourCells}
use Rattle.colour_tables.specs.ColourCells.{colour_part}
use Rattle.colour_tables.specs.forests.Rows.{next_row, row_cells, Given, RowIs}
use Rattle.colour_tables.proofs.LayoutLaws.{part_at}
use Rattle.colour_tables.proofs.forests.RowLoop.{next-is, rows-args}
use Rattle.colour_tables.specs.states.Written.{Elsewhere, CopiesFrom}
use Rattle.colour_tables.specs.states.inner.Rows.{RowOf, above_cell, AboveArgs, TurnArgs, Recoloured}

-- no number of the first table is of a colour's row, nor is any past the tables
pub first-elsewhere : (n k j : ℕ) → j < n * 4 → Elsewhere n k j
first-elsewhere n k j h c v i p l q r e = omega (arith, stride (n * 4) 0 c p)

pub past-elsewhere : (n k j : ℕ) → k * (n * 4) ≤ j → Elsewhere n k j
past-elsewhere n k j h c v i p l q r e = omega (arith, stride (n * 4) c k l)

module _ (k : ℕ) (step : ℕ → ℕ → ℕ) (t : Tree) (base : ℕ) (keeps : (v q : ℕ) → q < k → step v q < k) where
  pub copies-start : (b m : List ℕ) → CopiesFrom k step t base (size t) b m b m
  copies-start b m = record {
    rows = λ v a h. absurd (omega arith);
    lands = λ v a h. absurd (omega arith);
    forests = λ v a h. absurd (omega arith);
    front = λ j h. refl;
    rest = λ j h. refl;
    kept = λ j h. refl;
  }

  pub successors-is : (v : ℕ) (successors : List ℕ) → length successors ≡ 16 → k ≤ 16
      → ((c : ℕ) → c < k → get_or successors c 0 ≡ step v (get_or (copy_above k step t v) c 0))
      → take k successors ≡ map (step v) (copy_above k step t v)
  successors-is v successors l few e =
      let n : length (copy_above k step t v) ≡ k = (copy_above-colouring k step t keeps v).count in
      let a : length (take k successors) ≡ k = length-take-le k successors (omega arith) in
      ext_get_or 0 (take k successors) (map (step v) (copy_above k step t v))
      (a ∙ sym (length-map (copy_above k step t v) (step v) ∙ n))
      (λ c h.
      let i : c < k = omega arith in
      get_or-take k successors c 0 i ∙ e c i ∙ sym (map_at (step v) (copy_above k step t v) c (omega arith)))

  module _ (e₀ m₀ : List ℕ) (parents : (v : ℕ) → v + 1 < size t → parent_cell m₀ v ≡ parent t v)
      (v : ℕ) (b m : List ℕ) (F : CopiesFrom k step t base (v + 1) e₀ m₀ b m) (h : v < size t) where
    parent_is : v + 1 < size t → parent_cell m v ≡ parent t v
    parent_is l = F.kept (v * 4) (first-elsewhere (size t) k (v * 4) (omega arith)) ∙ parents v l

    pub above-is : (row : List ℕ) → RowOf k (above_cell b m (size t) base k v) row → (c : ℕ) → c < k
        → get_or row c 0 ≡ get_or (copy_above k step t v) c 0
    unfolding above_cell
    above-is row R c l = R.cells c l ∙ elim (ℕ_discrete (v + 1) (size t)) [
      | yes e ↦ rw (eq-eqb (v + 1) (size t) e)
          (sym (ap (λ (x : List ℕ). get_or x c 0) (copy_above-root k step t v e) ∙ top-at k c l))
      | no e ↦ (let i : v + 1 < size t = omega arith in
          let u : Up t v (parent t v) = up t v i in
          rw (ne_eqb (v + 1) (size t) e, parent_is i)
          (F.rows (parent t v) (omega (arith, u.above)) u.below c l
          ∙ sym (ap (λ (x : List ℕ). get_or x c 0) (copy_above-down k step t v i))))
    ]

    pub above-below : (row : List ℕ) → RowOf k (above_cell b m (size t) base k v) row → (c : ℕ) → c < k
        → get_or row c 0 < k
    above-below row R c l = rw (above-is row R c l) ((copy_above-colouring k step t keeps v).below c l)

    -- what node v's row in colour c's table is made of
    row-given : (c : ℕ) → 0 < c → c < k → Given t (falls_at k step t c) (size t) c v m
    row-given c p l = record {
      count = refl;
      parents = parent_is;
      marks = λ w a i. ap (λ (x : ℕ). ltb x c)
          (part_at (size t) c m (w * 4 + 3) (omega arith) ∙ F.lands w (omega arith) i c p l);
      rows = λ w a i. F.forests w (omega arith) i c p l;
    }

    -- ---- what the functions of one node need

    pub above_in : 0 < k → k ≤ 16 → size t ≤ 65535 → base + size t * k ≤ length b → k * (size t * 4) ≤ length m
        → AboveArgs b m (size t) base k v
    above_in p few most room space = record {
      few = few;
      small = omega arith;
      place = omega (arith, stride (size t * 4) 0 k p);
      room = λ e. (let i : v + 1 < size t = omega arith in
          rw (parent_is i) (omega (arith, stride k (parent t v) (size t) (up t v i).below)));
    }

    pub place_in : (successors : List ℕ) → length successors ≡ 16 → ((c : ℕ) → c < k → get_or successors c 0 < k) → k ≤ 16 → size t ≤ 65535
        → base + size t * k ≤ length b → k * (size t * 4) ≤ length m → TurnArgs successors b m (size t) base k v
    place_in successors l under few most room space = record {
      long = l;
      small = λ c i. omega (arith, under c i);
      few = few;
      at = h;
      row_room = omega (arith, stride k v (size t) h);
      next = λ c p i. rows-args t (falls_at k step t c) (size t) c m v (row-given c p i)
          (omega (arith, stride (size t * 4) c k i)) h most (omega arith);
    }

    -- ---- one node more

    module _ (space : k * (size t * 4) ≤ length m) (successors b' m' : List ℕ)
        (T : Recoloured successors (size t) base k v b m b' m')
        (is : take k successors ≡ map (step v) (copy_above k step t v)) where
      row_here : (c : ℕ) → c < k → get_or b' (base + v * k + c) 0 ≡ get_or (copy k step t v) c 0
      row_here c l =
          T.row c l
          ∙ ap (λ (x : List ℕ). get_or x c 0) (ap (recolour (λ q. q)) is
          ∙ sym (recolour-map (step v) (copy_above k step t v))
          ∙ sym (copy-recolour k step t v))

      landed-here : (c : ℕ) → 0 < c → c < k
          → get_or m' (c * (size t * 4) + (v * 4 + 3)) 0 ≡ lands_at k step t c v
      unfolding lands_at
      landed-here c p l =
          T.cells c 3 p l (omega arith) ∙ ap (λ (x : List ℕ). lands (λ q. q) x c) is
          ∙ sym (lands-map (step v) (copy_above k step t v) c
          (omega (arith, (copy_above-colouring k step t keeps v).count)))

      -- another node's
      row_other : (w c d : ℕ) → c < k → d < k → (w ≡ v → ⊥) → base + w * k + c ≡ base + v * k + d → ⊥
      row_other w c d i j n e = cells-apart k w v c d i j n (omega arith)

      cell_other : (w c d i j : ℕ) → w < size t → (w ≡ v → ⊥) → i < 4 → j < 4
          → c * (size t * 4) + (w * 4 + i) ≡ d * (size t * 4) + (v * 4 + j) → ⊥
      cell_other w c d i j l n a b e = elim (ℕ_discrete c d) [
        | yes q ↦ (let z : c * (size t * 4) ≡ d * (size t * 4) = ap (λ (x : ℕ). x * (size t * 4)) q in n (omega arith))
        | no q ↦ cells-apart (size t * 4) c d (w * 4 + i) (v * 4 + j) (omega arith) (omega arith) q e
      ]

      cell-kept : (w c i : ℕ) → w < size t → (w ≡ v → ⊥) → i < 4
          → get_or (colour_part (size t) c m') (w * 4 + i) 0 ≡ get_or (colour_part (size t) c m) (w * 4 + i) 0
      cell-kept w c i l n a =
          part_at (size t) c m' (w * 4 + i) (omega arith)
          ∙ T.numbers_kept (c * (size t * 4) + (w * 4 + i)) (λ d j p q b. cell_other w c d i j l n a b)
          ∙ sym (part_at (size t) c m (w * 4 + i) (omega arith))

      first_cell : (c w : ℕ) (x : List ℕ) → get_or (colour_part (size t) c x) (w * 4) 0 ≡ get_or (colour_part (size t) c x) (w * 4 + 0) 0
      first_cell c w x = let z : w * 4 ≡ w * 4 + 0 = omega arith in ap (λ (i : ℕ). get_or (colour_part (size t) c x) i 0) z

      forest-other : (w c : ℕ) → w < size t → (w ≡ v → ⊥) → RowIs t (falls_at k step t c) (colour_part (size t) c m) w
          → RowIs t (falls_at k step t c) (colour_part (size t) c m') w
      forest-other w c l n r = record {
        parents = first_cell c w m' ∙ cell-kept w c 0 l n (omega arith) ∙ sym (first_cell c w m) ∙ r.parents;
        jumps = cell-kept w c 1 l n (omega arith) ∙ r.jumps;
        depths = cell-kept w c 2 l n (omega arith) ∙ r.depths;
      }

      -- its own
      forest-here : (c : ℕ) → 0 < c → c < k → RowIs t (falls_at k step t c) (colour_part (size t) c m') v
      forest-here c p l =
          let R : MarkedRow t (falls_at k step t c) v (next_row m (size t) c v).up (next_row m (size t) c v).jump
          (next_row m (size t) c v).depth = next-is t (falls_at k step t c) (size t) c m v (row-given c p l)
          (omega (arith, stride (size t * 4) c k l)) h in
          let cell : (i : ℕ) → i < 4 → get_or (colour_part (size t) c m') (v * 4 + i) 0
          ≡ get_or (row_cells (next_row m (size t) c v) (lands (λ q. q) (take k successors) c)) i 0 =
          λ i a. part_at (size t) c m' (v * 4 + i) (omega arith) ∙ T.cells c i p l a in
          record {
            parents = first_cell c v m' ∙ cell 0 (omega arith) ∙ sym R.parents;
            jumps = cell 1 (omega arith) ∙ sym R.jumps;
            depths = cell 2 (omega arith) ∙ sym R.depths;
          }

      pub copies-next : CopiesFrom k step t base v e₀ m₀ b' m'
      copies-next = record {
        rows = λ w a i c l. elim (ℕ_discrete w v) [
          | yes q ↦ rw q (row_here c l)
          | no q ↦ T.bytes_kept (base + w * k + c) (λ d j. row_other w c d l j q) ∙ F.rows w (omega arith) i c l
        ];
        lands = λ w a i c p l. elim (ℕ_discrete w v) [
          | yes q ↦ rw q (landed-here c p l)
          | no q ↦ T.numbers_kept (c * (size t * 4) + (w * 4 + 3))
              (λ d j s z r. cell_other w c d 3 j i q (omega arith) r)
              ∙ F.lands w (omega arith) i c p l
        ];
        forests = λ w a i c p l. elim (ℕ_discrete w v) [
          | yes q ↦ rw q (forest-here c p l)
          | no q ↦ forest-other w c i q (F.forests w (omega arith) i c p l)
        ];
        front = λ j l. T.bytes_kept j (λ c i z. omega arith) ∙ F.front j l;
        rest = λ j l. T.bytes_kept j (λ c i z. omega (arith, cell_in k (size t) v c (size t * k) h i (omega arith)))
            ∙ F.rest j l;
        kept = λ j l. T.numbers_kept j (λ c i p q r. l c v i p q h r) ∙ F.kept j l;
      }

pub copies-colours : (k : ℕ) (step : ℕ → ℕ → ℕ) (t : Tree) (base : ℕ) (e₀ m₀ b m : List ℕ)
    → CopiesFrom k step t base 0 e₀ m₀ b m → ColourCells k step t m
copies-colours k step t base e₀ m₀ b m F c p l v h =
    let r : RowIs t (falls_at k step t c) (colour_part (size t) c m) v = F.forests v (omega arith) h c p l in
    record {
      parents = r.parents;
      jumps = r.jumps;
      depths = r.depths;
      lands = part_at (size t) c m (v * 4 + 3) (omega arith) ∙ F.lands v (omega arith) h c p l;
    }
