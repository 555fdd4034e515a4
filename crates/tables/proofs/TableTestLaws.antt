-- The tests of a table of states and maps, for any states g and maps f.
--     states-same-yes, -no, -told   all state bytes are g's; maps-same-yes, -no, -told  all maps are f's
--     cells-table, table-states, table-maps   a buffer that begins with the table, by its cells
--     table-test                    it begins with the table exactly where both tests say so
use Prim.Native.Nat.{ℕ, ◌+◌, ◌*◌, ◌≤◌, ◌<◌}
use mathlib.Core.Path.{◌≡◌, refl, sym, ap, ◌∙◌}
use mathlib.Core.Bool.{Bool, true, false, ◌&&◌}
use mathlib.Core.List.{List, ◌∷◌}
use native.Mathlib.Numerals.{one-add}
use native.Mathlib.Omega.{arith}
use lib.Dec.{eqb}
use lib.ListN.{length, get_or, take}
use borrow.Author.Tests.{eq-eqb, ne_eqb, eqb-true}
use Rattle.list_laws.specs.Rows.{tabulate}
use Rattle.list_laws.proofs.RowLaws.{length-tabulate, get_d_tabulate, rows-of-cells, cells-of-rows}
use Rattle.trees.proofs.TableRows.{map_row-cells}
use Rattle.list_laws.specs.Tests.{same_list}
use Rattle.list_laws.proofs.BoolLaws.{true-false}
use Rattle.list_laws.proofs.TestLaws.{same_list-is, same_list-not}
use Rattle.tables.specs.StateCells.{state_cell, map_cell}
use Rattle.tables.specs.inner.Compare.{row_equals}
use Rattle.tables.specs.inner.TableTests.{table_of, states_same, maps_same}
use Rattle.tables.proofs.CompareLaws.{every-all, every-at, every-not, row_equals-map, map-row_equals}

-- ---- state bytes

module _ (s n : ℕ) (g : ℕ → ℕ) (b : List ℕ) where
  pub states-same-yes : ((v : ℕ) → v < n → state_cell s b v ≡ g v) → states_same s n g b ≡ true
  states-same-yes to = every-all n (λ v. eqb (state_cell s b v) (g v)) (λ v h. eq-eqb (state_cell s b v) (g v) (to v h))

  pub states-same-no : (v : ℕ) → v < n → (state_cell s b v ≡ g v → ⊥) → states_same s n g b ≡ false
  states-same-no v h ne = every-not n (λ u. eqb (state_cell s b u) (g u)) v h (ne_eqb (state_cell s b v) (g v) ne)

  pub states-same-answer : states_same s n g b ≡ true → (v : ℕ) → v < n → state_cell s b v ≡ g v
  states-same-answer e v h = eqb-true (state_cell s b v) (g v) (every-at n (λ u. eqb (state_cell s b u) (g u)) e v h)

-- ---- maps

module _ (s n : ℕ) (f : ℕ → ℕ → ℕ) (b : List ℕ) where
  pub maps-same-yes : ((v : ℕ) → v < n → (q : ℕ) → q < s → map_cell s b v q ≡ f v q) → maps_same s n f b ≡ true
  maps-same-yes from = every-all n (λ v. row_equals s b v (f v)) (λ v h. map-row_equals s b v (f v) (from v h))

  pub maps-same-no : (v : ℕ) → v < n → row_equals s b v (f v) ≡ false → maps_same s n f b ≡ false
  maps-same-no v h ne = every-not n (λ u. row_equals s b u (f u)) v h ne

  pub maps-same-answer : maps_same s n f b ≡ true → (v : ℕ) → v < n → (q : ℕ) → q < s → map_cell s b v q ≡ f v q
  maps-same-answer e v h = row_equals-map s b v (f v) (every-at n (λ u. row_equals s b u (f u)) e v h)

-- ---- the table

module _ (s n : ℕ) (g : ℕ → ℕ) (f : ℕ → ℕ → ℕ) (b : List ℕ) where
  wide : (v : ℕ) → v < n → length (g v ∷ tabulate s (f v)) ≡ s + 1
  wide v h = omega (arith, length-tabulate s (f v))

  -- the index of a map's entry as the rows' laws have it
  place_is : (v q : ℕ) → get_or b (v * (s + 1) + 1 + q) 0 ≡ map_cell s b v q
  place_is v q = let e : v * (s + 1) + 1 + q ≡ v * (s + 1) + (1 + q) = omega arith in ap (λ (i : ℕ). get_or b i 0) e

  pub cells-table : n * (s + 1) ≤ length b → ((v : ℕ) → v < n → state_cell s b v ≡ g v)
      → ((v : ℕ) → v < n → (q : ℕ) → q < s → map_cell s b v q ≡ f v q) → take (n * (s + 1)) b ≡ table_of s n g f
  cells-table room to from =
      rows-of-cells n (s + 1) (λ v. g v ∷ tabulate s (f v)) wide b room
      (λ v k h l. map_row-cells s (g v) (f v) v b (to v h) (λ q z. place_is v q ∙ from v h q z) k l)

  module _ (e : take (n * (s + 1)) b ≡ table_of s n g f) where
    cell : (v k : ℕ) → v < n → k < s + 1 → get_or b (v * (s + 1) + k) 0 ≡ get_or (g v ∷ tabulate s (f v)) k 0
    cell v k h l = cells-of-rows n (s + 1) (λ u. g u ∷ tabulate s (f u)) wide b e v k h l

    pub table-states : (v : ℕ) → v < n → state_cell s b v ≡ g v
    table-states v h =
        let z : v * (s + 1) ≡ v * (s + 1) + 0 = omega arith in ap (λ (i : ℕ). get_or b i 0) z ∙ cell v 0 h (omega arith)

    pub table-maps : (v : ℕ) → v < n → (q : ℕ) → q < s → map_cell s b v q ≡ f v q
    table-maps v h q l =
        cell v (1 + q) h (omega arith) ∙ ap (λ (k : ℕ). get_or (g v ∷ tabulate s (f v)) k 0) (one-add q)
        ∙ get_d_tabulate s (f v) q l

  pub table-test : n * (s + 1) ≤ length b
      → same_list (take (n * (s + 1)) b) (table_of s n g f) ≡ (states_same s n g b && maps_same s n f b)
  table-test room = go (states_same s n g b) (maps_same s n f b) refl refl
    where
      lent : List ℕ
      lent = take (n * (s + 1)) b

      go : (x y : Bool) → states_same s n g b ≡ x → maps_same s n f b ≡ y → same_list lent (table_of s n g f) ≡ (x && y)
      go true true d e =
          same_list-is lent (table_of s n g f) (cells-table room (states-same-answer s n g b d) (maps-same-answer s n f b e))
      go true false d e =
          same_list-not lent (table_of s n g f) (λ z. true-false (sym (maps-same-yes s n f b (table-maps z)) ∙ e))
      go false y d e =
          same_list-not lent (table_of s n g f) (λ z. true-false (sym (states-same-yes s n g b (table-states z)) ∙ d))
