-- Maps of a whole table, for any maps f: the iterations of a loop that writes them node by node, and the table that
-- is written.
--     written_start, written-iteration  no map written, and one more
--     row-ext                  a written map, by equal entries; kept_row: one that was there already
--     state-no-map             a state byte is in no map; excess-no-map: nor is the excess
--     table-written            a buffer with every state byte and every map is the table, and the excess
--     passes-written           the same, where one pass writes the state bytes and the next the maps
use Prim.Native.Nat.{ℕ, ◌+◌, ◌*◌, ◌≤◌, ◌<◌}
use mathlib.Core.Path.{◌≡◌, refl, ap, ◌∙◌}
use mathlib.Core.Bool.{true}
use mathlib.Core.List.{List, ◌∷◌, ◌++◌}
use native.Mathlib.Decide.{ℕ_discrete}
use native.Mathlib.Omega.{arith}
use lib.ListN.{length, get_or, drop}
use Rattle.list_laws.specs.Rows.{tabulate, rows}
use Rattle.list_laws.proofs.RowLaws.{stride, cells-apart, length-tabulate, rows-over}
use Rattle.trees.proofs.TableRows.{map_row-cells}
use Rattle.tables.specs.StateCells.{state_cell, map_cell}
use Rattle.tables.specs.inner.Rows.{RowTo, Rowed}
use Rattle.tables.specs.inner.Compare.{row_equals}
use Rattle.tables.specs.inner.MapTable.{NoMap, MapsWritten}
use Rattle.tables.proofs.CompareLaws.{row_equals-map}
use Rattle.tables.proofs.MapRowLaws.{row_other}

pub row-ext : (s : ℕ) (f g : ℕ → ℕ) (v i : ℕ) (b₀ b : List ℕ) → RowTo s f v i b₀ b → ((q : ℕ) → q < i → f q ≡ g q)
    → RowTo s g v i b₀ b
row-ext s f g v i b₀ b r e = record { cells = λ q l. r.cells q l ∙ e q l; kept = r.kept }

pub kept_row : (s : ℕ) (b : List ℕ) (v : ℕ) (f : ℕ → ℕ) → row_equals s b v f ≡ true → Rowed s f v b b
kept_row s b v f e = record { cells = row_equals-map s b v f e; kept = λ j a. refl }

pub state-no-map : (s n u : ℕ) → NoMap s n (u * (s + 1))
state-no-map s n u v q h l e = elim (ℕ_discrete u v) [
  | yes p ↦ (let z : u * (s + 1) ≡ v * (s + 1) = rw p in omega arith)
  | no p ↦ cells-apart (s + 1) u v 0 (1 + q) (omega arith) (omega arith) p (omega arith)
]

pub excess-no-map : (s n j : ℕ) → n * (s + 1) ≤ j → NoMap s n j
excess-no-map s n j g v q h l e = omega (arith, stride (s + 1) v n h)

module _ (s n : ℕ) (f : ℕ → ℕ → ℕ) where
  pub written_start : (b : List ℕ) → MapsWritten s n f n b b
  written_start b = record { maps = λ v q l h m. absurd (omega arith); kept = λ j a. refl }

  pub written-iteration : (v : ℕ) (b₀ b b₁ : List ℕ) → v < n → MapsWritten s n f (v + 1) b₀ b → Rowed s (f v) v b b₁
      → MapsWritten s n f v b₀ b₁
  written-iteration v b₀ b b₁ h M r = record {
    maps = λ u q l g m. elim (ℕ_discrete u v) [
      | yes e ↦ rw e (r.cells q m)
      | no e ↦ row_other s (f v) v s b b₁ r u q e (omega arith) m ∙ M.maps u q (omega arith) g m
    ];
    kept = λ j a. r.kept j (λ q m. a v q h m) ∙ M.kept j a;
  }

  pub table-written : (g : ℕ → ℕ) (before after : List ℕ) → length after ≡ length before → n * (s + 1) ≤ length before
      → ((v : ℕ) → v < n → state_cell s after v ≡ g v)
      → ((v q : ℕ) → v < n → q < s → map_cell s after v q ≡ f v q)
      → ((j : ℕ) → n * (s + 1) ≤ j → get_or after j 0 ≡ get_or before j 0)
      → after ≡ rows n (λ v. g v ∷ tabulate s (f v)) ++ drop (n * (s + 1)) before
  table-written g before after e room states maps kept =
      rows-over n (s + 1) (λ v. g v ∷ tabulate s (f v))
      (λ v h. omega (arith, length-tabulate s (f v))) before after e room
      (λ v k h l. map_row-cells s (g v) (f v) v after (states v h) (λ q m. place v q ∙ maps v q h m) k l) kept
    where
      place : (v q : ℕ) → get_or after (v * (s + 1) + 1 + q) 0 ≡ map_cell s after v q
      place v q = let z : v * (s + 1) + 1 + q ≡ v * (s + 1) + (1 + q) = omega arith in ap (λ (i : ℕ). get_or after i 0) z

  pub passes-written : (g : ℕ → ℕ) (b₀ b₁ b₂ : List ℕ) → length b₂ ≡ length b₀ → n * (s + 1) ≤ length b₀
      → ((v : ℕ) → v < n → state_cell s b₁ v ≡ g v)
      → ((j : ℕ) → ((v : ℕ) → v < n → j ≡ v * (s + 1) → ⊥) → get_or b₁ j 0 ≡ get_or b₀ j 0)
      → MapsWritten s n f 0 b₁ b₂ → b₂ ≡ rows n (λ v. g v ∷ tabulate s (f v)) ++ drop (n * (s + 1)) b₀
  passes-written g b₀ b₁ b₂ e room states kept M =
      table-written g b₀ b₂ e room (λ v h. M.kept (v * (s + 1)) (state-no-map s n v) ∙ states v h)
      (λ v q h l. M.maps v q (omega arith) h l)
      (λ j h. M.kept j (excess-no-map s n j h) ∙ kept j (λ v l z. omega (arith, stride (s + 1) v n l)))
