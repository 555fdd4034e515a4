-- A table of states and maps, for any states g and maps f, and the tests whether a buffer has it.
--
-- table_of s n g f == the table: for each of n nodes v the state g v, then the s entries of the map f v
-- states_same s n g b == whether the state bytes of b are g's
-- maps_same s n f b == whether the maps of b are f's
use Rattle.std.specs.Prelude.{ℕ, Bool, List, ◌∷◌, eqb}
use Rattle.list_laws.specs.Rows.{tabulate, rows}
use Rattle.tables.specs.StateCells.{state_cell}
use Rattle.tables.specs.inner.Compare.{every, row_equals}

abbrev pub table_of : ℕ → ℕ → (ℕ → ℕ) → (ℕ → ℕ → ℕ) → List ℕ
table_of s n g f = rows n (λ v. g v ∷ tabulate s (f v))

abbrev pub states_same : ℕ → ℕ → (ℕ → ℕ) → List ℕ → Bool
states_same s n g b = every n (λ v. eqb (state_cell s b v) (g v))

abbrev pub maps_same : ℕ → ℕ → (ℕ → ℕ → ℕ) → List ℕ → Bool
maps_same s n f b = every n (λ v. row_equals s b v (f v))
