-- Lists by their entries, and tables by their rows.
--
-- tabulate n f == f 0, f 1, .. f (n - 1)
-- rows n f == the lists f 0, f 1, .. f (n - 1), one after the other
use Rattle.std.specs.Prelude.{ℕ, zero, suc, List, [], ◌∷◌, ◌++◌}

unfoldable pub tabulate : ℕ → (ℕ → ℕ) → List ℕ
tabulate zero f = []
tabulate (suc n) f = tabulate n f ++ (f n ∷ [])

unfoldable pub rows : ℕ → (ℕ → List ℕ) → List ℕ
rows zero f = []
rows (suc n) f = rows n f ++ f n
