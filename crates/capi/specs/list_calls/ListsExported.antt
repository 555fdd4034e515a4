-- What the exported function promises (document 02, S-4).
--
-- exported_checks .. nodes labels == the checks of laying over, then 11: whether the two buffers, of those lengths, are
--   long enough
-- LayExported .. == the promise of whatif_lay_over: its number, and nodes, labels and count afterwards
--
-- 11 is checked last, after 22, so it hides no number of laying over.
use Rattle.std.specs.Prelude.{ℕ, ◌≡◌, ◌&&◌, List, [], ◌∷◌, ◌++◌, leb, length, drop}
use Rattle.formats.specs.Checks.{Check, check, first_no}
use Rattle.changes.specs.Entries.{nodes_listed, labels_listed}
use Rattle.changes.specs.LayOver.{laid, lay_checks}

unfoldable pub exported_checks : List ℕ → List ℕ → List ℕ → List ℕ → ℕ → ℕ → List Check
exported_checks lvs lbs uvs ubs nodes labels =
    lay_checks lvs lbs uvs ubs
    ++ (check 11 (leb (length (laid lvs lbs uvs ubs)) nodes && leb (length (laid lvs lbs uvs ubs)) labels) ∷ [])

pub record LayExported (lvs lbs uvs ubs nodes labels : List ℕ) (count r : ℕ) (nodes' labels' : List ℕ) (count' : ℕ) : Type 0 where
  -- the first check that fails, or 0
  pub number : r ≡ first_no (exported_checks lvs lbs uvs ubs (length nodes) (length labels))
  -- accepted: the entries at the front, in rising node number, and their count; behind them what was there
  pub nodes_are : r ≡ 0
      → nodes' ≡ nodes_listed (laid lvs lbs uvs ubs) ++ drop (length (laid lvs lbs uvs ubs)) nodes
  pub labels_are : r ≡ 0
      → labels' ≡ labels_listed (laid lvs lbs uvs ubs) ++ drop (length (laid lvs lbs uvs ubs)) labels
  pub count_is : r ≡ 0 → count' ≡ length (laid lvs lbs uvs ubs)
  -- refused: all is as it was
  pub nodes_kept : (r ≡ 0 → ⊥) → nodes' ≡ nodes
  pub labels_kept : (r ≡ 0 → ⊥) → labels' ≡ labels
  pub count_kept : (r ≡ 0 → ⊥) → count' ≡ count
