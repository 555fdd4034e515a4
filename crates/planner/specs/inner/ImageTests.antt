-- Whether a plan goes home, from its labels and kinds only: three tests, one pass each (document 02, S-2).
--
-- labels_fit ls ks == label 63 at every leaf, a label below 63 at every inner node
-- all_runs_fit m ks w == no m inner nodes in a row, where w are in a row before
-- passes_tests ls ks == the three tests
-- one_top ks == the last node is inner and the one before it is a leaf: one tree at the top
--
-- In the post-order of an image a run of inner nodes is a list of siblings, from the last to the first: a leaf comes
-- before the next.
use Rattle.std.specs.Prelude.{ℕ, zero, suc, ◌-◌, Bool, true, false, ◌&&◌, List, [], ◌∷◌, eqb, leb, ltb, length, get_or}
use Rattle.planner.specs.Siblings.{empty_label}

abbrev pub label_fits : ℕ → ℕ → Bool
label_fits a zero = eqb a empty_label
label_fits a (suc k) = ltb a empty_label

abbrev pub labels_fit : List ℕ → List ℕ → Bool
labels_fit [] ks = true
labels_fit (a ∷ ls) [] = true
labels_fit (a ∷ ls) (k ∷ ks) = label_fits a k && labels_fit ls ks

abbrev pub all_runs_fit : ℕ → List ℕ → ℕ → Bool
all_runs_fit m [] w = true
all_runs_fit m (zero ∷ ks) w = all_runs_fit m ks 0
all_runs_fit m (suc k ∷ ks) w = ltb (suc w) m && all_runs_fit m ks (suc w)

unfoldable pub one_top : List ℕ → Bool
one_top ks = leb 2 (length ks) && eqb (get_or ks (length ks - 2) 0) 0

-- the three tests in a row
unfoldable pub passes_tests : List ℕ → List ℕ → Bool
passes_tests ls ks = labels_fit ls ks && (one_top ks && all_runs_fit 256 ks 0)
