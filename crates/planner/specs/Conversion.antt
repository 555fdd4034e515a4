-- Going out (from a planner's file to our plan) and going home (back), as definitions (document 02, S-2).
--
-- plan_of b == our plan of a planner's file; places_of b == the places of its nodes, in pre-order
-- file_of p == the planner's file of our plan
-- Acceptable f == f is a tree that a planner's file can hold and that goes out: one tree, counts that are bytes, labels
--   below 63, at most 32,767 nodes
-- GoesHome p == the bytes p are our plan of such a file's tree
--
-- "only plans that come from such a file may go home"
use Rattle.std.specs.Prelude.{ℕ, ◌≤◌, ◌≡◌, true, List}
use Rattle.list_laws.specs.Tests.{all_below}
use Rattle.formats.specs.Plan.{plan_tree, plan_bytes}
use Rattle.planner.specs.Siblings.{Siblings, count, width, pre_labels, pre_counts, image, unimage, places}
use Rattle.planner.specs.Siblings.{empty_label}
use Rattle.planner.specs.File.{file_tree, file_bytes}

abbrev pub plan_of : List ℕ → List ℕ
plan_of b = plan_bytes (image (file_tree b))

abbrev pub places_of : List ℕ → List ℕ
places_of b = places (file_tree b) 0

abbrev pub file_of : List ℕ → List ℕ
file_of p = file_bytes (unimage (plan_tree p))

pub record Acceptable (f : Siblings) : Type 0 where
  pub one_tree : width f ≡ 1
  pub counts : all_below 256 (pre_counts f) ≡ true
  pub labels : all_below empty_label (pre_labels f) ≡ true
  pub nodes : count f ≤ 32767

abbrev pub GoesHome : List ℕ → Type 0
GoesHome p = (f : Siblings) × Acceptable f × (plan_bytes (image f) ≡ p)
