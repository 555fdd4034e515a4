-- A plan changed by a list (document 02, S-12).
--
-- changed_plan p vs bs == the plan p with the labels as the list changes them: header and kinds as they are
use Rattle.std.specs.Prelude.{ℕ, List, ◌++◌, take}
use Rattle.trees.specs.Changes.{changed}
use Rattle.formats.specs.Plan.{labels_within, kinds_in}

unfoldable pub changed_plan : List ℕ → List ℕ → List ℕ → List ℕ
changed_plan p vs bs = take 12 p ++ (changed (labels_within p) vs bs ++ kinds_in p)
