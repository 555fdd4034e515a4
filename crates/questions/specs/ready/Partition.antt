-- The partition that a ready set makes of a plan's nodes (source document 002, 4.1.1: "LCA partition").
--
-- InPart w t v x == node x is in the part that member v roots: v is the lowest member at or above x
--
-- Document 01 handles parts by their roots alone; that the parts are a partition, and what each looks like, is proved of this definition
-- (PartitionLaws).
use Rattle.std.specs.Prelude.{ℕ, Bool}
use Rattle.trees.specs.Tree.{Tree}
use Rattle.trees.specs.Numbering.{InSubtree}
use Rattle.questions.specs.ready.Ready.{Ready}

-- "The partition will assign each vertex of T to a unique part, and each part will be rooted in an element of W": the nodes under a member
-- and under no lower one
pub record InPart (w : ℕ → Bool) (t : Tree) (v x : ℕ) : Type 0 where
  pub member : Ready w t v
  pub under : InSubtree t v x
  pub lowest : (u : ℕ) → Ready w t u → InSubtree t u x → InSubtree t u v
