-- What the two passes of the full check say together.
--     answer-no      a pass that says no: the buffer does not begin with the table
--     answer-both    the pass up says yes: the pass down's answer is the check's
use Prim.Native.Nat.{ℕ, ◌≤◌}
use mathlib.Core.Path.{◌≡◌, refl, sym}
use mathlib.Core.Bool.{Bool, true, false}
use mathlib.Core.List.{List}
use lib.ListN.{length, take}
use Rattle.trees.specs.Tree.{Tree, kinds_of}
use Rattle.trees.specs.Tables.{node_table_of}
use Rattle.trees.proofs.PostorderLaws.{size_of}
use Rattle.list_laws.specs.Tests.{same_list}
use Rattle.formats.specs.Checks.{node_table_length}
use Rattle.list_laws.proofs.TestLaws.{same_list-is, same_list-not}
use Rattle.tables.specs.node_tables.Cells.{NodeTableArgs}
use Rattle.tables.specs.node_tables.NodeCells.{NodeCells, UpCells}
use Rattle.tables.specs.node_tables.inner.DownPass.{DownArgs}
use Rattle.tables.proofs.node_tables.CellLaws.{link-cells, cells-link, both-passes, up-parents, down-args}
use Rattle.tables.proofs.node_tables.CheckLoop.{UpTells, DownTells}

module _ (ks b : List ℕ) where
  denied : (t : Tree) → kinds_of t ≡ ks → (NodeCells t b → ⊥)
      → false ≡ same_list (take (node_table_length (length ks)) b) (node_table_of t)
  denied t e n = sym (same_list-not _ _ (λ q. n (link-cells t (length ks) b (size_of t ks e) q)))

  pub answer-no : UpTells false ks b → (t : Tree) → kinds_of t ≡ ks
      → false ≡ same_list (take (node_table_length (length ks)) b) (node_table_of t)
  answer-no up t e = denied t e ((up t e).no refl)

  -- the pass down may be made
  pub down-room : NodeTableArgs ks (length b) → UpTells true ks b → DownArgs (length ks) b
  down-room args up = down-args ks b args (λ t e. (up t e).yes refl)

  pub answer-both : node_table_length (length ks) ≤ length b → UpTells true ks b → (r : Bool) → DownTells r (length ks) b
      → (t : Tree) → kinds_of t ≡ ks → r ≡ same_list (take (node_table_length (length ks)) b) (node_table_of t)
  answer-both room up true down t e =
      let u : UpCells t b = (up t e).yes refl in
      sym (same_list-is _ _
      (cells-link t (length ks) b (size_of t ks e) room (both-passes t b u ((down t (up-parents t ks b e u)).yes refl))))
  answer-both room up false down t e = denied t e ((down t (up-parents t ks b e ((up t e).yes refl))).no refl)
