-- On a node table as built every advance passes over few nodes: a plan has at most 65,535, and no node is that deep.
--     built-narrow    so what an advance finds on such a table is narrow, and the record after it a session's
use Prim.Native.Nat.{ℕ, ◌+◌, ◌*◌, ◌≤◌, ◌<◌}
use mathlib.Core.Path.{◌≡◌, refl, sym, ap, ◌∙◌, subst}
use mathlib.Core.Bool.{Bool, true, false}
use native.Mathlib.Omega.{arith}
use lib.Dec.{ltb}
use lib.ListN.{length, get_or-eq_default}
use borrow.Author.Tests.{ltb-true, ltb-false}
use Rattle.trees.specs.Tree.{size}
use Rattle.trees.proofs.HeightLaws.{depth-limit}
use Rattle.formats.specs.Plan.{plan_tree}
use Rattle.formats.specs.Inputs.{Inputs, Sizes, used_node_table, node_table_built}
use Rattle.formats.proofs.InputsLaws.{node-table-built, plan-of}
use Rattle.formats.specs.Passing.{Built}
use Rattle.tables.specs.node_tables.Cells.{depth_cell}
use Rattle.tables.proofs.node_tables.CellLaws.{length-node_table_of}
use Rattle.questions.proofs.PartBounds.{part-bounded}
use Rattle.model.specs.Calls.{advance}
use Rattle.model.specs.Model.{Record}
use Rattle.questions.specs.PartInputs.{view_by}
use Rattle.questions.proofs.PartInputsLaws.{tree-size, cells}
use Rattle.session.proofs.ActLaws.{Narrow}

module _ (z : Sizes) (x : Inputs) (b : node_table_built z x ≡ true) where
  built : Built z x
  built = node-table-built z x b

  few-nodes : size (plan_tree x.plan) ≤ 65535
  few-nodes = omega (arith, tree-size z x built, built.n_is, (plan-of z x built).most)

  table-length : length (used_node_table z x) ≡ size (plan_tree x.plan) * 4
  table-length = ap length built.node_table ∙ length-node_table_of (plan_tree x.plan)

  -- the depth of a node of the plan; 0 where there is none
  depth_small : (v : ℕ) → depth_cell (used_node_table z x) v ≤ 65535
  depth_small v = go (ltb v (size (plan_tree x.plan))) refl
    where
      go : (c : Bool) → ltb v (size (plan_tree x.plan)) ≡ c → depth_cell (used_node_table z x) v ≤ 65535
      go true e =
          let h : v < size (plan_tree x.plan) = ltb-true v (size (plan_tree x.plan)) e in
          omega (arith, (cells z x built).depths v h, depth-limit (plan_tree x.plan) v few-nodes h)
      go false e =
          let h : size (plan_tree x.plan) ≤ v = ltb-false v (size (plan_tree x.plan)) e in
          omega (arith, get_or-eq_default (used_node_table z x) 0 {n = v * 4 + 2} (omega (arith, table-length)))

  pub built-narrow : (r : Record) → r.sizes ≡ z → Narrow r (advance x)
  built-narrow r e y q =
      (part-bounded (view_by r.sizes x) _ _ _ _ _ y q).passed 65535
      (λ v. subst (λ (w : Sizes). depth_cell (used_node_table w x) v ≤ 65535) (sym e) (depth_small v))
