-- The root is written, then one node more at each iteration.
use Rattle.std.proofs.Common.{arith, subst, length, length-set, ℕ, ◌+◌, ◌-◌, ◌≡◌, ◌∙◌}
use Rattle.tables.proofs.node_tables.DownLoop.{DownsWritten, node-turns, node-args, root-turns, down_pos}
use Rattle.tables.proofs.node_tables.down.write_down.Goals as goal

pub overflow_sub-root : goal.overflow_sub-root
overflow_sub-root c = down_pos c.args.n c.args.node_table.now c.requires.0

pub bounds-node_table-root : goal.bounds-node_table-root
bounds-node_table-root c = omega (arith, down_pos c.args.n c.args.node_table.now c.requires.0)

pub bounds-node_table-root-2 : goal.bounds-node_table-root-2
bounds-node_table-root-2 c = simp length-set (omega (arith, down_pos c.args.n c.args.node_table.now c.requires.0))

pub loop-v-init : goal.loop-v-init
loop-v-init c =
    root-turns c.args.n (c.args.n - 1) c.args.node_table.now
    (omega (arith, down_pos c.args.n c.args.node_table.now c.requires.0)) c.requires.0.room

pub write_node-requires : goal.write_node-requires
write_node-requires c =
    let g = c.args in
    let e : c.loop-v.v ≡ c.loop-v.v - 1 + 1 = omega arith in
    let k : length c.loop-v.node_table ≡ length g.node_table.now = c.loop-v.auto.node_table ∙ simp length-set in (
      node-args g.n (c.loop-v.v - 1) g.node_table.now c.loop-v.node_table
          (subst (λ (i : ℕ). DownsWritten g.n i g.node_table.now c.loop-v.node_table) e c.loop-v.invariant)
          (omega arith) (omega arith) c.requires.0,
      c.requires.1,
    )

pub loop-v-preserved : goal.loop-v-preserved
loop-v-preserved c =
    let g = c.args in
    let e : c.loop-v.v ≡ c.loop-v.v - 1 + 1 = omega arith in
    let k : length c.loop-v.node_table ≡ length g.node_table.now = c.loop-v.auto.node_table ∙ simp length-set in
    rw c.write_node.ensures
    (node-turns g.n (c.loop-v.v - 1) g.node_table.now c.loop-v.node_table
    (subst (λ (i : ℕ). DownsWritten g.n i g.node_table.now c.loop-v.node_table) e c.loop-v.invariant)
    (omega arith) (omega arith))
