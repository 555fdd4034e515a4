-- `compare::tables_match` meets its contract.
use Prim.Native.Nat.{◌+◌, ◌-◌}
use mathlib.Core.Path.{sym, ◌∙◌}
use lib.ListN.{length}
use Rattle.list_laws.proofs.RowLaws.{stride}
use Rattle.table_checks.proofs.CheckLaws.{below-no, root-node-is-no, root-row-no, nodes-tell, room_of, node-some}
use Rattle.table_checks.proofs.CheckLaws.{kinds-of}
use native.Mathlib.Omega.{arith}
use Rattle.table_checks.proofs.compare.tables_match.Goals as goal

pub returns-then-not-all_below : goal.returns-then-not-all_below
returns-then-not-all_below c =
    let g = c.args in
    below-no g.kinds.now g.labels.now g.node_table.now g.leaves.now g.inner.now g.s g.k
    g.state_table.now c.requires
    (sym c.all_below.ensures ∙ c.if-not-all_below.true)

pub overflow_sub-n : goal.overflow_sub-n
overflow_sub-n c =
    let g = c.args in
    node-some g.kinds.now g.labels.now g.node_table.now g.leaves.now g.inner.now g.s g.k
    g.state_table.now c.requires

pub root_node_is-requires : goal.root_node_is-requires
root_node_is-requires c =
    let g = c.args in
    record {
      most = omega (arith, c.requires.most);
      room = omega (
        arith,
        c.requires.link_room,
        node-some g.kinds.now g.labels.now g.node_table.now g.leaves.now
            g.inner.now g.s g.k g.state_table.now c.requires,
      );
    }

pub returns-then-not-root_node_is : goal.returns-then-not-root_node_is
returns-then-not-root_node_is c =
    let g = c.args in
    root-node-is-no g.kinds.now g.labels.now g.node_table.now g.leaves.now g.inner.now g.s
    g.k g.state_table.now c.requires
    (sym c.root_node_is.ensures ∙ c.if-not-root_node_is.true)

pub overflow_sub-n-2 : goal.overflow_sub-n-2
overflow_sub-n-2 c =
    let g = c.args in
    node-some g.kinds.now g.labels.now g.node_table.now g.leaves.now g.inner.now g.s g.k
    g.state_table.now c.requires

pub root_row_is-requires : goal.root_row_is-requires
root_row_is-requires c =
    let g = c.args in
    omega (
      arith,
      stride (g.s + 1) (length g.kinds.now - 1) (length g.kinds.now)
          (omega (
            arith,
            node-some g.kinds.now g.labels.now g.node_table.now g.leaves.now
                g.inner.now g.s g.k g.state_table.now c.requires,
          )),
      c.requires.room,
    )

pub returns-then-not-root_row_is : goal.returns-then-not-root_row_is
returns-then-not-root_row_is c =
    let g = c.args in
    root-row-no g.kinds.now g.labels.now g.node_table.now g.leaves.now g.inner.now g.s g.k
    g.state_table.now c.requires
    (sym c.root_row_is.ensures ∙ c.if-not-root_row_is.true)

pub blocks_match-requires : goal.blocks_match-requires
blocks_match-requires c =
    let g = c.args in
    let a = c.all_below in
    let e = c.if-not-all_below in (
      record {
        table = room_of g.kinds.now g.labels.now g.node_table.now g.leaves.now g.inner.now g.s
            g.k
            g.state_table.now c.requires (sym a.ensures ∙ e.false);
        kinds = kinds-of g.kinds.now c.requires.postorder;
        fits = omega (arith, c.empty_list-list.ensures);
      },
      c.jump_lengths-lengths.ensures,
    )

pub returns : goal.returns
returns c =
    let g = c.args in
    let x = c.root_node_is in
    let y = c.root_row_is in
    let m = c.blocks_match in
    nodes-tell g.kinds.now g.labels.now g.node_table.now g.leaves.now g.inner.now g.s g.k
    g.state_table.now c.requires
    (sym x.ensures ∙ c.if-not-root_node_is.false)
    (sym y.ensures ∙ c.if-not-root_row_is.false)
    m.result m.ensures
