-- `blocks::block_match` meets its contract.
use Prim.Native.Nat.{◌-◌}
use mathlib.Core.Path.{subst}
use mathlib.Core.Bool.{Bool}
use Rattle.table_checks.specs.inner.Blocks.{Means, Leaves}
use Rattle.table_checks.proofs.BlockLaws.{leaves-told}
use Rattle.table_checks.proofs.CheckLaws.{block_no, block-told}
use Rattle.table_checks.proofs.blocks.block_match.Goals as goal

pub returns-then-not-listed_leaves_match : goal.returns-then-not-listed_leaves_match
returns-then-not-listed_leaves_match c =
    let b = c.list_block-c in
    let m = c.listed_leaves_match in
    let g = c.args in
    block_no g.kinds.now g.labels.now g.node_table.now g.leaves.now g.inner.now g.s g.k
    g.state_table.now g.b g.e
    (subst
    (λ (r : Bool). Means r
    (Leaves g.kinds.now g.labels.now g.node_table.now g.leaves.now g.s
    g.state_table.now g.b g.e))
    c.if-not-listed_leaves_match.true
    (leaves-told g.kinds.now g.labels.now g.node_table.now g.leaves.now g.s
    g.state_table.now g.b g.e
    (g.e - g.b - b.result) b.new.leaf_list b.ensures.leaf m.result m.ensures))

pub returns : goal.returns
returns c =
    let b = c.list_block-c in
    let m = c.listed_leaves_match in
    let g = c.args in
    block-told g.kinds.now g.labels.now g.node_table.now g.leaves.now g.inner.now g.s g.k
    g.state_table.now g.b g.e b.result b.new.list b.ensures.inner
    (subst
    (λ (r : Bool). Means r
    (Leaves g.kinds.now g.labels.now g.node_table.now g.leaves.now g.s
    g.state_table.now g.b g.e))
    c.if-not-listed_leaves_match.false
    (leaves-told g.kinds.now g.labels.now g.node_table.now g.leaves.now g.s
    g.state_table.now g.b g.e
    (g.e - g.b - b.result) b.new.leaf_list b.ensures.leaf m.result m.ensures))
    c.pairs_match.result c.pairs_match.ensures
