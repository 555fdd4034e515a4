-- Before the first block, a block more that matches or not, and after the last.
use Rattle.std.proofs.Common.{Bool, arith, subst}
use Rattle.table_checks.specs.inner.Blocks.{Means, Nodes}
use Rattle.table_checks.proofs.CheckLaws.{nodes-none, nodes-more, nodes-no, nodes-all}
use Rattle.table_checks.proofs.blocks.blocks_match.Goals as goal

pub loop-b-init : goal.loop-b-init
loop-b-init c = (omega arith, nodes-none _ _ _ _ _ _ _ _)

pub returns-then-not-block_match : goal.returns-then-not-block_match
returns-then-not-block_match c =
    let g = c.args in
    nodes-no _ _ _ _ _ _ _ _ c.loop-b.b c.block_end-e.result (omega arith)
    (subst (λ (r : Bool). Means r (Nodes g.kinds.now g.labels.now g.node_table.now g.leaves.now
    g.inner.now g.s g.k g.state_table.now c.loop-b.b c.block_end-e.result))
    c.if-not-block_match.true c.block_match.ensures)

pub loop-b-preserved : goal.loop-b-preserved
loop-b-preserved c =
    let g = c.args in (
      omega arith,
      nodes-more _ _ _ _ _ _ _ _ c.loop-b.b c.block_end-e.result c.loop-b.invariant.1
          (subst (λ (r : Bool). Means r (Nodes g.kinds.now g.labels.now g.node_table.now g.leaves.now
          g.inner.now g.s g.k g.state_table.now c.loop-b.b c.block_end-e.result))
          c.if-not-block_match.false c.block_match.ensures),
    )

pub returns : goal.returns
returns c = nodes-all _ _ _ _ _ _ _ _ c.loop-b.b (omega arith) c.loop-b.invariant.1
