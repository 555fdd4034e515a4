-- The root's map, the nodes after the last whole block, then block by block.
use Rattle.std.proofs.Common.{arith, subst, length, ℕ, ◌+◌, ◌-◌, ◌*◌, ◌≡◌}
use Rattle.tables.specs.inner.MapPairs.{Pairs}
use Rattle.tables.proofs.MapLoop.{map-some, root-args, pairs_start, pairs-all}
use Rattle.tables.proofs.maps.fill_maps.Goals as goal

pub overflow_sub-n : goal.overflow_sub-n
overflow_sub-n c =
    let g = c.args in
    omega (
      arith,
      map-some g.kinds.now g.labels.now g.node_table.now g.inner.now g.s g.k g.state_table.now c.requires,
    )

pub same_row-requires : goal.same_row-requires
same_row-requires c =
    let g = c.args in
    root-args g.kinds.now g.labels.now g.node_table.now g.inner.now g.s g.k g.state_table.now c.requires

pub fill_block-requires : goal.fill_block-requires
fill_block-requires c =
    let g = c.args in
    record {
      first = g.state_table.now;
      args = c.requires;
      done = pairs_start g.kinds.now g.labels.now g.node_table.now g.inner.now g.s g.k g.state_table.now
          c.same_row.new.state_table (length g.kinds.now - 1) (omega (
            arith,
            map-some g.kinds.now g.labels.now
                g.node_table.now g.inner.now g.s g.k g.state_table.now c.requires,
          )) c.same_row.ensures;
      same = omega arith;
      order = omega arith;
      inside = omega arith;
      fits = omega arith;
    }

pub loop-i-init : goal.loop-i-init
loop-i-init c =
    let g = c.args in
    c.fill_block.ensures g.state_table.now
    (pairs_start g.kinds.now g.labels.now g.node_table.now g.inner.now g.s g.k g.state_table.now
    c.same_row.new.state_table (length g.kinds.now - 1) (omega (
      arith,
      map-some g.kinds.now g.labels.now
          g.node_table.now g.inner.now g.s g.k g.state_table.now c.requires,
    )) c.same_row.ensures)

pub fill_block-requires-in-loop-i : goal.fill_block-requires-in-loop-i
fill_block-requires-in-loop-i c =
    let g = c.args in
    let e : c.loop-i.i * 1024 ≡ (c.loop-i.i - 1) * 1024 + 1024 = omega arith in
    record {
      first = g.state_table.now;
      args = c.requires;
      done = subst (λ (x : ℕ). Pairs g.kinds.now g.labels.now g.node_table.now g.inner.now g.s g.k x g.state_table.now
          c.loop-i.state_table) e c.loop-i.invariant;
      same = omega arith;
      order = omega arith;
      inside = omega arith;
      fits = omega arith;
    }

pub loop-i-preserved : goal.loop-i-preserved
loop-i-preserved c =
    let g = c.args in
    let e : c.loop-i.i * 1024 ≡ (c.loop-i.i - 1) * 1024 + 1024 = omega arith in
    c.fill_block-in-loop-i.ensures g.state_table.now
    (subst (λ (x : ℕ). Pairs g.kinds.now g.labels.now g.node_table.now g.inner.now g.s g.k x g.state_table.now
    c.loop-i.state_table) e c.loop-i.invariant)

pub returns : goal.returns
returns c =
    let g = c.args in
    let z : c.loop-i.i * 1024 ≡ 0 = omega arith in
    pairs-all g.kinds.now g.labels.now g.node_table.now g.inner.now g.s g.k g.state_table.now c.loop-i.state_table
    (subst (λ (x : ℕ). Pairs g.kinds.now g.labels.now g.node_table.now g.inner.now g.s g.k x g.state_table.now
    c.loop-i.state_table) z c.loop-i.invariant)
