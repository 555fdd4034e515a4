-- No node before the first block, then block by block: the last one ends at the last node.
use Rattle.std.proofs.Common.{arith, subst, length, min, ℕ, ◌≡◌}
use Rattle.tables.specs.inner.States.{StateArgs, Runs}
use Rattle.tables.proofs.states.run_states.Goals as goal

pub run_block-requires : goal.run_block-requires
run_block-requires c =
    let g = c.args in
    let z : length g.state_table.now ≡ length c.loop-b.state_table = omega arith in
    let e : min c.loop-b.b (length g.kinds.now) ≡ c.loop-b.b = omega arith in
    record {
      args = subst (StateArgs g.kinds.now g.labels.now g.node_table.now g.leaves.now g.inner.now g.s g.k) z c.requires;
      first = g.state_table.now;
      done = subst (λ (x : ℕ). Runs g.s g.k g.leaves.now g.inner.now g.kinds.now g.labels.now x g.state_table.now
          c.loop-b.state_table) e c.loop-b.invariant;
      order = omega arith;
      inside = omega arith;
      fits = omega arith;
    }

pub loop-b-preserved : goal.loop-b-preserved
loop-b-preserved c =
    let g = c.args in
    let e : min c.loop-b.b (length g.kinds.now) ≡ c.loop-b.b = omega arith in
    rw (← c.min.ensures) (c.run_block.ensures g.state_table.now
    (subst (λ (x : ℕ). Runs g.s g.k g.leaves.now g.inner.now g.kinds.now g.labels.now x g.state_table.now
    c.loop-b.state_table) e c.loop-b.invariant))

pub returns : goal.returns
returns c =
    let g = c.args in
    let e : min c.loop-b.b (length g.kinds.now) ≡ length g.kinds.now = omega arith in
    subst (λ (x : ℕ). Runs g.s g.k g.leaves.now g.inner.now g.kinds.now g.labels.now x g.state_table.now
    c.loop-b.state_table) e c.loop-b.invariant

pub returns-2 : goal.returns-2
returns-2 c =
    let g = c.args in
    let e : min c.loop-b.b (length g.kinds.now) ≡ c.loop-b.b = omega arith in
    let z : c.min.result ≡ length g.kinds.now = omega arith in
    subst (λ (x : ℕ). Runs g.s g.k g.leaves.now g.inner.now g.kinds.now g.labels.now x g.state_table.now
    c.run_block.new.state_table) z
    (c.run_block.ensures g.state_table.now
    (subst (λ (x : ℕ). Runs g.s g.k g.leaves.now g.inner.now g.kinds.now g.labels.now x g.state_table.now
    c.loop-b.state_table) e c.loop-b.invariant))
