-- Leaves first; then each listed inner node gets its state, and the leaves between two of them are passed by.
use Rattle.std.proofs.Common.{arith, subst, sym, length, get_or, ℕ, ◌+◌, ◌<◌, ◌≡◌}
use Rattle.list_laws.proofs.RowLaws.{stride}
use Rattle.tables.specs.node_tables.inner.InnerNodes.{from}
use Rattle.tables.specs.inner.States.{RunsTo}
use Rattle.tables.proofs.node_tables.InnerNodeLaws.{from_zero}
use Rattle.tables.proofs.StateLoop.{leaf-states, states-raise, states-end, list-states, listed-args, listed-states}
use Rattle.tables.proofs.states.run_block.Goals as goal

pub list_inner-c-requires : goal.list_inner-c-requires
list_inner-c-requires c =
    list-states _ _ _ _ _ _ _ _ c.requires.args _ _ _ c.requires.order c.requires.inside c.requires.fits

pub loop-i-init : goal.loop-i-init
loop-i-init c first W =
    let g = c.args in
    subst (λ (x : ℕ). RunsTo g.s g.k g.leaves.now g.inner.now g.kinds.now g.labels.now x g.e first
    c.leaf_states.new.state_table) (sym (from_zero g.b c.list_inner-c.new.list))
    (leaf-states g.s g.k g.leaves.now g.inner.now g.kinds.now g.labels.now g.b g.e first g.state_table.now
    c.leaf_states.new.state_table c.requires.inside W c.leaf_states.ensures)

pub inner_state-x-requires : goal.inner_state-x-requires
inner_state-x-requires c =
    listed-args _ _ _ _ _ _ _ _ _ _ _ _ _ _ _ c.list_inner-c.ensures (omega arith)
    (c.loop-i.invariant c.requires.first c.requires.done) (omega arith) c.requires.args c.requires.inside

pub bounds-state_table-v : goal.bounds-state_table-v
bounds-state_table-v c =
    let g = c.args in
    let h : c.loop-i.i < c.list_inner-c.result = omega arith in
    let v : ℕ = get_or c.list_inner-c.new.list c.loop-i.i 0 in
    omega (
      arith,
      stride (g.s + 1) v (length g.kinds.now) (omega (arith, c.list_inner-c.ensures.ends c.loop-i.i h, c.requires.inside)),
      c.requires.args.room,
    )

pub loop-i-preserved : goal.loop-i-preserved
loop-i-preserved c first W =
    rw c.inner_state-x.ensures
    (listed-states _ _ _ _ _ _ _ _ _ _ _ _ _ _ _ c.list_inner-c.ensures (omega arith) (c.loop-i.invariant first W)
    (omega arith) c.requires.args c.requires.inside)

pub returns : goal.returns
returns c first W =
    let g = c.args in
    let l = c.list_inner-c.new.list in
    let z : c.loop-i.i ≡ c.list_inner-c.result = omega arith in
    states-end g.s g.k g.leaves.now g.inner.now g.kinds.now g.labels.now g.e first c.loop-i.state_table
    (states-raise g.s g.k g.leaves.now g.inner.now g.kinds.now g.labels.now (from g.b l c.list_inner-c.result) g.e g.e
    first c.loop-i.state_table c.list_inner-c.ensures.rest
    (subst (λ (x : ℕ). RunsTo g.s g.k g.leaves.now g.inner.now g.kinds.now g.labels.now (from g.b l x) g.e first
    c.loop-i.state_table) z (c.loop-i.invariant first W)))
