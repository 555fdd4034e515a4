-- `write_parts` meets its contract: up, the root's set, down.
use Rattle.trees.proofs.PostorderLaws.{some_node}
use Rattle.allowed.proofs.masks.CallLaws.{root-args, ready}
use native.Mathlib.Omega.{arith}
use Rattle.allowed.proofs.masks.call.write_parts.Goals as goal

pub overflow_sub-kinds : goal.overflow_sub-kinds
overflow_sub-kinds c =
    omega (arith, some_node c.args.kinds.now c.requires.0.postorder)

pub set_root-requires : goal.set_root-requires
set_root-requires c =
    let g = c.args in
    root-args g.kinds.now g.labels.now g.leaves.now g.inner.now g.marks.now g.s g.k c.requires.0 c.requires.1
    g.cells.now c.run_up.new.cells c.run_up.ensures (omega (arith, c.requires.2))

pub come_down-requires : goal.come_down-requires
come_down-requires c =
    let g = c.args in
    record {
      runs = c.requires.0;
      room = omega (arith, c.requires.2);
      marks = g.marks.now;
      first = g.cells.now;
      ready = ready g.kinds.now g.labels.now g.leaves.now g.inner.now g.marks.now g.s g.k c.requires.0 c.requires.1
          g.cells.now c.run_up.new.cells c.run_up.ensures (omega (arith, c.requires.2))
          c.set_root.new.cells c.set_root.ensures;
    }

pub returns : goal.returns
returns c =
    let g = c.args in
    c.come_down.ensures g.marks.now g.cells.now
    (ready g.kinds.now g.labels.now g.leaves.now g.inner.now g.marks.now g.s g.k c.requires.0 c.requires.1
    g.cells.now c.run_up.new.cells c.run_up.ensures (omega (arith, c.requires.2))
    c.set_root.new.cells c.set_root.ensures)
