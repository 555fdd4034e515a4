-- `root_mark` meets its contract: the run, and the mark of its last state.
use Rattle.trees.proofs.PostorderLaws.{some_node}
use Rattle.fewest.proofs.run.RunLaws.{mark-in, root-marked}
use native.Mathlib.Omega.{arith}
use Rattle.fewest.proofs.run.root_mark.Goals as goal

pub overflow_sub-x : goal.overflow_sub-x
overflow_sub-x c = omega (arith, some_node c.args.kinds.now c.requires.pass.postorder)

pub bounds-work-kinds : goal.bounds-work-kinds
bounds-work-kinds c = omega (arith, some_node c.args.kinds.now c.requires.pass.postorder, c.requires.room)

pub bounds-marks-x : goal.bounds-marks-x
bounds-marks-x c =
    let g = c.args in
    omega (arith, c.requires.marks, mark-in g.kinds.now g.labels.now g.leaves.now g.inner.now g.s g.k c.requires.pass g.work.now c.run_up.new.cells c.run_up.ensures)

pub returns : goal.returns
returns c =
    let g = c.args in
    root-marked g.kinds.now g.labels.now g.leaves.now g.inner.now g.s g.k c.requires.pass g.work.now c.run_up.new.cells c.run_up.ensures g.marks.now
