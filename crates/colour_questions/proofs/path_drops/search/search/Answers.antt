-- `search` meets its contract: one move more, none that rises, or the depth is reached.
use Rattle.std.proofs.Common.{◌+◌, ◌*◌, ◌<◌, arith}
use Rattle.tables.specs.node_tables.Cells.{cell_forest, depth_cell}
use Rattle.colour_questions.proofs.path_drops.SearchLoop.{searches-start, searches-turn, searches-rises}
use Rattle.colour_questions.proofs.path_drops.SearchLoop.{searches-done, searches-lost}
use Rattle.colour_questions.proofs.path_drops.search.search.Goals as goal
use Rattle.colour_questions.proofs.path_drops.search.search.Goals.{In-loop-u}

deeper : (c : In-loop-u) → c.args.to < depth_cell c.args.nums.now c.loop-u.v
deeper c = omega (arith, c.loop-u-test.true, c.depth_at.ensures)

pub loop-u-init : goal.loop-u-init
loop-u-init c = let g = c.args in searches-start (cell_forest g.n g.nums.now) g.from g.to c.requires.at

pub depth_at-requires : goal.depth_at-requires
depth_at-requires c = omega (arith, c.loop-u.invariant.inside, c.requires.room)

pub move_on-u-requires : goal.move_on-u-requires
move_on-u-requires c = record { at = c.loop-u.invariant.inside; most = c.requires.most; room = c.requires.room }

pub returns-then-n-u : goal.returns-then-n-u
returns-then-n-u c =
    searches-lost _ _ _ _ _ c.loop-u.invariant (deeper (goal.at.returns-then-n-u c).In-loop-u) _ c.move_on-u.ensures
    c.if-n-u.true

pub overflow_add-links : goal.overflow_add-links
overflow_add-links c =
    omega (
      arith,
      c.loop-u.invariant.few,
      deeper (goal.at.overflow_add-links c).In-loop-u,
      c.type_inv.nums (c.args.from * 4 + 2),
    )

pub loop-u-smaller : goal.loop-u-smaller
loop-u-smaller c =
    searches-rises _ _ _ _ _ c.loop-u.invariant (deeper (goal.at.loop-u-smaller c).In-loop-u) _ c.move_on-u.ensures
    (omega (arith, c.if-n-u.false))

pub loop-u-preserved : goal.loop-u-preserved
loop-u-preserved c =
    searches-turn _ _ _ _ _ c.loop-u.invariant (deeper (goal.at.loop-u-preserved c).In-loop-u) _ c.move_on-u.ensures
    (omega (arith, c.if-n-u.false))

pub returns : goal.returns
returns c = searches-done _ _ _ _ _ c.loop-u.invariant (omega (arith, c.loop-u-test.false, c.depth_at.ensures))
