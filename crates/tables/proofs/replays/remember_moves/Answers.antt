-- One move more is remembered at each iteration.
use Rattle.std.proofs.Common.{arith}
use borrow.Author.Tests.{not-true, not-false}
use Rattle.tables.proofs.RememberLoop.{noting-start, noting-lost, noting-iteration}
use Rattle.tables.proofs.replays.remember_moves.Goals as goal

pub loop-count-init : goal.loop-count-init
loop-count-init c = noting-start _ _ _ _ _ c.requires.long c.requires.at

pub returns-then-not-x : goal.returns-then-not-x
returns-then-not-x c =
    noting-lost _ _ _ _ _ _ _ c.loop-count.invariant (omega arith) c.note_move-x.result c.note_move-x.ensures
    c.requires.at (not-true _ c.if-not-x.true)

pub loop-count-preserved : goal.loop-count-preserved
loop-count-preserved c =
    noting-iteration _ _ _ _ _ _ _ c.loop-count.invariant (omega arith) c.note_move-x.result c.note_move-x.ensures
    (omega arith) (not-false _ c.if-not-x.false)
