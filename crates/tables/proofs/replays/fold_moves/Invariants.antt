-- The first q entries are what the moves and then the map make of them.
use Rattle.tables.specs.Replays.{state_move, carry_down}
use Rattle.tables.specs.inner.Remembered.{remembered, Folded}
use Rattle.tables.proofs.replays.fold_moves.Given as goal

abbrev pub invariant-loop-q : goal.invariant-loop-q
invariant-loop-q l =
    Folded l.s l.map (carry_down (state_move l.s l.k l.labels l.steps l.state_table) (remembered l.moves l.count)) l.q l.out
